-- Tiles that stand exactly at the roots and where a tile refers to are a tiling. Where each is of the least cost, no tiling has fewer.
use Rattle.std.proofs.Common.{ℕ, zero, suc, ◌≡◌, ◌⊎◌, ◌+◌, ◌<◌, ◌≤◌, ◌==◌, ◌||◌, Bool, true, false, List, [], ◌∷◌, ◌++◌, length, Some, map, refl, sym, ap, ◌∙◌, inl, inr, arith}
use Rattle.std.specs.Prelude.{Contains, if◌then◌else◌, nat_lt, slice_get, slice_index_or}
use Rattle.std.specs.List.{flat_map}
use Rattle.std.proofs.lemmas.Bool.{cases_lt, false≢true}
use Rattle.std.proofs.lemmas.Bool.Decides.{nat_tests}
use Rattle.act1_cover.specs.declared.forest.Forest.{Forest}
use Rattle.act1_cover.specs.declared.forest.Term.{Term}
use Rattle.act1_cover.specs.declared.forest.Term.TheVariants as term
use Rattle.act1_cover.specs.declared.tile.Shape.{Shape}
use Rattle.act1_cover.specs.declared.tile.Tile.{Tile}
use Rattle.act1_cover.specs.Tilings.{total, one_if, times, no_fork, low_of, high_of, is_fork, places, references, is_root, inner, number_of, low_side, MayStand, when, others, ends, covers, IsTiling}
use Rattle.act1_cover.specs.Least.{IsForest}
use Rattle.act1_cover.specs.Costs.{tile_cost, refers, is_wanted}
use Rattle.act1_cover.proofs.Totals.{here, total_append, total_flat, total_add, total_map, total_same, total_ones, total_at, total_less, stands}
use Rattle.act1_cover.proofs.TileCounts.{fork_is, no_inner_root, no_inner_roots}
use Rattle.act1_cover.proofs.TileBelow.{end_below, refers_rise}
use Rattle.act1_cover.proofs.LeastNumber.{flat_get, got, root_or, few_places, root_list, none_above, no_root_there, root_there, over_tiles, one_has, none_fewer}

-- 1 where a number is above 0
few_is : (x : ℕ) → x ≤ 1 → one_if (nat_lt 0 x) ≡ x
few_is zero h = refl
few_is (suc zero) h = refl
few_is (suc (suc x)) h = absurd (omega arith)

some_is : (x : ℕ) → 0 < x → nat_lt 0 x ≡ true
some_is x h = grind (arith, nat_tests)

or_true : (b : Bool) → (b || true) ≡ true
or_true true = refl
or_true false = refl

-- the parts of a fork that are another one
place_refers : (forest : Forest) (p f : ℕ) → 0 < places f (slice_index_or forest.forks p no_fork) → (low_of forest p ≡ term.Fork f) ⊎ (high_of forest p ≡ term.Fork f)
place_refers forest p f some = by (is_fork f (low_of forest p)) (is_fork f (high_of forest p)) refl refl some
  where
    by : (a b : Bool) → is_fork f (low_of forest p) ≡ a → is_fork f (high_of forest p) ≡ b → 0 < one_if a + one_if b → (low_of forest p ≡ term.Fork f) ⊎ (high_of forest p ≡ term.Fork f)
    by true b e g h = inl (fork_is f (low_of forest p) e)
    by false true e g h = inr (fork_is f (high_of forest p) g)
    by false false e g h = absurd (omega arith)

module _ (forest : Forest) (is : IsForest forest) (tiles : List Tile) where
  abbrev n : ℕ
  n = length forest.forks

  abbrev stood_at : List ℕ
  stood_at = map (λ (t : Tile). t.fork) tiles

  abbrev referred : List ℕ
  referred = flat_map (refers forest) tiles

  module _ (stand : (i : ℕ) (t : Tile) → slice_get tiles i ≡ Some t → MayStand forest t.fork t.shape) (one : (j : ℕ) → j < n → times j stood_at ≡ one_if (is_wanted forest tiles j)) where
    -- a root has one tile, and another fork one where a tile refers to it
    at_root : (j : ℕ) → j < n → is_root forest j ≡ true → times j stood_at ≡ 1
    at_root j low e = one j low ∙ ap (λ (b : Bool). one_if (b || nat_lt 0 (times j referred))) e

    elsewhere_is : (j : ℕ) → j < n → is_root forest j ≡ false → times j stood_at ≡ one_if (nat_lt 0 (times j referred))
    elsewhere_is j low e = one j low ∙ ap (λ (b : Bool). one_if (b || nat_lt 0 (times j referred))) e

    where_referred : (j : ℕ) → j < n → 0 < times j referred → times j stood_at ≡ 1
    where_referred j low some = one j low ∙ ap one_if (ap (λ (b : Bool). is_root forest j || b) (some_is (times j referred) some) ∙ or_true (is_root forest j))

    -- no tile covers a root but the one that stands there, nor refers to it in its tree
    others_no_root : (f k : ℕ) (p : Shape) → is_root forest f ≡ true → MayStand forest k p → times f (others forest k p) ≡ 0
    others_no_root f k p e m =
        let g = λ (j : ℕ). one_if (j == f) in
        let low = low_of forest k in let high = high_of forest k in let lowest = low_side forest k p.or_form in
        let a = total_append g (when p.or_form (number_of low) ++ when p.high_side (number_of high)) (when p.low_side (number_of lowest)) in
        let b = total_append g (when p.or_form (number_of low)) (when p.high_side (number_of high)) in
        let c = one_side p.or_form low (λ o. (m.or_form o).0) in let d = one_side p.high_side high m.high_side in let h = one_side p.low_side lowest m.low_side in
        omega arith
      where
        one_side : (b : Bool) (t : Term) → (b ≡ true → inner forest t ≡ number_of t ∷ []) → times f (when b (number_of t)) ≡ 0
        one_side false t h = refl
        one_side true t h = let a = no_inner_root forest f t e in let b = ap (times f) (h refl) in omega arith

    no_others : (f : ℕ) → is_root forest f ≡ true → (ts : List Tile) → ((i : ℕ) (t : Tile) → slice_get ts i ≡ Some t → MayStand forest t.fork t.shape) → total (λ (t : Tile). times f (others forest t.fork t.shape)) ts ≡ 0
    no_others f e [] h = refl
    no_others f e (t ∷ ts) h = let a = others_no_root f t.fork t.shape e (h 0 t refl) in let r = no_others f e ts (λ i u g. h (suc i) u g) in omega arith

    no_refers : (f : ℕ) → is_root forest f ≡ true → (ts : List Tile) → times f (flat_map (refers forest) ts) ≡ 0
    no_refers f e [] = refl
    no_refers f e (t ∷ ts) =
        let a = total_append (λ j. one_if (j == f)) (refers forest t) (flat_map (refers forest) ts) in let b = no_inner_roots forest f (ends forest t.fork t.shape) e in let r = no_refers f e ts in omega arith

    cover_split : (f : ℕ) → times f (flat_map (covers forest) tiles) ≡ times f stood_at + total (λ (t : Tile). times f (others forest t.fork t.shape)) tiles
    cover_split f =
        let g = λ (j : ℕ). one_if (j == f) in
        let a = total_flat g (covers forest) tiles in
        let b = total_add (λ (t : Tile). one_if (t.fork == f)) (λ (t : Tile). times f (others forest t.fork t.shape)) tiles in
        let c = total_map g (λ (t : Tile). t.fork) tiles in
        omega arith

    root_once : (f : ℕ) → f < n → is_root forest f ≡ true → times f (flat_map (covers forest) tiles) ≡ 1
    root_once f low e = let a = cover_split f in let b = no_others f e tiles stand in let c = at_root f low e in omega arith

    -- a fork is covered once where the one that refers to it is, and then tiles refer to it at most once
    once_under : (m f : ℕ) → f < n → f ≤ m → ((p : ℕ) → p < m → p < n → times p (flat_map (covers forest) tiles) ≡ 1) → is_root forest f ≡ false → (times f (flat_map (covers forest) tiles) ≡ 1) × (times f referred ≤ 1)
    once_under m f low below known e =
        let some = used (is.used f low) in
        let o = one_has forest is f e (let h = few_places forest f e in omega arith) in
        let before = is.rising o.0 f o.1 e (place_refers forest o.0 f o.3) in
        let once = known o.0 (omega arith) o.1 in
        let a = over_tiles forest is f e tiles stand in
        let b = o.2 (flat_map (covers forest) tiles) in
        let c = cover_split f in
        let few : times f referred ≤ 1 = omega arith in
        let d = elsewhere_is f low e in
        let g = few_is (times f referred) few in
        (omega arith, few)
      where
        used : (is_root forest f ≡ true) ⊎ (0 < references forest f) → 0 < references forest f
        used (inl g) = absurd (false≢true (sym e ∙ g))
        used (inr g) = g

    once_below : (m p : ℕ) → p < m → p < n → times p (flat_map (covers forest) tiles) ≡ 1
    once_below zero p low in_n = absurd (omega arith)
    once_below (suc m) p low in_n = by (root_or forest p) (once_below m)
      where
        by : (is_root forest p ≡ true) ⊎ (is_root forest p ≡ false) → ((q : ℕ) → q < m → q < n → times q (flat_map (covers forest) tiles) ≡ 1) → times p (flat_map (covers forest) tiles) ≡ 1
        by (inl e) known = root_once p in_n e
        by (inr e) known = (once_under m p in_n (omega arith) known e).0

    once : (f : ℕ) → f < n → times f (flat_map (covers forest) tiles) ≡ 1
    once f low = once_below (suc f) f (omega arith) low

    referred_few : (f : ℕ) → f < n → is_root forest f ≡ false → times f referred ≤ 1
    referred_few f low e = (once_under f f low (omega arith) (once_below f) e).1

    -- a fork of the same tree to which a tile refers
    referred_in : (f : ℕ) → 0 < times f referred → (f < n) × (is_root forest f ≡ false)
    referred_in f some =
        let s = stands f referred some in
        let a = flat_get (refers forest) tiles s.0 f s.1 in
        let r = refers_rise forest is a.1.fork a.1.shape (stand a.0 a.1 a.3) a.2 f a.4 in
        (r.0, r.2)

    end_stands : (i k : ℕ) (t : Tile) → slice_get tiles i ≡ Some t → Contains (ends forest t.fork t.shape) (term.Fork k) → 0 < times k stood_at
    end_stands i k t e c =
        let at = got (ends forest t.fork t.shape) (term.Fork k) c in
        let low = (end_below forest is t.fork t.shape (stand i t e) at.0 (term.Fork k) at.1 k refl).0 in
        by (root_or forest k) low at.0 at.1
      where
        by : (is_root forest k ≡ true) ⊎ (is_root forest k ≡ false) → k < n → (j : ℕ) → slice_get (ends forest t.fork t.shape) j ≡ Some (term.Fork k) → 0 < times k stood_at
        by (inl f) low j g = let a = at_root k low f in omega arith
        by (inr f) low j g =
            let at = λ (j : ℕ). one_if (j == k) in
            let b = total_flat at (refers forest) tiles in
            let c = total_at (λ (u : Tile). times k (refers forest u)) tiles i t e in
            let d = total_flat at (inner forest) (ends forest t.fork t.shape) in
            let h = total_at (λ (u : Term). times k (inner forest u)) (ends forest t.fork t.shape) j (term.Fork k) g in
            let z : times k (inner forest (term.Fork k)) ≡ 1 = ap (λ (b : Bool). times k (if b then [] else k ∷ [])) f ∙ (let s = here k in omega arith) in
            let w = where_referred k low (omega arith) in
            omega arith

    pub is_tiling : IsTiling forest tiles
    is_tiling = record {
      stand = stand;
      roots = λ k low e. (let a = at_root k low e in omega arith);
      ends = end_stands;
      once = once;
    }

    -- a tile stands where a root is or where a tile refers to
    stands_by : (x : ℕ) → x < n → times x stood_at ≡ times x (root_list forest n) + times x referred
    stands_by x low = by (root_or forest x)
      where
        by : (is_root forest x ≡ true) ⊎ (is_root forest x ≡ false) → times x stood_at ≡ times x (root_list forest n) + times x referred
        by (inl e) = let a = at_root x low e in let b = root_there forest x n e low in let c = no_refers x e tiles in omega arith
        by (inr e) = let a = elsewhere_is x low e in let b = no_root_there forest x n e in let c = few_is (times x referred) (referred_few x low e) in omega arith

    past : (x : ℕ) → n ≤ x → times x stood_at ≡ 0
    past x high = by (cases_lt 0 (times x stood_at))
      where
        forks_in : (ts : List Tile) (i : ℕ) → slice_get (map (λ (t : Tile). t.fork) ts) i ≡ Some x → ((j : ℕ) (t : Tile) → slice_get ts j ≡ Some t → MayStand forest t.fork t.shape) → x < n
        forks_in [] i e h = cc
        forks_in (t ∷ ts) zero e h = let same : t.fork ≡ x = cc in let m = (h 0 t refl).within in omega arith
        forks_in (t ∷ ts) (suc i) e h = forks_in ts i e (λ j u g. h (suc j) u g)

        by : (0 < times x stood_at) ⊎ (times x stood_at ≤ 0) → times x stood_at ≡ 0
        by (inl some) = let s = stands x stood_at some in let low = forks_in tiles s.0 s.1 stand in absurd (omega arith)
        by (inr none) = omega arith

    past_referred : (x : ℕ) → n ≤ x → times x referred ≡ 0
    past_referred x high = by (cases_lt 0 (times x referred))
      where
        by : (0 < times x referred) ⊎ (times x referred ≤ 0) → times x referred ≡ 0
        by (inl some) = let low = (referred_in x some).0 in absurd (omega arith)
        by (inr none) = omega arith

    same_times : (x : ℕ) → times x stood_at ≡ times x (referred ++ root_list forest n)
    same_times x = by (cases_lt x n) (total_append (λ j. one_if (j == x)) referred (root_list forest n))
      where
        by : (x < n) ⊎ (n ≤ x) → times x (referred ++ root_list forest n) ≡ times x referred + times x (root_list forest n) → times x stood_at ≡ times x (referred ++ root_list forest n)
        by (inl low) a = let b = stands_by x low in omega arith
        by (inr high) a = let b = past x high in let c = past_referred x high in let d = none_above forest x n high in omega arith

    module _ (cost : ℕ → ℕ) (costs : (i : ℕ) (t : Tile) → slice_get tiles i ≡ Some t → cost t.fork ≡ tile_cost forest cost t.fork t.shape) (least : (k : ℕ) (p : Shape) → MayStand forest k p → cost k ≤ tile_cost forest cost k p) where
      as_long : length tiles ≡ total cost (root_list forest n)
      as_long =
          let a = total_less cost stood_at (referred ++ root_list forest n) (λ k. let e = same_times k in omega arith) in
          let b = total_less cost (referred ++ root_list forest n) stood_at (λ k. let e = same_times k in omega arith) in
          let c = total_append cost referred (root_list forest n) in
          let d = total_map cost (λ (t : Tile). t.fork) tiles in
          let e = total_same (λ (t : Tile). cost t.fork) (λ (t : Tile). 1 + total cost (refers forest t)) tiles costs in
          let f = total_add (λ (t : Tile). 1) (λ (t : Tile). total cost (refers forest t)) tiles in
          let g = total_ones tiles in
          let h = total_flat cost (refers forest) tiles in
          omega arith

      pub no_fewer : (other : List Tile) → IsTiling forest other → length tiles ≤ length other
      no_fewer other tiling = let a = as_long in let b = none_fewer forest is cost least other tiling in omega arith
