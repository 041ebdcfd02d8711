-- No tiling of a forest has fewer tiles than the sum of its roots' costs, where a fork costs at most what each tile that may stand there costs.
use Rattle.std.proofs.Common.{ℕ, zero, suc, ◌≡◌, ◌≢◌, ◌⊎◌, ◌+◌, ◌<◌, ◌≤◌, ◌==◌, ◌||◌, Bool, true, false, List, [], ◌∷◌, ◌++◌, length, Some, map, refl, sym, ap, ◌∙◌, inl, inr, arith}
use Rattle.std.specs.Prelude.{Contains, if◌then◌else◌, nat_lt, slice_get, slice_index_or}
use Rattle.std.specs.List.{flat_map}
use Rattle.std.proofs.lemmas.Bool.{cases_eq, cases_lt, false≢true}
use Rattle.std.proofs.lemmas.Bool.Decides.{nat_tests}
use Rattle.std.proofs.lemmas.Option.{slice_get-get_or, slice_get_within}
use Rattle.act1_cover.specs.declared.forest.Forest.{Forest}
use Rattle.act1_cover.specs.declared.forest.Fork.{Fork}
use Rattle.act1_cover.specs.declared.forest.Term.{Term}
use Rattle.act1_cover.specs.declared.forest.Term.TheVariants as term
use Rattle.act1_cover.specs.declared.tile.Shape.{Shape}
use Rattle.act1_cover.specs.declared.tile.Tile.{Tile}
use Rattle.act1_cover.specs.Tilings.{total, one_if, times, no_fork, is_fork, places, references, is_root, inner, MayStand, others, ends, covers, IsTiling}
use Rattle.act1_cover.specs.Least.{IsForest}
use Rattle.act1_cover.specs.Costs.{tile_cost}
use Rattle.act1_cover.proofs.Totals.{number_same, here, elsewhere, total_append, total_flat, total_add, total_map, total_same, total_most, total_ones, total_one, total_zero, stands, total_less}
use Rattle.act1_cover.proofs.TileCounts.{no_inner_roots, hits, tile_counts}

pub append_get : {X : Type 0} (vs bs : List X) (j : ℕ) (y : X) → slice_get (vs ++ bs) j ≡ Some y → (slice_get vs j ≡ Some y) ⊎ ((i : ℕ) × (slice_get bs i ≡ Some y))
append_get [] bs j y e = inr (j, e)
append_get (a ∷ vs) bs zero y e = inl e
append_get (a ∷ vs) bs (suc j) y e = append_get vs bs j y e

pub flat_get : {X Y : Type 0} (h : X → List Y) (xs : List X) (j : ℕ) (y : Y) → slice_get (flat_map h xs) j ≡ Some y → (i : ℕ) × (x : X) × (k : ℕ) × (slice_get xs i ≡ Some x) × (slice_get (h x) k ≡ Some y)
flat_get h [] j y e = cc
flat_get {X = X} {Y = Y} h (x ∷ xs) j y e = by (append_get (h x) (flat_map h xs) j y e) (λ i f. flat_get h xs i y f)
  where
    later : ((i : ℕ) × (z : X) × (k : ℕ) × (slice_get xs i ≡ Some z) × (slice_get (h z) k ≡ Some y)) → (i : ℕ) × (z : X) × (k : ℕ) × (slice_get (x ∷ xs) i ≡ Some z) × (slice_get (h z) k ≡ Some y)
    later (i, z, k, a, b) = (suc i, z, k, a, b)

    by : (slice_get (h x) j ≡ Some y) ⊎ ((i : ℕ) × (slice_get (flat_map h xs) i ≡ Some y)) → ((i : ℕ) → slice_get (flat_map h xs) i ≡ Some y → (i : ℕ) × (z : X) × (k : ℕ) × (slice_get xs i ≡ Some z) × (slice_get (h z) k ≡ Some y))
        → (i : ℕ) × (z : X) × (k : ℕ) × (slice_get (x ∷ xs) i ≡ Some z) × (slice_get (h z) k ≡ Some y)
    by (inl f) r = (0, x, j, refl, f)
    by (inr (i, f)) r = later (r i f)

pub contained : {X : Type 0} (xs : List X) (i : ℕ) (x : X) → slice_get xs i ≡ Some x → Contains xs x
contained xs i x e = (i, slice_get_within xs i x e, at xs i x e)
  where
    at : {X : Type 0} (xs : List X) (i : ℕ) (x : X) → slice_get xs i ≡ Some x → slice_index_or xs i x ≡ x
    at [] i x e = cc
    at (y ∷ xs) zero x e = cc
    at (y ∷ xs) (suc i) x e = at xs i x e

pub got : {X : Type 0} (xs : List X) (x : X) → Contains xs x → (i : ℕ) × (slice_get xs i ≡ Some x)
got xs x (i, low, e) = (i, slice_get-get_or xs i x low ∙ ap Some e)

past : {X : Type 0} (xs : List X) (i : ℕ) (d : X) → length xs ≤ i → slice_index_or xs i d ≡ d
past [] i d high = refl
past (x ∷ xs) zero d high = absurd (omega arith)
past (x ∷ xs) (suc i) d high = past xs i d (omega arith)

-- whether a fork is a root
pub root_or : (forest : Forest) (k : ℕ) → (is_root forest k ≡ true) ⊎ (is_root forest k ≡ false)
root_or forest k = by (is_root forest k) refl
  where
    by : (b : Bool) → is_root forest k ≡ b → (is_root forest k ≡ true) ⊎ (is_root forest k ≡ false)
    by true e = inl e
    by false e = inr e

-- a fork that is no root has at most one place that refers to it
pub few_places : (forest : Forest) (f : ℕ) → is_root forest f ≡ false → references forest f ≤ 1
few_places forest f e = by (is_fork f forest.root) e
  where
    by : (b : Bool) → (b || nat_lt 1 (references forest f)) ≡ false → references forest f ≤ 1
    by true h = absurd (false≢true (sym h))
    by false h = grind (arith, nat_tests)

-- the roots below a number
pub root_list : Forest → ℕ → List ℕ
root_list forest zero = []
root_list forest (suc n) = (if is_root forest n then n ∷ [] else []) ++ root_list forest n

-- a root stands there once, and nothing else does
pub none_above : (forest : Forest) (k n : ℕ) → n ≤ k → times k (root_list forest n) ≡ 0
unfolding root_list
none_above forest k zero high = refl
none_above forest k (suc n) high =
    let r = none_above forest k n (omega arith) in
    let a = total_append (λ j. one_if (j == k)) (if is_root forest n then n ∷ [] else []) (root_list forest n) in
    let z = by (is_root forest n) in omega arith
  where
    by : (b : Bool) → times k (if b then n ∷ [] else []) ≡ 0
    by true = let z = elsewhere n k (λ s. omega arith) in omega arith
    by false = refl

pub no_root_there : (forest : Forest) (k n : ℕ) → is_root forest k ≡ false → times k (root_list forest n) ≡ 0
unfolding root_list
no_root_there forest k zero e = refl
no_root_there forest k (suc n) e =
    let r = no_root_there forest k n e in
    let a = total_append (λ j. one_if (j == k)) (if is_root forest n then n ∷ [] else []) (root_list forest n) in
    let z = by (is_root forest n) refl in omega arith
  where
    by : (b : Bool) → is_root forest n ≡ b → times k (if b then n ∷ [] else []) ≡ 0
    by true f = let z = elsewhere n k (λ s. false≢true (sym e ∙ ap (is_root forest) (sym s) ∙ f)) in omega arith
    by false f = refl

pub root_there : (forest : Forest) (k n : ℕ) → is_root forest k ≡ true → k < n → times k (root_list forest n) ≡ 1
unfolding root_list
root_there forest k zero e low = absurd (omega arith)
root_there forest k (suc n) e low =
    let a = total_append (λ j. one_if (j == k)) (if is_root forest n then n ∷ [] else []) (root_list forest n) in
    by (cases_eq n k) a (λ l. root_there forest k n e l)
  where
    here_too : (b : Bool) → is_root forest n ≡ b → n ≡ k → times k (if b then n ∷ [] else []) ≡ 1
    here_too true f s = let z = ap one_if (number_same n k s) in omega arith
    here_too false f s = absurd (false≢true (sym f ∙ ap (is_root forest) s ∙ e))

    not_here : (b : Bool) → n ≢ k → times k (if b then n ∷ [] else []) ≡ 0
    not_here true s = let z = elsewhere n k s in omega arith
    not_here false s = refl

    by : (n ≡ k) ⊎ (n ≢ k) → times k ((if is_root forest n then n ∷ [] else []) ++ root_list forest n) ≡ times k (if is_root forest n then n ∷ [] else []) + times k (root_list forest n)
        → (k < n → times k (root_list forest n) ≡ 1) → times k ((if is_root forest n then n ∷ [] else []) ++ root_list forest n) ≡ 1
    by (inl s) a r = let h = here_too (is_root forest n) refl s in let z = none_above forest k n (omega arith) in omega arith
    by (inr s) a r = let h = not_here (is_root forest n) s in let z = r (omega arith) in omega arith

module _ (forest : Forest) (is : IsForest forest) where
  abbrev pub n : ℕ
  n = length forest.forks

  -- the forks of the same tree to which a tile refers
  abbrev pub refers : Tile → List ℕ
  refers t = flat_map (inner forest) (ends forest t.fork t.shape)

  -- how often the forks that a list of tiles covers have a fork as a part: as often as the one fork that has it is covered
  module _ (f : ℕ) (no_root : is_root forest f ≡ false) where
    abbrev pub has : ℕ → ℕ
    has q = hits forest is f no_root q

    has_is : (q : ℕ) → has q ≡ places f (slice_index_or forest.forks q no_fork)
    has_is q = refl

    -- counted over tiles
    pub over_tiles : (tiles : List Tile) → ((i : ℕ) (t : Tile) → slice_get tiles i ≡ Some t → MayStand forest t.fork t.shape)
        → times f (flat_map refers tiles) + total (λ (t : Tile). times f (others forest t.fork t.shape)) tiles ≡ total has (flat_map (covers forest) tiles)
    over_tiles tiles stand =
        let g = λ (j : ℕ). one_if (j == f) in
        let a = total_flat g refers tiles in
        let b = total_add (λ (t : Tile). times f (refers t)) (λ (t : Tile). times f (others forest t.fork t.shape)) tiles in
        let c = total_same (λ (t : Tile). times f (refers t) + times f (others forest t.fork t.shape)) (λ (t : Tile). total has (covers forest t)) tiles
        (λ i t e. tile_counts forest is f no_root t.fork t.shape (stand i t e)) in
        let d = total_flat has (covers forest) tiles in
        omega arith

    -- where no place refers to it
    never_has : references forest f ≡ 0 → (qs : List ℕ) → total has qs ≡ 0
    never_has none qs = zeros qs
      where
        at : (q : ℕ) → (q < n) ⊎ (n ≤ q) → has q ≡ 0
        at q (inl low) = has_is q ∙ total_zero (places f) forest.forks none q (slice_index_or forest.forks q no_fork) (slice_get-get_or forest.forks q no_fork low)
        at q (inr high) = has_is q ∙ ap (places f) (past forest.forks q no_fork high)

        zeros : (qs : List ℕ) → total has qs ≡ 0
        zeros [] = refl
        zeros (q ∷ qs) = let a = at q (cases_lt q n) in let r = zeros qs in omega arith

    -- where one place does, in the fork p
    abbrev pub OneHas : Type 0
    OneHas = (p : ℕ) × (p < n) × ((qs : List ℕ) → total has qs ≡ times p qs) × (0 < places f (slice_index_or forest.forks p no_fork))

    pub one_has : references forest f ≡ 1 → OneHas
    one_has one = by (total_one (places f) forest.forks one)
      where
        by : ((p : ℕ) × (p < n) × ((i : ℕ) (x : Fork) → slice_get forest.forks i ≡ Some x → places f x ≡ one_if (i == p))) → OneHas
        by (p, low, h) = (p, low, all, (let a = h p (slice_index_or forest.forks p no_fork) (slice_get-get_or forest.forks p no_fork low) in let b = here p in omega arith))
          where
            at : (q : ℕ) → (q < n) ⊎ (n ≤ q) → has q ≡ one_if (q == p)
            at q (inl q_low) = has_is q ∙ h q (slice_index_or forest.forks q no_fork) (slice_get-get_or forest.forks q no_fork q_low)
            at q (inr high) = has_is q ∙ ap (places f) (past forest.forks q no_fork high) ∙ sym (elsewhere q p (λ s. omega arith))

            all : (qs : List ℕ) → total has qs ≡ times p qs
            all [] = refl
            all (q ∷ qs) = let a = at q (cases_lt q n) in let r = all qs in omega arith

  module _ (cost : ℕ → ℕ) (least : (k : ℕ) (p : Shape) → MayStand forest k p → cost k ≤ tile_cost forest cost k p) where
    -- no tiling has fewer
    module _ (tiles : List Tile) (tiling : IsTiling forest tiles) where
      abbrev stood_at : List ℕ
      stood_at = map (λ (t : Tile). t.fork) tiles

      once_referred : (f : ℕ) → is_root forest f ≡ false → times f (flat_map refers tiles) ≤ 1
      once_referred f no_root = by (cases_lt 0 (references forest f))
        where
          by : (0 < references forest f) ⊎ (references forest f ≤ 0) → times f (flat_map refers tiles) ≤ 1
          by (inl some) =
              let o = one_has f no_root (let h = few_places forest f no_root in omega arith) in
              let a = over_tiles f no_root tiles tiling.stand in
              let b = o.2 (flat_map (covers forest) tiles) in
              let c = tiling.once o.0 o.1 in omega arith
          by (inr none) = let a = over_tiles f no_root tiles tiling.stand in let b = never_has f no_root (omega arith) (flat_map (covers forest) tiles) in omega arith

      referred_stands : (f : ℕ) → 0 < times f (flat_map refers tiles) → 0 < times f stood_at
      referred_stands f some =
          let s = stands f (flat_map refers tiles) some in
          let a = flat_get refers tiles s.0 f s.1 in
          let b = flat_get (inner forest) (ends forest a.1.fork a.1.shape) a.2 f a.4 in
          tiling.ends a.0 f a.1 a.3 (contained (ends forest a.1.fork a.1.shape) b.0 (term.Fork f) (b.3 ∙ ap Some (one_inner b.1 b.2 b.4)))
        where
          one_inner : (t : Term) (k : ℕ) → slice_get (inner forest t) k ≡ Some f → t ≡ term.Fork f
          one_inner (term.Fork j) k e = each (is_root forest j) k e
            where
              each : (b : Bool) (k : ℕ) → slice_get (if b then [] else j ∷ []) k ≡ Some f → term.Fork j ≡ term.Fork f
              each true k e = cc
              each false zero e = let same : j ≡ f = cc in ap term.Fork same
              each false (suc k) e = cc
          one_inner term.Zero k e = cc
          one_inner term.One k e = cc
          one_inner (term.Var v) k e = cc

      times_less : (k : ℕ) → times k (flat_map refers tiles ++ root_list forest n) ≤ times k stood_at
      times_less k = by (root_or forest k) (total_append (λ j. one_if (j == k)) (flat_map refers tiles) (root_list forest n))
        where
          no_refer : is_root forest k ≡ true → (ts : List Tile) → times k (flat_map refers ts) ≡ 0
          no_refer e [] = refl
          no_refer e (t ∷ ts) = let a = total_append (λ j. one_if (j == k)) (refers t) (flat_map refers ts) in let b = no_inner_roots forest k (ends forest t.fork t.shape) e in let r = no_refer e ts in omega arith

          root : is_root forest k ≡ true → (k < n) ⊎ (n ≤ k) → times k (root_list forest n) ≤ times k stood_at
          root e (inl low) = let a = root_there forest k n e low in let b = tiling.roots k low e in omega arith
          root e (inr high) = let a = none_above forest k n high in omega arith

          plain : is_root forest k ≡ false → (0 < times k (flat_map refers tiles)) ⊎ (times k (flat_map refers tiles) ≤ 0) → times k (flat_map refers tiles) ≤ times k stood_at
          plain e (inl some) = let a = once_referred k e in let b = referred_stands k some in omega arith
          plain e (inr none) = omega arith

          by : (is_root forest k ≡ true) ⊎ (is_root forest k ≡ false) → times k (flat_map refers tiles ++ root_list forest n) ≡ times k (flat_map refers tiles) + times k (root_list forest n)
              → times k (flat_map refers tiles ++ root_list forest n) ≤ times k stood_at
          by (inl e) a = let z = no_refer e tiles in let r = root e (cases_lt k n) in omega arith
          by (inr e) a = let z = no_root_there forest k n e in let r = plain e (cases_lt 0 (times k (flat_map refers tiles))) in omega arith

      pub none_fewer : total cost (root_list forest n) ≤ length tiles
      none_fewer =
          let a = total_less cost (flat_map refers tiles ++ root_list forest n) stood_at times_less in
          let b = total_append cost (flat_map refers tiles) (root_list forest n) in
          let d = total_map cost (λ (t : Tile). t.fork) tiles in
          let e = total_most (λ (t : Tile). cost t.fork) (λ (t : Tile). 1 + total cost (refers t)) tiles (λ i t e. least t.fork t.shape (tiling.stand i t e)) in
          let f = total_add (λ (t : Tile). 1) (λ (t : Tile). total cost (refers t)) tiles in
          let g = total_ones tiles in
          let h = total_flat cost refers tiles in
          omega arith
