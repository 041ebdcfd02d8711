-- In a tiling each tile but that of the forest's root is referred to by a tile.
use Rattle.std.proofs.Common.{ℕ, zero, suc, ◌≡◌, ◌⊎◌, ◌<◌, ◌≤◌, ◌==◌, ◌||◌, Bool, true, false, List, [], ◌∷◌, ◌++◌, length, Some, refl, sym, ap, subst, ◌∙◌, inl, inr, arith}
use Rattle.std.specs.Prelude.{Contains, nat_lt, slice_get, slice_index_or}
use Rattle.std.specs.List.{flat_map}
use Rattle.std.proofs.lemmas.Bool.{cases_lt, false≢true}
use Rattle.std.proofs.lemmas.Bool.Decides.{nat_tests}
use Rattle.std.proofs.lemmas.List.Elements.{Contains-append_left, Contains-append_right, Contains-append_cases}
use Rattle.std.proofs.lemmas.Option.{slice_get_within, get_or_from_slice_get}
use Rattle.act1_cover.specs.declared.forest.Forest.{Forest}
use Rattle.act1_cover.specs.declared.forest.Fork.{Fork}
use Rattle.act1_cover.specs.declared.forest.Term.{Term}
use Rattle.act1_cover.specs.declared.forest.Term.TheVariants as term
use Rattle.act1_cover.specs.declared.tile.Shape.{Shape}
use Rattle.act1_cover.specs.declared.tile.Tile.{Tile}
use Rattle.act1_cover.specs.Tilings.{total, one_if, times, no_fork, low_of, high_of, is_fork, places, references, is_root, number_of, low_side, MayStand, when, others, side, ends, covers, IsTiling}
use Rattle.act1_cover.specs.Least.{IsForest, EachTileIsRead}
use Rattle.act1_cover.proofs.Totals.{here, total_append, total_flat, total_add, total_at, stands}
use Rattle.act1_cover.proofs.TileCounts.{fork_is}

total_some : {X : Type 0} (g : X → ℕ) (xs : List X) → 0 < total g xs → (i : ℕ) × (x : X) × (slice_get xs i ≡ Some x) × (0 < g x)
total_some g [] h = absurd (omega arith)
total_some {X = X} g (x ∷ xs) h = by (cases_lt 0 (g x)) (total_some g xs)
  where
    by : (0 < g x) ⊎ (g x ≤ 0) → (0 < total g xs → (i : ℕ) × (y : X) × (slice_get xs i ≡ Some y) × (0 < g y)) → (i : ℕ) × (y : X) × (slice_get (x ∷ xs) i ≡ Some y) × (0 < g y)
    by (inl some) r = (0, x, refl, some)
    by (inr none) r = let s = r (omega arith) in (suc s.0, s.1, s.2, s.3)

append_get : {X : Type 0} (vs bs : List X) (j : ℕ) (y : X) → slice_get (vs ++ bs) j ≡ Some y → (slice_get vs j ≡ Some y) ⊎ ((i : ℕ) × (slice_get bs i ≡ Some y))
append_get [] bs j y e = inr (j, e)
append_get (a ∷ vs) bs zero y e = inl e
append_get (a ∷ vs) bs (suc j) y e = append_get vs bs j y e

flat_get : {X Y : Type 0} (h : X → List Y) (xs : List X) (j : ℕ) (y : Y) → slice_get (flat_map h xs) j ≡ Some y → (i : ℕ) × (x : X) × (k : ℕ) × (slice_get xs i ≡ Some x) × (slice_get (h x) k ≡ Some y)
flat_get h [] j y e = cc
flat_get {X = X} {Y = Y} h (x ∷ xs) j y e = by (append_get (h x) (flat_map h xs) j y e) (λ i f. flat_get h xs i y f)
  where
    later : ((i : ℕ) × (z : X) × (k : ℕ) × (slice_get xs i ≡ Some z) × (slice_get (h z) k ≡ Some y)) → (i : ℕ) × (z : X) × (k : ℕ) × (slice_get (x ∷ xs) i ≡ Some z) × (slice_get (h z) k ≡ Some y)
    later (i, z, k, a, b) = (suc i, z, k, a, b)

    by : (slice_get (h x) j ≡ Some y) ⊎ ((i : ℕ) × (slice_get (flat_map h xs) i ≡ Some y)) → ((i : ℕ) → slice_get (flat_map h xs) i ≡ Some y → (i : ℕ) × (z : X) × (k : ℕ) × (slice_get xs i ≡ Some z) × (slice_get (h z) k ≡ Some y))
        → (i : ℕ) × (z : X) × (k : ℕ) × (slice_get (x ∷ xs) i ≡ Some z) × (slice_get (h z) k ≡ Some y)
    by (inl f) r = (0, x, j, refl, f)
    by (inr (i, f)) r = later (r i f)

module _ (forest : Forest) (k : ℕ) where
  -- a part of a covered fork that is the fork k is an end of the tile, or k is covered
  abbrev IsEnd : ℕ → Shape → Type 0
  IsEnd m p = Contains (ends forest m p) (term.Fork k) ⊎ (0 < times k (others forest m p))

  abbrev one : ℕ → ℕ
  one j = one_if (j == k)

  -- the parts of a tile's others
  in_when : (q : ℕ) → q ≡ k → 0 < times k (when true q)
  in_when q e = let z = here k in let s = ap (λ (j : ℕ). one_if (j == k)) e in omega arith

  three : (a b c : List ℕ) → (0 < times k a) ⊎ (0 < times k b) ⊎ (0 < times k c) → 0 < times k (a ++ b ++ c)
  three a b c h = by h
    where
      by : (0 < times k a) ⊎ (0 < times k b) ⊎ (0 < times k c) → 0 < times k (a ++ b ++ c)
      by (inl x) = let u = total_append one (a ++ b) c in let w = total_append one a b in omega arith
      by (inr (inl x)) = let u = total_append one (a ++ b) c in let w = total_append one a b in omega arith
      by (inr (inr x)) = let u = total_append one (a ++ b) c in let w = total_append one a b in omega arith

  number_is : (t : Term) → t ≡ term.Fork k → number_of t ≡ k
  number_is t e = ap number_of e

  -- an end of a side that isn't opened, or the fork that is opened
  side_end : (b : Bool) (t : Term) → t ≡ term.Fork k → Contains (side forest b t) (term.Fork k) ⊎ (0 < times k (when b (number_of t)))
  side_end false t e = inl (0, omega arith, e)
  side_end true t e = inr (in_when (number_of t) (number_is t e))

  side_part : (t : Term) (e : Term) → (low_of forest (number_of t) ≡ e) ⊎ (high_of forest (number_of t) ≡ e) → Contains (side forest true t) e
  side_part t e (inl s) = (0, omega arith, s)
  side_part t e (inr s) = (1, omega arith, s)

  module _ (m : ℕ) (o h l : Bool) (stands_here : MayStand forest m (record { or_form = o; high_side = h; low_side = l })) where
    abbrev p : Shape
    p = record { or_form = o; high_side = h; low_side = l }

    abbrev lows : List Term
    lows = side forest l (low_side forest m o)

    abbrev highs : List Term
    highs = side forest h (high_of forest m)

    abbrev gs : List ℕ
    gs = when o (number_of (low_of forest m))

    abbrev hs : List ℕ
    hs = when h (number_of (high_of forest m))

    abbrev ls : List ℕ
    ls = when l (number_of (low_side forest m o))

    from_low : low_side forest m o ≡ term.Fork k → IsEnd m p
    from_low e = by (side_end l (low_side forest m o) e)
      where
        by : Contains lows (term.Fork k) ⊎ (0 < times k ls) → IsEnd m p
        by (inl c) = inl (Contains-append_left lows highs (term.Fork k) c)
        by (inr c) = inr (three gs hs ls (inr (inr c)))

    from_high : high_of forest m ≡ term.Fork k → IsEnd m p
    from_high e = by (side_end h (high_of forest m) e)
      where
        by : Contains highs (term.Fork k) ⊎ (0 < times k hs) → IsEnd m p
        by (inl c) = inl (Contains-append_right lows highs (term.Fork k) c)
        by (inr c) = inr (three gs hs ls (inr (inl c)))

    at_high : h ≡ true → (low_of forest (number_of (high_of forest m)) ≡ term.Fork k) ⊎ (high_of forest (number_of (high_of forest m)) ≡ term.Fork k) → IsEnd m p
    at_high e c = inl (Contains-append_right lows highs (term.Fork k) (subst (λ (b : Bool). Contains (side forest b (high_of forest m)) (term.Fork k)) (sym e) (side_part (high_of forest m) (term.Fork k) c)))

    at_low : l ≡ true → (low_of forest (number_of (low_side forest m o)) ≡ term.Fork k) ⊎ (high_of forest (number_of (low_side forest m o)) ≡ term.Fork k) → IsEnd m p
    at_low e c = inl (Contains-append_left lows highs (term.Fork k) (subst (λ (b : Bool). Contains (side forest b (low_side forest m o)) (term.Fork k)) (sym e) (side_part (low_side forest m o) (term.Fork k) c)))

  -- the fork at which the tile stands
  at_fork : (m : ℕ) (o h l : Bool) → MayStand forest m (record { or_form = o; high_side = h; low_side = l }) → (low_of forest m ≡ term.Fork k) ⊎ (high_of forest m ≡ term.Fork k) → IsEnd m (record { or_form = o; high_side = h; low_side = l })
  at_fork m false h l s (inl e) = from_low m false h l s e
  at_fork m true h l s (inl e) = inr (three (number_of (low_of forest m) ∷ []) (when h (number_of (high_of forest m))) (when l (number_of (low_side forest m true))) (inl (in_when (number_of (low_of forest m)) (number_is (low_of forest m) e))))
  at_fork m o h l s (inr e) = from_high m o h l s e

  -- the second fork of the OR form
  at_second : (m : ℕ) (h l : Bool) → MayStand forest m (record { or_form = true; high_side = h; low_side = l })
      → (low_of forest (number_of (low_of forest m)) ≡ term.Fork k) ⊎ (high_of forest (number_of (low_of forest m)) ≡ term.Fork k) → IsEnd m (record { or_form = true; high_side = h; low_side = l })
  at_second m h l s (inl e) = from_low m true h l s e
  at_second m h l s (inr e) = from_high m true h l s (sym (s.or_form refl).1 ∙ e)

  in_one : (b : Bool) (q f : ℕ) → Contains (when b q) f → (b ≡ true) × (q ≡ f)
  in_one true q f (zero, low, e) = (refl, e)
  in_one true q f (suc i, low, e) = absurd (omega arith)
  in_one false q f (i, low, e) = absurd (omega arith)

  place_end : (m : ℕ) (o h l : Bool) → MayStand forest m (record { or_form = o; high_side = h; low_side = l }) → (f : ℕ) → Contains (m ∷ others forest m (record { or_form = o; high_side = h; low_side = l })) f
      → (low_of forest f ≡ term.Fork k) ⊎ (high_of forest f ≡ term.Fork k) → IsEnd m (record { or_form = o; high_side = h; low_side = l })
  place_end m o h l s f (zero, low, is) part = at_fork m o h l s (subst (λ (q : ℕ). (low_of forest q ≡ term.Fork k) ⊎ (high_of forest q ≡ term.Fork k)) (sym is) part)
  place_end m o h l s f (suc i, low, is) part =
      by (Contains-append_cases (when o (number_of (low_of forest m)) ++ when h (number_of (high_of forest m))) (when l (number_of (low_side forest m o))) f (i, omega arith, is))
    where
      same : (q : ℕ) → q ≡ f → (low_of forest q ≡ term.Fork k) ⊎ (high_of forest q ≡ term.Fork k)
      same q e = subst (λ (j : ℕ). (low_of forest j ≡ term.Fork k) ⊎ (high_of forest j ≡ term.Fork k)) (sym e) part

      second : (b : Bool) → o ≡ b → b ≡ true → number_of (low_of forest m) ≡ f → IsEnd m (record { or_form = o; high_side = h; low_side = l })
      second b e g is = subst (λ (u : Bool). IsEnd m (record { or_form = u; high_side = h; low_side = l })) (sym (e ∙ g))
          (at_second m h l (subst (λ (u : Bool). MayStand forest m (record { or_form = u; high_side = h; low_side = l })) (e ∙ g) s) (same (number_of (low_of forest m)) is))

      by_two : Contains (when o (number_of (low_of forest m))) f ⊎ Contains (when h (number_of (high_of forest m))) f → IsEnd m (record { or_form = o; high_side = h; low_side = l })
      by_two (inl c) = let a = in_one o (number_of (low_of forest m)) f c in second o refl a.0 a.1
      by_two (inr c) = let a = in_one h (number_of (high_of forest m)) f c in at_high m o h l s a.0 (same (number_of (high_of forest m)) a.1)

      by : Contains (when o (number_of (low_of forest m)) ++ when h (number_of (high_of forest m))) f ⊎ Contains (when l (number_of (low_side forest m o))) f → IsEnd m (record { or_form = o; high_side = h; low_side = l })
      by (inl c) = by_two (Contains-append_cases (when o (number_of (low_of forest m))) (when h (number_of (high_of forest m))) f c)
      by (inr c) = let a = in_one l (number_of (low_side forest m o)) f c in at_low m o h l s a.0 (same (number_of (low_side forest m o)) a.1)

contained : {X : Type 0} (xs : List X) (i : ℕ) (x : X) → slice_get xs i ≡ Some x → Contains xs x
contained xs i x e = (i, slice_get_within xs i x e, get_or_from_slice_get xs i x x e)

module _ (forest : Forest) (is : IsForest forest) (tiles : List Tile) (tiling : IsTiling forest tiles) (i : ℕ) (t : Tile) (at : slice_get tiles i ≡ Some t) (not_root : is_fork t.fork forest.root ≡ false) where
  abbrev k : ℕ
  k = t.fork

  low_k : k < length forest.forks
  low_k = (tiling.stand i t at).within

  some_reference : 0 < references forest k
  some_reference = by (is.used k low_k)
    where
      more : (b : Bool) → (b || nat_lt 1 (references forest k)) ≡ true → b ≡ false → 0 < references forest k
      more true e f = absurd (false≢true (sym f))
      more false e f = grind (arith, nat_tests)

      by : (is_root forest k ≡ true) ⊎ (0 < references forest k) → 0 < references forest k
      by (inl e) = more (is_fork k forest.root) e not_root
      by (inr h) = h

  -- a fork that refers to it, and the tile that covers that fork
  abbrev Referring : Type 0
  Referring = (f : ℕ) × (f < length forest.forks) × ((low_of forest f ≡ term.Fork k) ⊎ (high_of forest f ≡ term.Fork k))

  referring : Referring
  referring =
      let s = total_some (places k) forest.forks some_reference in
      let there : slice_index_or forest.forks s.0 no_fork ≡ s.1 = get_or_from_slice_get forest.forks s.0 s.1 no_fork s.2 in
      (s.0, slice_get_within forest.forks s.0 s.1 s.2, by s.1 s.3 (is_fork k s.1.low) (is_fork k s.1.high) refl refl s.0 there)
    where
      by : (g : Fork) → 0 < places k g → (a b : Bool) → is_fork k g.low ≡ a → is_fork k g.high ≡ b → (f : ℕ) → slice_index_or forest.forks f no_fork ≡ g → (low_of forest f ≡ term.Fork k) ⊎ (high_of forest f ≡ term.Fork k)
      by g h true b e f q there = inl (ap (λ (u : Fork). u.low) there ∙ fork_is k g.low e)
      by g h false true e f q there = inr (ap (λ (u : Fork). u.high) there ∙ fork_is k g.high f)
      by g h false false e f q there = let x = ap one_if e in let y = ap one_if f in absurd (omega arith)

  covered_by : (f : ℕ) → f < length forest.forks → (j : ℕ) × (u : Tile) × (slice_get tiles j ≡ Some u) × Contains (covers forest u) f
  covered_by f low =
      let s = stands f (flat_map (covers forest) tiles) (let o = tiling.once f low in omega arith) in
      let g = flat_get (covers forest) tiles s.0 f s.1 in
      (g.0, g.1, g.3, contained (covers forest g.1) g.2 f g.4)

  -- nothing covers it beside its own tile
  not_covered : (j : ℕ) (u : Tile) → slice_get tiles j ≡ Some u → 0 < times k (others forest u.fork u.shape) → ⊥
  not_covered j u e h =
      let g = λ (q : ℕ). one_if (q == k) in
      let a = total_flat g (covers forest) tiles in
      let b = total_add (λ (w : Tile). one_if (w.fork == k)) (λ (w : Tile). times k (others forest w.fork w.shape)) tiles in
      let c = total_at (λ (w : Tile). one_if (w.fork == k)) tiles i t at in
      let d = total_at (λ (w : Tile). times k (others forest w.fork w.shape)) tiles j u e in
      let z = here k in
      let o = tiling.once k low_k in
      absurd (omega arith)

  abbrev IsReadBy : Type 0
  IsReadBy = (j : ℕ) × (u : Tile) × (slice_get tiles j ≡ Some u) × Contains (ends forest u.fork u.shape) (term.Fork k)

  is_read : IsReadBy
  is_read =
      let r = referring in
      let c = covered_by r.0 r.1 in
      by c.0 c.1 c.2 (place_end forest k c.1.fork c.1.shape.or_form c.1.shape.high_side c.1.shape.low_side (tiling.stand c.0 c.1 c.2) r.0 c.3 r.2)
    where
      by : (j : ℕ) (u : Tile) → slice_get tiles j ≡ Some u → Contains (ends forest u.fork u.shape) (term.Fork k) ⊎ (0 < times k (others forest u.fork u.shape)) → IsReadBy
      by j u e (inl c) = (j, u, e, c)
      by j u e (inr h) = absurd (not_covered j u e h)

pub each_tile_is_read : EachTileIsRead
each_tile_is_read forest is tiles tiling i t at not_root = is_read forest is tiles tiling i t at not_root
