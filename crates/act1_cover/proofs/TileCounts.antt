-- What a tile covers and refers to, counted: a fork of the same tree is referred to or covered as often as the covered forks have it as a part.
use Rattle.std.proofs.Common.{ℕ, ◌≡◌, ◌≢◌, ◌+◌, ◌<◌, ◌==◌, ◌||◌, Bool, true, false, List, [], ◌∷◌, ◌++◌, length, refl, sym, ap, ◌∙◌, arith}
use Rattle.std.specs.Prelude.{if◌then◌else◌, nat_lt, slice_index_or}
use Rattle.std.specs.List.{flat_map}
use Rattle.std.proofs.lemmas.Bool.{false≢true}
use Rattle.std.proofs.lemmas.Bool.Decides.{nat_tests}
use Rattle.std.proofs.lemmas.Option.{slice_get-get_or}
use Rattle.act1_cover.specs.declared.forest.Forest.{Forest}
use Rattle.act1_cover.specs.declared.forest.Term.{Term}
use Rattle.act1_cover.specs.declared.forest.Term.TheVariants as term
use Rattle.act1_cover.specs.declared.tile.Shape.{Shape}
use Rattle.act1_cover.specs.Tilings.{total, one_if, times, no_fork, low_of, high_of, is_fork, places, references, is_root, inner, number_of, MayStand, when, others, side, ends}
use Rattle.act1_cover.specs.Least.{IsForest}
use Rattle.act1_cover.proofs.Totals.{number_same, same_number, elsewhere, total_append, total_flat, total_two}

pub fork_is : (f : ℕ) (t : Term) → is_fork f t ≡ true → t ≡ term.Fork f
fork_is f (term.Fork j) e = ap term.Fork (same_number j f e)
fork_is f term.Zero e = absurd (false≢true e)
fork_is f term.One e = absurd (false≢true e)
fork_is f (term.Var v) e = absurd (false≢true e)

pub is_the_fork : (f : ℕ) (t : Term) → t ≡ term.Fork f → is_fork f t ≡ true
is_the_fork f t e = ap (is_fork f) e ∙ number_same f f refl

module _ (forest : Forest) where
  -- where a term is a fork of the same tree, that is its number
  pub inner_is : (t : Term) (k : ℕ) → inner forest t ≡ k ∷ [] → (t ≡ term.Fork k) × (is_root forest k ≡ false)
  inner_is (term.Fork j) k e = by (is_root forest j) refl e
    where
      by : (b : Bool) → is_root forest j ≡ b → (if b then [] else j ∷ []) ≡ k ∷ [] → (term.Fork j ≡ term.Fork k) × (is_root forest k ≡ false)
      by true f e = cc
      by false f e = let same : j ≡ k = cc in (ap term.Fork same, ap (is_root forest) (sym same) ∙ f)
  inner_is term.Zero k e = cc
  inner_is term.One k e = cc
  inner_is (term.Var v) k e = cc

  -- a root is no fork of a same tree
  pub no_inner_root : (f : ℕ) (t : Term) → is_root forest f ≡ true → times f (inner forest t) ≡ 0
  no_inner_root f (term.Fork j) e = by (is_root forest j) refl
    where
      by : (b : Bool) → is_root forest j ≡ b → times f (if b then [] else j ∷ []) ≡ 0
      by true g = refl
      by false g = let z = elsewhere j f (λ s. false≢true (sym g ∙ ap (is_root forest) s ∙ e)) in omega arith
  no_inner_root f term.Zero e = refl
  no_inner_root f term.One e = refl
  no_inner_root f (term.Var v) e = refl

  pub no_inner_roots : (f : ℕ) (ts : List Term) → is_root forest f ≡ true → times f (flat_map (inner forest) ts) ≡ 0
  no_inner_roots f [] e = refl
  no_inner_roots f (t ∷ ts) e = let a = no_inner_root f t e in let r = no_inner_roots f ts e in let s = total_append (λ j. one_if (j == f)) (inner forest t) (flat_map (inner forest) ts) in omega arith

  module _ (is : IsForest forest) (f : ℕ) (no_root : is_root forest f ≡ false) where
    abbrev hit : Term → ℕ
    hit t = one_if (is_fork f t)

    -- how often the fork of a number has f as a part
    abbrev pub hits : ℕ → ℕ
    hits q = places f (slice_index_or forest.forks q no_fork)

    hits_are : (q : ℕ) → hits q ≡ hit (low_of forest q) + hit (high_of forest q)
    hits_are q = refl

    inner_hit : (t : Term) → times f (inner forest t) ≡ hit t
    inner_hit (term.Fork j) = by (is_root forest j) refl
      where
        by : (b : Bool) → is_root forest j ≡ b → times f (if b then [] else j ∷ []) ≡ one_if (j == f)
        by true e = sym (elsewhere j f (λ s. false≢true (sym no_root ∙ ap (is_root forest) (sym s) ∙ e)))
        by false e = omega arith
    inner_hit term.Zero = refl
    inner_hit term.One = refl
    inner_hit (term.Var v) = refl

    covered_hit : (t : Term) → inner forest t ≡ number_of t ∷ [] → hit t ≡ one_if (number_of t == f)
    covered_hit (term.Fork j) e = refl
    covered_hit term.Zero e = cc
    covered_hit term.One e = cc
    covered_hit (term.Var v) e = cc

    -- a side of a tile
    hits_when : Bool → ℕ → ℕ
    hits_when true q = hits q
    hits_when false q = 0

    whole_when : (b : Bool) (q : ℕ) → total hits (when b q) ≡ hits_when b q
    unfolding hits_when
    whole_when true q = omega arith
    whole_when false q = refl

    side_counts : (b : Bool) (t : Term) → (b ≡ true → inner forest t ≡ number_of t ∷ [])
        → times f (flat_map (inner forest) (side forest b t)) + times f (when b (number_of t)) ≡ hit t + hits_when b (number_of t)
    unfolding hits_when
    side_counts true t h =
        let low = low_of forest (number_of t) in let high = high_of forest (number_of t) in
        let a = total_append (λ j. one_if (j == f)) (inner forest low) (inner forest high ++ []) in
        let b = total_append (λ j. one_if (j == f)) (inner forest high) [] in
        let c = inner_hit low in let d = inner_hit high in let e = covered_hit t (h refl) in let g = hits_are (number_of t) in
        omega arith
    side_counts false t h =
        let a = total_append (λ j. one_if (j == f)) (inner forest t) [] in let c = inner_hit t in omega arith

    -- two different forks don't both have f as their high part
    pub one_high : (k g : ℕ) → k < length forest.forks → g < length forest.forks → k ≢ g → high_of forest g ≡ high_of forest k → hit (high_of forest g) ≡ 0
    one_high k g k_in g_in apart same = by (is_fork f (high_of forest g)) refl
      where
        by : (b : Bool) → is_fork f (high_of forest g) ≡ b → one_if b ≡ 0
        by false e = refl
        by true e =
            let two = total_two (places f) forest.forks k g (slice_index_or forest.forks k no_fork) (slice_index_or forest.forks g no_fork) apart (slice_get-get_or forest.forks k no_fork k_in) (slice_get-get_or forest.forks g no_fork g_in) in
            let one = ap one_if e in let other = ap one_if (ap (is_fork f) (sym same) ∙ e) in
            let more : nat_lt 1 (references forest f) ≡ true = (let low : 1 < references forest f = omega arith in grind (arith, nat_tests)) in
            absurd (false≢true (sym no_root ∙ ap (λ (t : Bool). is_fork f forest.root || t) more ∙ or_true (is_fork f forest.root)))
          where
            or_true : (b : Bool) → (b || true) ≡ true
            or_true true = refl
            or_true false = refl

    abbrev counted : ℕ → Shape → ℕ
    counted k p = times f (flat_map (inner forest) (ends forest k p)) + times f (others forest k p)

    -- the ends and the covered ones of a tile, with the or form or without it
    split : (k : ℕ) (o h l : Bool) (low : Term) → times f (flat_map (inner forest) (side forest l low ++ side forest h (high_of forest k))) + times f (when o (number_of (low_of forest k)) ++ when h (number_of (high_of forest k)) ++ when l (number_of low))
        ≡ times f (when o (number_of (low_of forest k))) + (times f (flat_map (inner forest) (side forest l low)) + times f (when l (number_of low)) + (times f (flat_map (inner forest) (side forest h (high_of forest k))) + times f (when h (number_of (high_of forest k)))))
    split k o h l low =
        let g = λ (j : ℕ). one_if (j == f) in
        let a = total_flat g (inner forest) (side forest l low ++ side forest h (high_of forest k)) in
        let b = total_append (λ (t : Term). total g (inner forest t)) (side forest l low) (side forest h (high_of forest k)) in
        let c = total_flat g (inner forest) (side forest l low) in
        let d = total_flat g (inner forest) (side forest h (high_of forest k)) in
        let e = total_append g (when o (number_of (low_of forest k)) ++ when h (number_of (high_of forest k))) (when l (number_of low)) in
        let i = total_append g (when o (number_of (low_of forest k))) (when h (number_of (high_of forest k))) in
        omega arith

    split_hits : (k : ℕ) (o h l : Bool) (low : Term) → total hits (when o (number_of (low_of forest k)) ++ when h (number_of (high_of forest k)) ++ when l (number_of low))
        ≡ hits_when o (number_of (low_of forest k)) + hits_when h (number_of (high_of forest k)) + hits_when l (number_of low)
    split_hits k o h l low =
        let a = total_append hits (when o (number_of (low_of forest k)) ++ when h (number_of (high_of forest k))) (when l (number_of low)) in
        let b = total_append hits (when o (number_of (low_of forest k))) (when h (number_of (high_of forest k))) in
        let c = whole_when o (number_of (low_of forest k)) in let d = whole_when h (number_of (high_of forest k)) in let e = whole_when l (number_of low) in
        omega arith

    counted_by : (k : ℕ) (o h l : Bool) → MayStand forest k (record { or_form = o; high_side = h; low_side = l })
        → counted k (record { or_form = o; high_side = h; low_side = l }) ≡ hits k + total hits (others forest k (record { or_form = o; high_side = h; low_side = l }))
    unfolding hits_when
    counted_by k false h l m =
        let a = split k false h l (low_of forest k) in let b = split_hits k false h l (low_of forest k) in
        let c = side_counts l (low_of forest k) m.low_side in let d = side_counts h (high_of forest k) m.high_side in let e = hits_are k in
        omega arith
    counted_by k true h l m =
        let g = number_of (low_of forest k) in
        let low = low_of forest g in
        let is_g = (inner_is (low_of forest k) g (m.or_form refl).0).0 in
        let under = is.low k g m.within is_g in
        let a = split k true h l low in let b = split_hits k true h l low in
        let c = side_counts l low m.low_side in let d = side_counts h (high_of forest k) m.high_side in let e = hits_are k in
        let i = hits_are g in
        let j = covered_hit (low_of forest k) (m.or_form refl).0 in
        let z = one_high k g m.within under.0 (λ s. let t = ap is.level s in omega arith) (m.or_form refl).1 in
        omega arith

    pub tile_counts : (k : ℕ) (p : Shape) → MayStand forest k p → times f (flat_map (inner forest) (ends forest k p)) + times f (others forest k p) ≡ hits k + total hits (others forest k p)
    tile_counts k p m = counted_by k p.or_form p.high_side p.low_side m
