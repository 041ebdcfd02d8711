-- What a tile refers to is of lower levels than its fork.
use Rattle.std.proofs.Common.{ℕ, zero, suc, ◌≡◌, ◌⊎◌, ◌<◌, ◌≤◌, Bool, true, false, [], ◌∷◌, length, Some, refl, sym, ap, subst, ◌∙◌, inl, inr, arith}
use Rattle.std.specs.Prelude.{slice_get, if◌then◌else◌}
use Rattle.std.specs.List.{flat_map}
use Rattle.act1_cover.specs.declared.forest.Forest.{Forest}
use Rattle.act1_cover.specs.declared.forest.Term.{Term}
use Rattle.act1_cover.specs.declared.forest.Term.TheVariants as term
use Rattle.act1_cover.specs.declared.tile.Shape.{Shape}
use Rattle.act1_cover.specs.Tilings.{low_of, high_of, is_root, inner, number_of, low_side, MayStand, side, ends}
use Rattle.act1_cover.specs.Least.{IsForest}
use Rattle.act1_cover.proofs.TileCounts.{inner_is}
use Rattle.act1_cover.proofs.LeastNumber.{append_get, flat_get}

module _ (forest : Forest) (is : IsForest forest) where
  abbrev n : ℕ
  n = length forest.forks

  -- what a tile refers to is of lower levels
  abbrev pub Below : ℕ → Term → Type 0
  Below l e = (j : ℕ) → e ≡ term.Fork j → (j < n) × (is.level j < l)

  part_below : (m l : ℕ) → m < n → is.level m < l → Below l (low_of forest m) × Below l (high_of forest m)
  part_below m l within low = ((λ j e. let a = is.low m j within e in (a.0, omega arith)), (λ j e. let a = is.high m j within e in (a.0, omega arith)))

  side_below : (l : ℕ) (b : Bool) (t : Term) → Below l t → (b ≡ true → inner forest t ≡ number_of t ∷ []) → (i : ℕ) (e : Term) → slice_get (side forest b t) i ≡ Some e → Below l e
  side_below l false t h k zero e f = let same : t ≡ e = cc in subst (λ (u : Term). Below l u) same h
  side_below l false t h k (suc i) e f = cc
  side_below l true t h k zero e f =
      let m = number_of t in let a = h m (inner_is forest t m (k refl)).0 in
      let same : low_of forest m ≡ e = cc in subst (λ (u : Term). Below l u) same (part_below m l a.0 a.1).0
  side_below l true t h k (suc zero) e f =
      let m = number_of t in let a = h m (inner_is forest t m (k refl)).0 in
      let same : high_of forest m ≡ e = cc in subst (λ (u : Term). Below l u) same (part_below m l a.0 a.1).1
  side_below l true t h k (suc (suc i)) e f = cc

  low_side_below : (k : ℕ) (o : Bool) → k < n → (o ≡ true → inner forest (low_of forest k) ≡ number_of (low_of forest k) ∷ []) → Below (is.level k) (low_side forest k o)
  low_side_below k false within h = λ j e. is.low k j within e
  low_side_below k true within h =
      let g = number_of (low_of forest k) in
      let a = is.low k g within (inner_is forest (low_of forest k) g (h refl)).0 in
      (part_below g (is.level k) a.0 a.1).0

  pub end_below : (k : ℕ) (p : Shape) → MayStand forest k p → (i : ℕ) (e : Term) → slice_get (ends forest k p) i ≡ Some e → Below (is.level k) e
  end_below k p m i e f = by (append_get (side forest p.low_side (low_side forest k p.or_form)) (side forest p.high_side (high_of forest k)) i e f)
    where
      by : (slice_get (side forest p.low_side (low_side forest k p.or_form)) i ≡ Some e) ⊎ ((j : ℕ) × (slice_get (side forest p.high_side (high_of forest k)) j ≡ Some e)) → Below (is.level k) e
      by (inl g) = side_below (is.level k) p.low_side (low_side forest k p.or_form) (low_side_below k p.or_form m.within (λ o. (m.or_form o).0)) m.low_side i e g
      by (inr (j, g)) = side_below (is.level k) p.high_side (high_of forest k) (λ q s. is.high k q m.within s) m.high_side j e g

  -- in its tree a tile refers to forks that come after its own
  abbrev pub After : ℕ → Term → Type 0
  After k e = (j : ℕ) → e ≡ term.Fork j → is_root forest j ≡ false → (j < n) × (k < j)

  part_after : (k m : ℕ) → m < n → k ≤ m → After k (low_of forest m) × After k (high_of forest m)
  part_after k m within low =
      ((λ j e r. let a = is.low m j within e in let b = is.rising m j within r (inl e) in (a.0, omega arith)), (λ j e r. let a = is.high m j within e in let b = is.rising m j within r (inr e) in (a.0, omega arith)))

  side_after : (k : ℕ) (b : Bool) (t : Term) → After k t → (b ≡ true → inner forest t ≡ number_of t ∷ []) → (i : ℕ) (e : Term) → slice_get (side forest b t) i ≡ Some e → After k e
  side_after k false t h c zero e f = let same : t ≡ e = cc in subst (λ (u : Term). After k u) same h
  side_after k false t h c (suc i) e f = cc
  side_after k true t h c zero e f =
      let m = number_of t in let own = inner_is forest t m (c refl) in let a = h m own.0 own.1 in
      let same : low_of forest m ≡ e = cc in subst (λ (u : Term). After k u) same (part_after k m a.0 (let l = a.1 in omega arith)).0
  side_after k true t h c (suc zero) e f =
      let m = number_of t in let own = inner_is forest t m (c refl) in let a = h m own.0 own.1 in
      let same : high_of forest m ≡ e = cc in subst (λ (u : Term). After k u) same (part_after k m a.0 (let l = a.1 in omega arith)).1
  side_after k true t h c (suc (suc i)) e f = cc

  low_side_after : (k : ℕ) (o : Bool) → k < n → (o ≡ true → inner forest (low_of forest k) ≡ number_of (low_of forest k) ∷ []) → After k (low_side forest k o)
  low_side_after k false within h = (part_after k k within (omega arith)).0
  low_side_after k true within h =
      let g = number_of (low_of forest k) in
      let own = inner_is forest (low_of forest k) g (h refl) in
      let a = (part_after k k within (omega arith)).0 g own.0 own.1 in
      (part_after k g a.0 (let l = a.1 in omega arith)).0

  end_after : (k : ℕ) (p : Shape) → MayStand forest k p → (i : ℕ) (e : Term) → slice_get (ends forest k p) i ≡ Some e → After k e
  end_after k p m i e f = by (append_get (side forest p.low_side (low_side forest k p.or_form)) (side forest p.high_side (high_of forest k)) i e f)
    where
      by : (slice_get (side forest p.low_side (low_side forest k p.or_form)) i ≡ Some e) ⊎ ((j : ℕ) × (slice_get (side forest p.high_side (high_of forest k)) j ≡ Some e)) → After k e
      by (inl g) = side_after k p.low_side (low_side forest k p.or_form) (low_side_after k p.or_form m.within (λ o. (m.or_form o).0)) m.low_side i e g
      by (inr (j, g)) = side_after k p.high_side (high_of forest k) (part_after k k m.within (omega arith)).1 m.high_side j e g

  in_inner : (t : Term) (i j : ℕ) → slice_get (inner forest t) i ≡ Some j → (t ≡ term.Fork j) × (is_root forest j ≡ false)
  in_inner (term.Fork m) i j e = by (is_root forest m) refl i e
    where
      by : (b : Bool) → is_root forest m ≡ b → (i : ℕ) → slice_get (if b then [] else m ∷ []) i ≡ Some j → (term.Fork m ≡ term.Fork j) × (is_root forest j ≡ false)
      by true f i e = cc
      by false f zero e = let same : m ≡ j = cc in (ap term.Fork same, ap (is_root forest) (sym same) ∙ f)
      by false f (suc i) e = cc
  in_inner term.Zero i j e = cc
  in_inner term.One i j e = cc
  in_inner (term.Var v) i j e = cc

  pub refers_rise : (k : ℕ) (p : Shape) → MayStand forest k p → (i j : ℕ) → slice_get (flat_map (inner forest) (ends forest k p)) i ≡ Some j → (j < n) × (k < j) × (is_root forest j ≡ false)
  refers_rise k p m i j e =
      let a = flat_get (inner forest) (ends forest k p) i j e in
      let own = in_inner a.1 a.2 j a.4 in
      let b = end_after k p m a.0 a.1 a.3 j own.0 own.1 in
      (b.0, b.1, own.1)
