-- Each forest has values at all inputs.
use Rattle.std.proofs.Common.{ℕ, zero, suc, ◌≡◌, ◌≢◌, ◌⊎◌, ◌+◌, ◌<◌, Bool, true, false, List, length, refl, sym, ap, subst, ◌∙◌, inl, inr, arith}
use Rattle.std.specs.Prelude.{if◌then◌else◌, slice_index_or}
use Rattle.std.proofs.lemmas.Bool.{cases_eq}
use Rattle.act1_cover.specs.declared.forest.Forest.{Forest}
use Rattle.act1_cover.specs.declared.forest.Term.{Term}
use Rattle.act1_cover.specs.declared.forest.Term.TheVariants as term
use Rattle.act1_cover.specs.Tilings.{low_of, high_of}
use Rattle.act1_cover.specs.Values.{var_of, AreValues}
use Rattle.act1_cover.specs.Least.{IsForest}

module _ (forest : Forest) (is : IsForest forest) (ys : List Bool) where
  -- the value of a term, following at most r forks
  follow : ℕ → Term → Bool
  follow r term.Zero = false
  follow r term.One = true
  follow r (term.Var v) = slice_index_or ys v false
  follow zero (term.Fork k) = false
  follow (suc r) (term.Fork k) = if slice_index_or ys (var_of forest k) false then follow r (high_of forest k) else follow r (low_of forest k)

  choose : (b : Bool) (h l g m : Bool) → h ≡ g → l ≡ m → (if b then h else l) ≡ (if b then g else m)
  choose true h l g m e f = e
  choose false h l g m e f = f

  abbrev Within : ℕ → Term → Type 0
  Within r e = (k : ℕ) → e ≡ term.Fork k → (k < length forest.forks) × (is.level k < r)

  same : (r s : ℕ) (e : Term) → Within r e → Within s e → follow r e ≡ follow s e
  unfolding follow
  same r s term.Zero h g = refl
  same r s term.One h g = refl
  same r s (term.Var v) h g = refl
  same zero s (term.Fork k) h g = let a = (h k refl).1 in absurd (omega arith)
  same (suc r) zero (term.Fork k) h g = let a = (g k refl).1 in absurd (omega arith)
  same (suc r) (suc s) (term.Fork k) h g =
      let a = h k refl in let b = g k refl in
      choose (slice_index_or ys (var_of forest k) false) (follow r (high_of forest k)) (follow r (low_of forest k)) (follow s (high_of forest k)) (follow s (low_of forest k))
      (same r s (high_of forest k) (λ j e. let c = is.high k j a.0 e in (c.0, omega arith)) (λ j e. let c = is.high k j a.0 e in (c.0, omega arith)))
      (same r s (low_of forest k) (λ j e. let c = is.low k j a.0 e in (c.0, omega arith)) (λ j e. let c = is.low k j a.0 e in (c.0, omega arith)))

  above_all : ℕ → ℕ
  above_all zero = 0
  above_all (suc m) = suc (is.level m + above_all m)

  above_is : (m k : ℕ) → k < m → is.level k < above_all m
  unfolding above_all
  above_is zero k low = absurd (omega arith)
  above_is (suc m) k low = by (cases_eq k m) (λ l. above_is m k l)
    where
      by : (k ≡ m) ⊎ (k ≢ m) → (k < m → is.level k < above_all m) → is.level k < suc (is.level m + above_all m)
      by (inl s) r = let t = ap is.level s in omega arith
      by (inr s) r = let t = r (omega arith) in omega arith

  pub value : Term → Bool
  value e = follow (above_all (length forest.forks)) e

  next : (r : ℕ) (k : ℕ) → k < length forest.forks → is.level k < r → follow r (term.Fork k) ≡ (if slice_index_or ys (var_of forest k) false then follow r (high_of forest k) else follow r (low_of forest k))
  unfolding follow
  next zero k low few = absurd (omega arith)
  next (suc r) k low few =
      choose (slice_index_or ys (var_of forest k) false) (follow r (high_of forest k)) (follow r (low_of forest k)) (follow (suc r) (high_of forest k)) (follow (suc r) (low_of forest k))
      (same r (suc r) (high_of forest k) (λ j e. let c = is.high k j low e in (c.0, omega arith)) (λ j e. let c = is.high k j low e in (c.0, omega arith)))
      (same r (suc r) (low_of forest k) (λ j e. let c = is.low k j low e in (c.0, omega arith)) (λ j e. let c = is.low k j low e in (c.0, omega arith)))

  pub are_values : AreValues forest ys value
  unfolding value follow
  are_values = record {
    zero_is = refl;
    one_is = refl;
    input_is = λ v. refl;
    fork_is = λ k low. next (above_all (length forest.forks)) k low (above_is (length forest.forks) k low);
  }

  -- and one value for each term
  one : (f g : Term → Bool) → AreValues forest ys f → AreValues forest ys g → (r : ℕ) (e : Term) → Within r e → f e ≡ g e
  one f g a b r term.Zero h = a.zero_is ∙ sym b.zero_is
  one f g a b r term.One h = a.one_is ∙ sym b.one_is
  one f g a b r (term.Var v) h = a.input_is v ∙ sym (b.input_is v)
  one f g a b zero (term.Fork k) h = let c = (h k refl).1 in absurd (omega arith)
  one f g a b (suc r) (term.Fork k) h =
      let c = h k refl in
      a.fork_is k c.0
      ∙ choose (slice_index_or ys (var_of forest k) false) (f (high_of forest k)) (f (low_of forest k)) (g (high_of forest k)) (g (low_of forest k))
      (one f g a b r (high_of forest k) (λ j e. let d = is.high k j c.0 e in (d.0, omega arith)))
      (one f g a b r (low_of forest k) (λ j e. let d = is.low k j c.0 e in (d.0, omega arith)))
      ∙ sym (b.fork_is k c.0)

  pub one_value : (f g : Term → Bool) → AreValues forest ys f → AreValues forest ys g → (k : ℕ) → k < length forest.forks → f (term.Fork k) ≡ g (term.Fork k)
  one_value f g a b k low = one f g a b (suc (is.level k)) (term.Fork k) (λ j e. let s : k ≡ j = cc in (subst (λ (i : ℕ). i < length forest.forks) s low, subst (λ (i : ℕ). is.level i < suc (is.level k)) s (omega arith)))
