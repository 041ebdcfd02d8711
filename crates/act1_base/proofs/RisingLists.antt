-- Lists that rise by an order: an element that stands later comes after, and each stands once.
use Rattle.std.proofs.Common.{ℕ, suc, zero, ◌≡◌, ◌<◌, ◌⊎◌, List, [], ◌∷◌, Some, refl, ap, subst, ◌∙◌, inl, inr, arith}
use Rattle.std.specs.Prelude.{slice_get}
use Rattle.act1_base.specs.Rising.{Rises}
use Rattle.act1_base.proofs.ListGets.{some_is}

-- pairs of numbers, by the first and then by the second
abbrev pub PairIsBefore : ℕ → ℕ → ℕ → ℕ → Type 0
PairIsBefore a b c d = (a < c) ⊎ ((a ≡ c) × (b < d))

pub pair_itself : (a b : ℕ) → PairIsBefore a b a b → ⊥
pair_itself a b (inl h) = absurd (omega (arith, h))
pair_itself a b (inr h) = absurd (omega (arith, h.1))

pub pair_on : (a b c d e f : ℕ) → PairIsBefore a b c d → PairIsBefore c d e f → PairIsBefore a b e f
pair_on a b c d e f (inl h) (inl k) = inl (omega arith)
pair_on a b c d e f (inl h) (inr k) = let i = k.0 in inl (omega arith)
pair_on a b c d e f (inr h) (inl k) = let i = h.0 in inl (omega arith)
pair_on a b c d e f (inr h) (inr k) = let i = h.1 in let j = k.1 in inr (h.0 ∙ k.0, omega arith)

module _ {X : Type 0} (IsBefore : X → X → Type 0) (never : (x : X) → IsBefore x x → ⊥) (on : (a b c : X) → IsBefore a b → IsBefore b c → IsBefore a c) where
  pub tail_rises : (x : X) (xs : List X) → Rises IsBefore (x ∷ xs) → Rises IsBefore xs
  tail_rises x [] h = tt
  tail_rises x (y ∷ xs) h = h.1

  -- an element that stands later is after
  pub after_first : (x : X) (xs : List X) → Rises IsBefore (x ∷ xs) → (j : ℕ) (y : X) → slice_get xs j ≡ Some y → IsBefore x y
  after_first x [] h j y e = cc
  after_first x (z ∷ xs) h zero y e = subst (λ (s : X). IsBefore x s) (some_is z y e) h.0
  after_first x (z ∷ xs) h (suc j) y e = on x z y h.0 (after_first z xs h.1 j y e)

  -- an element stands at one place
  pub same_place : (xs : List X) → Rises IsBefore xs → (m n : ℕ) (s : X) → slice_get xs m ≡ Some s → slice_get xs n ≡ Some s → m ≡ n
  same_place [] h m n s e f = cc
  same_place (x ∷ xs) h zero zero s e f = refl
  same_place (x ∷ xs) h zero (suc n) s e f = absurd (never s (subst (λ (t : X). IsBefore t s) (some_is x s e) (after_first x xs h n s f)))
  same_place (x ∷ xs) h (suc m) zero s e f = absurd (never s (subst (λ (t : X). IsBefore t s) (some_is x s f) (after_first x xs h m s e)))
  same_place (x ∷ xs) h (suc m) (suc n) s e f = ap suc (same_place xs (tail_rises x xs h) m n s e f)

  -- the elements of two places stand in the order of the places
  pub places_rise : (xs : List X) → Rises IsBefore xs → (m n : ℕ) (s t : X) → slice_get xs m ≡ Some s → slice_get xs n ≡ Some t → m < n → IsBefore s t
  places_rise [] h m n s t e f low = cc
  places_rise (x ∷ xs) h zero zero s t e f low = absurd (omega arith)
  places_rise (x ∷ xs) h zero (suc n) s t e f low = subst (λ (u : X). IsBefore u t) (some_is x s e) (after_first x xs h n t f)
  places_rise (x ∷ xs) h (suc m) zero s t e f low = absurd (omega arith)
  places_rise (x ∷ xs) h (suc m) (suc n) s t e f low = places_rise xs (tail_rises x xs h) m n s t e f (omega arith)
