-- A list whose elements are replaced one after the other.
use Rattle.std.proofs.Common.{ℕ, zero, suc, ◌≡◌, ◌+◌, ◌<◌, List, [], ◌∷◌, ◌++◌, length, map, take, drop, get_or, slice_set, ap, arith}

module _ (f : ℕ → ℕ) where
  -- the first elements by what they are replaced by, and the others as they were
  abbrev pub so_far : ℕ → List ℕ → List ℕ
  so_far i xs = map f (take i xs) ++ drop i xs

  pub one_more : (xs : List ℕ) (i d r : ℕ) → i < length xs → r ≡ f (get_or (so_far i xs) i d) → slice_set (so_far i xs) i r ≡ so_far (i + 1) xs
  one_more [] i d r within is = absurd (omega arith)
  one_more (x ∷ xs) zero d r within is = ap (λ (y : ℕ). y ∷ xs) is
  one_more (x ∷ xs) (suc i) d r within is =
      let next : suc i + 1 ≡ suc (i + 1) = omega arith in
      let low : i < length xs = omega arith in
      rw next (ap (λ (ys : List ℕ). f x ∷ ys) (one_more xs i d r low is))
