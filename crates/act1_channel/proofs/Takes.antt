-- What the first elements of a list have at a place.
use Rattle.std.proofs.Common.{ℕ, zero, suc, ◌≡◌, ◌<◌, ◌≤◌, ◌⊎◌, List, [], ◌∷◌, ◌++◌, length, take, Some, slice_get, Contains, refl, sym, ap, ◌∙◌, inl, inr, arith}
use Rattle.act1_base.proofs.ListGets.{contains_at, place_of, get_cases, get_in}

module _ {X : Type 0} where
  pub get_taken : (xs : List X) (n i : ℕ) (x : X) → slice_get (take n xs) i ≡ Some x → (i < n) × (slice_get xs i ≡ Some x)
  get_taken xs zero i x e = cc
  get_taken [] (suc n) i x e = cc
  get_taken (y ∷ xs) (suc n) zero x e = (omega arith, e)
  get_taken (y ∷ xs) (suc n) (suc i) x e = let r = get_taken xs n i x e in let low = r.0 in (omega arith, r.1)

  pub get_take : (xs : List X) (n i : ℕ) (x : X) → i < n → slice_get xs i ≡ Some x → slice_get (take n xs) i ≡ Some x
  get_take xs zero i x low e = absurd (omega arith)
  get_take [] (suc n) i x low e = cc
  get_take (y ∷ xs) (suc n) zero x low e = e
  get_take (y ∷ xs) (suc n) (suc i) x low e = get_take xs n i x (omega arith) e

  pub take_next : (xs : List X) (n : ℕ) (x : X) → slice_get xs n ≡ Some x → take (suc n) xs ≡ take n xs ++ x ∷ []
  take_next [] n x e = cc
  take_next (y ∷ xs) zero x e = cc
  take_next (y ∷ xs) (suc n) x e = ap (λ (r : List X). y ∷ r) (take_next xs n x e)

  pub get_front : (xs ys : List X) (i : ℕ) (x : X) → slice_get xs i ≡ Some x → slice_get (xs ++ ys) i ≡ Some x
  get_front [] ys i x e = cc
  get_front (y ∷ xs) ys zero x e = e
  get_front (y ∷ xs) ys (suc i) x e = get_front xs ys i x e

  pub get_back : (xs ys : List X) (n : ℕ) (x : X) → n < length xs → slice_get (xs ++ ys) n ≡ Some x → slice_get xs n ≡ Some x
  get_back xs ys n x low at = let own = get_in xs n low in own.1 ∙ sym (get_front xs ys n own.0 own.1) ∙ at

  -- an element of a list with one added
  pub contains_back : (xs : List X) (x y : X) → Contains (xs ++ x ∷ []) y → Contains xs y ⊎ (y ≡ x)
  contains_back xs x y among = let at = place_of (xs ++ x ∷ []) y among in from at.0 (get_cases xs x y at.0 at.1)
    where
      from : (i : ℕ) → (slice_get xs i ≡ Some y) ⊎ ((i ≡ length xs) × (x ≡ y)) → Contains xs y ⊎ (y ≡ x)
      from i (inl at) = inl (contains_at xs i y at)
      from i (inr same) = inr (sym same.1)

  pub length_taken : (xs : List X) (n : ℕ) → n ≤ length xs → length (take n xs) ≡ n
  length_taken xs zero low = refl
  length_taken [] (suc n) low = absurd (omega arith)
  length_taken (x ∷ xs) (suc n) low = ap suc (length_taken xs n (omega arith))
