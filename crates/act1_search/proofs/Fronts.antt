-- Fronts of lists.
use Rattle.std.proofs.Common.{ℕ, zero, suc, ◌≡◌, ◌+◌, ◌≤◌, ◌≢◌, ◌⊎◌, List, [], ◌∷◌, ◌++◌, length, take, drop, Some, slice_get, Contains, refl, sym, ap, inl, inr, arith, zero-add, suc-add}
use Rattle.act1_base.proofs.ListGets.{contains_at, place_of}
pub use Rattle.act1_channel.proofs.Takes.{contains_back, get_front, get_take, get_taken, length_taken, take_next}

module _ {X : Type 0} where
  -- the first elements of the first elements
  pub take_taken : (xs : List X) (m n : ℕ) → m ≤ n → take m (take n xs) ≡ take m xs
  take_taken xs zero n low = refl
  take_taken xs (suc m) zero low = absurd (omega arith)
  take_taken [] (suc m) (suc n) low = refl
  take_taken (y ∷ xs) (suc m) (suc n) low = ap (λ (r : List X). y ∷ r) (take_taken xs m n (omega arith))

  -- those that stand before the added ones
  pub take_front : (xs ys : List X) (n : ℕ) → n ≤ length xs → take n (xs ++ ys) ≡ take n xs
  take_front xs ys zero low = refl
  take_front [] ys (suc n) low = absurd (omega arith)
  take_front (y ∷ xs) ys (suc n) low = ap (λ (r : List X). y ∷ r) (take_front xs ys n (omega arith))

  pub take_whole : (xs : List X) (n : ℕ) → length xs ≤ n → take n xs ≡ xs
  take_whole [] zero low = refl
  take_whole [] (suc n) low = refl
  take_whole (y ∷ xs) zero low = absurd (omega arith)
  take_whole (y ∷ xs) (suc n) low = ap (λ (r : List X). y ∷ r) (take_whole xs n (omega arith))

  pub contains_taken : (xs : List X) (n : ℕ) (x : X) → Contains (take n xs) x → Contains xs x
  contains_taken xs n x among = let at = place_of (take n xs) x among in contains_at xs at.0 x (get_taken xs n at.0 x at.1).1

  pub contains_front : (xs ys : List X) (x : X) → Contains xs x → Contains (xs ++ ys) x
  contains_front xs ys x among = let at = place_of xs x among in contains_at (xs ++ ys) at.0 x (get_front xs ys at.0 x at.1)

  pub contains_longer : (xs : List X) (m n : ℕ) (x : X) → m ≤ n → Contains (take m xs) x → Contains (take n xs) x
  contains_longer xs m n x low among =
      let at = place_of (take m xs) x among in
      let there = get_taken xs m at.0 x at.1 in
      let before = there.0 in
      contains_at (take n xs) at.0 x (get_take xs n at.0 x (omega arith) there.1)

  pub get_dropped : (xs : List X) (n i : ℕ) (x : X) → slice_get (drop n xs) i ≡ Some x → slice_get xs (n + i) ≡ Some x
  get_dropped xs zero i x e = rw zero-add e
  get_dropped [] (suc n) i x e = cc
  get_dropped (y ∷ xs) (suc n) i x e = let r = get_dropped xs n i x e in rw suc-add r

  pub take_then_drop : (xs : List X) (n : ℕ) → take n xs ++ drop n xs ≡ xs
  take_then_drop xs zero = refl
  take_then_drop [] (suc n) = refl
  take_then_drop (y ∷ xs) (suc n) = ap (λ (r : List X). y ∷ r) (take_then_drop xs n)

  -- a list that isn't empty is its front and its last element
  pub front_and_last : (xs : List X) → xs ≢ [] → (front : List X) × (x : X) × (xs ≡ front ++ x ∷ [])
  front_and_last [] some = absurd (some refl)
  front_and_last (y ∷ []) some = ([], y, refl)
  front_and_last (y ∷ z ∷ xs) some = let r = front_and_last (z ∷ xs) (λ e. cc) in (y ∷ r.0, r.1, ap (λ (s : List X). y ∷ s) r.2)

  pub contains_middle : (xs : List X) (y : X) (ys : List X) → Contains (xs ++ y ∷ ys) y
  contains_middle [] y ys = (0, omega arith, refl)
  contains_middle (x ∷ xs) y ys = let r = contains_middle xs y ys in let low = r.1 in (suc r.0, omega arith, r.2)

  pub middle_at : (xs : List X) (y : X) (ys : List X) → slice_get (xs ++ y ∷ ys) (length xs) ≡ Some y
  middle_at [] y ys = refl
  middle_at (x ∷ xs) y ys = middle_at xs y ys

  pub length_at_most : (xs : List X) (n : ℕ) → length (take n xs) ≤ length xs
  length_at_most xs zero = omega arith
  length_at_most [] (suc n) = omega arith
  length_at_most (x ∷ xs) (suc n) = let r = length_at_most xs n in omega arith

  pub contains_cases : (x : X) (xs : List X) (y : X) → Contains (x ∷ xs) y → (y ≡ x) ⊎ Contains xs y
  contains_cases x xs y (zero, low, e) = inl (sym e)
  contains_cases x xs y (suc k, low, e) = inr (k, omega arith, e)
