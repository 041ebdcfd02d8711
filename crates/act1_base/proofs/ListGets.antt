-- What a list has at a place, when an element is added or written.
use Rattle.std.proofs.Common.{ℕ, suc, zero, ◌≡◌, ◌≢◌, ◌<◌, ◌⊎◌, List, [], ◌∷◌, ◌++◌, length, map, Option, Some, get_or, refl, sym, ap, ◌∙◌, inl, inr, arith}
use Rattle.std.proofs.lemmas.Option.{slice_get-get_or}
use Rattle.std.specs.Prelude.{Contains, slice_get, slice_set, Result, Ok, Err, OnOk}

module _ {X : Type 0} where
  pub some_is : (x y : X) → Some x ≡ Some y → x ≡ y
  some_is x y e = cc

  -- a place has one element
  pub one_at : (xs : List X) (i : ℕ) (x y : X) → slice_get xs i ≡ Some x → slice_get xs i ≡ Some y → x ≡ y
  one_at xs i x y e f = some_is x y (sym e ∙ f)

  pub get_within : (xs : List X) (i : ℕ) (x : X) → slice_get xs i ≡ Some x → i < length xs
  get_within [] i x e = cc
  get_within (y ∷ xs) zero x e = omega arith
  get_within (y ∷ xs) (suc i) x e = let low = get_within xs i x e in omega arith

  pub get_in : (xs : List X) (i : ℕ) → i < length xs → (x : X) × (slice_get xs i ≡ Some x)
  get_in [] i low = absurd (omega arith)
  get_in (y ∷ xs) zero low = (y, refl)
  get_in (y ∷ xs) (suc i) low = get_in xs i (omega arith)

  -- an element that was there is there when another is added
  pub get_more : (xs : List X) (x y : X) (i : ℕ) → slice_get xs i ≡ Some y → slice_get (xs ++ x ∷ []) i ≡ Some y
  get_more [] x y i e = cc
  get_more (z ∷ xs) x y zero e = e
  get_more (z ∷ xs) x y (suc i) e = get_more xs x y i e

  -- the added element is the last one
  pub get_last : (xs : List X) (x : X) (n : ℕ) → n ≡ length xs → slice_get (xs ++ x ∷ []) n ≡ Some x
  get_last [] x n e = rw e refl
  get_last (z ∷ xs) x zero e = absurd (omega (arith, e))
  get_last (z ∷ xs) x (suc n) e = get_last xs x n (omega (arith, e))

  -- with one added, an element was there or is the added one
  pub get_cases : (xs : List X) (x y : X) (i : ℕ) → slice_get (xs ++ x ∷ []) i ≡ Some y → (slice_get xs i ≡ Some y) ⊎ ((i ≡ length xs) × (x ≡ y))
  get_cases [] x y zero e = inr (refl, cc)
  get_cases [] x y (suc i) e = cc
  get_cases (z ∷ xs) x y zero e = inl e
  get_cases (z ∷ xs) x y (suc i) e = later (get_cases xs x y i e)
    where
      later : (slice_get xs i ≡ Some y) ⊎ ((i ≡ length xs) × (x ≡ y)) → (slice_get (z ∷ xs) (suc i) ≡ Some y) ⊎ ((suc i ≡ length (z ∷ xs)) × (x ≡ y))
      later (inl h) = inl h
      later (inr h) = inr (ap suc h.0, h.1)

  pub contains_at : (xs : List X) (i : ℕ) (x : X) → slice_get xs i ≡ Some x → Contains xs x
  contains_at [] i x e = cc
  contains_at (y ∷ xs) zero x e = (0, omega arith, some_is y x e)
  contains_at (y ∷ xs) (suc i) x e = let r = contains_at xs i x e in let low = r.1 in (suc r.0, omega arith, r.2)

  pub place_of : (xs : List X) (x : X) → Contains xs x → (i : ℕ) × (slice_get xs i ≡ Some x)
  place_of [] x h = absurd (omega (arith, h.1))
  place_of (y ∷ xs) x (zero, low, e) = (0, ap (λ (z : X). Some z) e)
  place_of (y ∷ xs) x (suc k, low, e) = let r = place_of xs x (k, omega arith, e) in (suc r.0, r.1)

  -- what a write leaves at its place, and at the others
  pub get_written : (xs : List X) (i : ℕ) (x : X) → i < length xs → slice_get (slice_set xs i x) i ≡ Some x
  get_written [] i x low = absurd (omega arith)
  get_written (y ∷ xs) zero x low = refl
  get_written (y ∷ xs) (suc i) x low = get_written xs i x (omega arith)

  pub get_unwritten : (xs : List X) (i j : ℕ) (x : X) → j ≢ i → slice_get (slice_set xs i x) j ≡ slice_get xs j
  get_unwritten [] i j x apart = refl
  get_unwritten (y ∷ xs) zero zero x apart = absurd (apart refl)
  get_unwritten (y ∷ xs) zero (suc j) x apart = refl
  get_unwritten (y ∷ xs) (suc i) zero x apart = refl
  get_unwritten (y ∷ xs) (suc i) (suc j) x apart = get_unwritten xs i j x (λ e. apart (ap suc e))

  -- lists with the same element at each place are the same
  pub same_gets : (xs ys : List X) → ((k : ℕ) → slice_get xs k ≡ slice_get ys k) → xs ≡ ys
  same_gets [] [] h = refl
  same_gets [] (y ∷ ys) h = let e = h 0 in cc
  same_gets (x ∷ xs) [] h = let e = h 0 in cc
  same_gets (x ∷ xs) (y ∷ ys) h = let rest = same_gets xs ys (λ k. h (suc k)) in let first = h 0 in cc

pub get_map : {X Y : Type 0} (f : X → Y) (xs : List X) (i : ℕ) (x : X) → slice_get xs i ≡ Some x → slice_get (map f xs) i ≡ Some (f x)
get_map f [] i x e = cc
get_map {X} {Y} f (z ∷ xs) zero x e = ap (λ (u : X). let r : Option Y = Some (f u) in r) (some_is z x e)
get_map f (z ∷ xs) (suc i) x e = get_map f xs i x e

pub get_mapped : {X Y : Type 0} (f : X → Y) (xs : List X) (i : ℕ) (y : Y) → slice_get (map f xs) i ≡ Some y → (x : X) × (slice_get xs i ≡ Some x) × (f x ≡ y)
get_mapped f [] i y e = cc
get_mapped f (z ∷ xs) zero y e = (z, refl, some_is (f z) y e)
get_mapped f (z ∷ xs) (suc i) y e = get_mapped f xs i y e

-- what an `Ok` tells, told by another fact
pub on_ok : {A B : Type 0} (P Q : Type 0) (r : Result A B) → (P → Q) → OnOk r P → OnOk r Q
on_ok P Q (Ok x) f h = f h
on_ok P Q (Err e) f h = tt

-- what an index read
pub get_read : {X : Type 0} (xs : List X) (i : ℕ) (x : X) → i < length xs → x ≡ get_or xs i x → slice_get xs i ≡ Some x
get_read {X} xs i x low e = slice_get-get_or xs i x low ∙ ap (λ (y : X). let r : Option X = Some y in r) (sym e)
