-- Tests of lists, by what stands at each place.
use Rattle.std.proofs.Common.{ℕ, suc, zero, ◌≡◌, ◌≢◌, ◌<◌, ◌≤◌, ◌+◌, ◌⊎◌, ◌&&◌, ◌||◌, not, Bool, true, false, List, [], ◌∷◌, ◌++◌, length, map, Some, Option, refl, sym, ap, subst, ◌∙◌, inl, inr, arith}
use Rattle.std.specs.Prelude.{AllPairs, Contains, slice_get, slice_index_or, nat_le, nat_lt, ◌==◌}
use Rattle.std.specs.List.{list_all, list_any}
use Rattle.std.specs.Str.{bytes_eq}
use Rattle.std.proofs.lemmas.Bool.{false≢true}
use Rattle.std.proofs.lemmas.Bool.Decides.{nat_tests}
use Rattle.std.proofs.lemmas.Option.{get_or_from_slice_get}
use Rattle.std.proofs.lemmas.Slice.Eq.{bytes_eq-Decides}
use Rattle.act1_base.specs.Names.{are_different, are_different_numbers}
use Rattle.act1_base.proofs.ListGets.{get_within, some_is}

pub joined : (a b : Bool) → a ≡ true → b ≡ true → (a && b) ≡ true
joined true b e f = f
joined false b e f = absurd (false≢true e)

pub equal : (m n : ℕ) → m ≡ n → (m == n) ≡ true
equal m n e = grind (arith, nat_tests)

pub equals : (m n : ℕ) → (m == n) ≡ true → m ≡ n
equals m n e = grind (arith, nat_tests)

pub less : (m n : ℕ) → m < n → nat_lt m n ≡ true
less m n e = grind (arith, nat_tests)

pub most : (m n : ℕ) → m ≤ n → nat_le m n ≡ true
most m n e = grind (arith, nat_tests)

module _ {X : Type 0} where
  pub all_by : (p : X → Bool) (xs : List X) → ((j : ℕ) (x : X) → slice_get xs j ≡ Some x → p x ≡ true) → list_all p xs ≡ true
  all_by p [] h = refl
  all_by p (x ∷ xs) h = joined (p x) (list_all p xs) (h 0 x refl) (all_by p xs (λ j y e. h (suc j) y e))

  pub none_by : (p : X → Bool) (xs : List X) → ((j : ℕ) (x : X) → slice_get xs j ≡ Some x → p x ≡ true → ⊥) → list_any p xs ≡ false
  none_by p [] h = refl
  none_by p (x ∷ xs) h = by (p x) refl (none_by p xs (λ j y e. h (suc j) y e))
    where
      by : (b : Bool) → p x ≡ b → list_any p xs ≡ false → (b || list_any p xs) ≡ false
      by true e r = absurd (h 0 x refl e)
      by false e r = r

  pub get_split : (xs ys : List X) (k : ℕ) (x : X) → slice_get (xs ++ ys) k ≡ Some x → (slice_get xs k ≡ Some x) ⊎ ((j : ℕ) × (k ≡ length xs + j) × (slice_get ys j ≡ Some x))
  get_split [] ys k x e = inr (k, omega arith, e)
  get_split (z ∷ xs) ys zero x e = inl e
  get_split (z ∷ xs) ys (suc k) x e = later (get_split xs ys k x e)
    where
      later : (slice_get xs k ≡ Some x) ⊎ ((j : ℕ) × (k ≡ length xs + j) × (slice_get ys j ≡ Some x)) → (slice_get (z ∷ xs) (suc k) ≡ Some x) ⊎ ((j : ℕ) × (suc k ≡ length (z ∷ xs) + j) × (slice_get ys j ≡ Some x))
      later (inl h) = inl h
      later (inr h) = let is = h.1 in inr (h.0, omega arith, h.2)

  pub get_front : (xs ys : List X) (k : ℕ) (x : X) → slice_get xs k ≡ Some x → slice_get (xs ++ ys) k ≡ Some x
  get_front [] ys k x e = cc
  get_front (z ∷ xs) ys zero x e = e
  get_front (z ∷ xs) ys (suc k) x e = get_front xs ys k x e

  pub get_behind : (xs ys : List X) (k j : ℕ) (x : X) → slice_get ys j ≡ Some x → k ≡ length xs + j → slice_get (xs ++ ys) k ≡ Some x
  get_behind [] ys k j x e is = let same : k ≡ j = omega arith in ap (λ (i : ℕ). slice_get ys i) same ∙ e
  get_behind (z ∷ xs) ys zero j x e is = absurd (omega arith)
  get_behind (z ∷ xs) ys (suc k) j x e is = get_behind xs ys k j x e (omega arith)

  pub from_pairs : (R : X → X → Type 0) (xs : List X) → AllPairs R xs → (i j : ℕ) (x y : X) → slice_get xs i ≡ Some x → slice_get xs j ≡ Some y → i < j → R x y
  from_pairs R xs h i j x y e f low =
      let r = h i j x low (get_within xs j y f) in
      subst (λ (u : X). R u y) (get_or_from_slice_get xs i x x e) (subst (λ (u : X). R (slice_index_or xs i x) u) (get_or_from_slice_get xs j y x f) r)

pub different_by : (names : List (List ℕ)) → ((i j : ℕ) (a b : List ℕ) → slice_get names i ≡ Some a → slice_get names j ≡ Some b → i < j → a ≢ b) → are_different names ≡ true
different_by [] h = refl
different_by (name ∷ names) h =
    joined (not (list_any (bytes_eq name) names)) (are_different names)
    (ap not (none_by (bytes_eq name) names (λ j x e same. h 0 (suc j) name x refl e (omega arith) ((bytes_eq-Decides name x).0 same))))
    (different_by names (λ i j a b e f low. h (suc i) (suc j) a b e f (omega arith)))

pub different_numbers_by : (ns : List ℕ) → ((i j a b : ℕ) → slice_get ns i ≡ Some a → slice_get ns j ≡ Some b → i < j → a ≢ b) → are_different_numbers ns ≡ true
different_numbers_by [] h = refl
different_numbers_by (n ∷ ns) h =
    joined (not (list_any (λ m. n == m) ns)) (are_different_numbers ns)
    (ap not (none_by (λ m. n == m) ns (λ j x e same. h 0 (suc j) n x refl e (omega arith) (equals n x same))))
    (different_numbers_by ns (λ i j a b e f low. h (suc i) (suc j) a b e f (omega arith)))
