-- Sums over lists, and how often numbers stand in them.
use Rattle.std.proofs.Common.{ℕ, zero, suc, ◌≡◌, ◌≢◌, ◌⊎◌, ◌+◌, ◌<◌, ◌≤◌, ◌==◌, Bool, true, false, List, [], ◌∷◌, ◌++◌, length, Some, map, refl, sym, ap, ◌∙◌, inl, inr, arith}
use Rattle.std.specs.Prelude.{slice_get}
use Rattle.std.specs.List.{flat_map}
use Rattle.std.proofs.lemmas.Bool.{cases_eq, cases_lt}
use Rattle.std.proofs.lemmas.Bool.Decides.{nat_tests}
use Rattle.act1_cover.specs.Tilings.{total, one_if, times}

pub number_same : (m n : ℕ) → m ≡ n → (m == n) ≡ true
number_same m n e = grind (arith, nat_tests)

pub number_other : (m n : ℕ) → m ≢ n → (m == n) ≡ false
number_other m n e = grind (arith, nat_tests)

pub same_number : (m n : ℕ) → (m == n) ≡ true → m ≡ n
same_number m n e = grind (arith, nat_tests)

pub here : (k : ℕ) → one_if (k == k) ≡ 1
here k = ap one_if (number_same k k refl)

pub elsewhere : (j k : ℕ) → j ≢ k → one_if (j == k) ≡ 0
elsewhere j k apart = ap one_if (number_other j k apart)

pub few : (b : Bool) → one_if b ≤ 1
few true = omega arith
few false = omega arith

pub total_append : {X : Type 0} (g : X → ℕ) (xs ys : List X) → total g (xs ++ ys) ≡ total g xs + total g ys
total_append g [] ys = omega arith
total_append g (x ∷ xs) ys = let r = total_append g xs ys in omega arith

pub total_flat : {X Y : Type 0} (g : Y → ℕ) (h : X → List Y) (xs : List X) → total g (flat_map h xs) ≡ total (λ x. total g (h x)) xs
total_flat g h [] = refl
total_flat g h (x ∷ xs) = let r = total_flat g h xs in let a = total_append g (h x) (flat_map h xs) in omega arith

pub total_add : {X : Type 0} (f g : X → ℕ) (xs : List X) → total (λ x. f x + g x) xs ≡ total f xs + total g xs
total_add f g [] = omega arith
total_add f g (x ∷ xs) = let r = total_add f g xs in omega arith

pub total_map : {X Y : Type 0} (g : Y → ℕ) (h : X → Y) (xs : List X) → total g (map h xs) ≡ total (λ x. g (h x)) xs
total_map g h [] = refl
total_map g h (x ∷ xs) = ap (λ (n : ℕ). g (h x) + n) (total_map g h xs)

pub total_same : {X : Type 0} (f g : X → ℕ) (xs : List X) → ((i : ℕ) (x : X) → slice_get xs i ≡ Some x → f x ≡ g x) → total f xs ≡ total g xs
total_same f g [] h = refl
total_same f g (x ∷ xs) h = let a = h 0 x refl in let r = total_same f g xs (λ i y e. h (suc i) y e) in omega arith

pub total_most : {X : Type 0} (f g : X → ℕ) (xs : List X) → ((i : ℕ) (x : X) → slice_get xs i ≡ Some x → f x ≤ g x) → total f xs ≤ total g xs
total_most f g [] h = omega arith
total_most f g (x ∷ xs) h = let a = h 0 x refl in let r = total_most f g xs (λ i y e. h (suc i) y e) in omega arith

pub total_ones : {X : Type 0} (xs : List X) → total (λ x. 1) xs ≡ length xs
total_ones [] = refl
total_ones (x ∷ xs) = let r = total_ones xs in omega arith

pub total_at : {X : Type 0} (g : X → ℕ) (xs : List X) (i : ℕ) (x : X) → slice_get xs i ≡ Some x → g x ≤ total g xs
total_at g [] i x e = cc
total_at g (y ∷ xs) zero x e = let same : y ≡ x = cc in let f = ap g same in omega arith
total_at g (y ∷ xs) (suc i) x e = let r = total_at g xs i x e in omega arith

-- two elements at different places
pub total_two : {X : Type 0} (g : X → ℕ) (xs : List X) (i j : ℕ) (x y : X) → i ≢ j → slice_get xs i ≡ Some x → slice_get xs j ≡ Some y → g x + g y ≤ total g xs
total_two g [] i j x y apart e f = cc
total_two g (z ∷ xs) zero zero x y apart e f = absurd (apart refl)
total_two g (z ∷ xs) zero (suc j) x y apart e f = let same : z ≡ x = cc in let s = ap g same in let r = total_at g xs j y f in omega arith
total_two g (z ∷ xs) (suc i) zero x y apart e f = let same : z ≡ y = cc in let s = ap g same in let r = total_at g xs i x e in omega arith
total_two g (z ∷ xs) (suc i) (suc j) x y apart e f = let r = total_two g xs i j x y (λ s. apart (ap suc s)) e f in omega arith

-- a sum of 1 has it at one place
pub total_zero : {X : Type 0} (g : X → ℕ) (xs : List X) → total g xs ≡ 0 → (i : ℕ) (x : X) → slice_get xs i ≡ Some x → g x ≡ 0
total_zero g xs e i x f = let a = total_at g xs i x f in omega arith

pub total_one : {X : Type 0} (g : X → ℕ) (xs : List X) → total g xs ≡ 1 → (p : ℕ) × (p < length xs) × ((i : ℕ) (x : X) → slice_get xs i ≡ Some x → g x ≡ one_if (i == p))
total_one g [] e = absurd (omega arith)
total_one {X = X} g (x ∷ xs) e = by (cases_lt 0 (g x)) (total_one g xs)
  where
    by : (0 < g x) ⊎ (g x ≤ 0) → (total g xs ≡ 1 → (p : ℕ) × (p < length xs) × ((i : ℕ) (y : X) → slice_get xs i ≡ Some y → g y ≡ one_if (i == p)))
        → (p : ℕ) × (p < length (x ∷ xs)) × ((i : ℕ) (y : X) → slice_get (x ∷ xs) i ≡ Some y → g y ≡ one_if (i == p))
    by (inl some) r = (0, omega arith, at)
      where
        at : (i : ℕ) (y : X) → slice_get (x ∷ xs) i ≡ Some y → g y ≡ one_if (i == 0)
        at zero y f = let same : x ≡ y = cc in let s = ap g same in omega arith
        at (suc i) y f = total_zero g xs (omega arith) i y f ∙ sym (elsewhere (suc i) 0 (λ h. omega arith))
    by (inr none) r = more (r (omega arith))
      where
        more : ((p : ℕ) × (p < length xs) × ((i : ℕ) (y : X) → slice_get xs i ≡ Some y → g y ≡ one_if (i == p))) → (p : ℕ) × (p < length (x ∷ xs)) × ((i : ℕ) (y : X) → slice_get (x ∷ xs) i ≡ Some y → g y ≡ one_if (i == p))
        more (p, low, h) = (suc p, omega arith, at)
          where
            next : (i : ℕ) → one_if (i == p) ≡ one_if (suc i == suc p)
            next i = eq (cases_eq i p)
              where
                eq : (i ≡ p) ⊎ (i ≢ p) → one_if (i == p) ≡ one_if (suc i == suc p)
                eq (inl s) = ap one_if (number_same i p s) ∙ sym (ap one_if (number_same (suc i) (suc p) (ap suc s)))
                eq (inr s) = ap one_if (number_other i p s) ∙ sym (ap one_if (number_other (suc i) (suc p) (λ t. s (omega arith))))

            at : (i : ℕ) (y : X) → slice_get (x ∷ xs) i ≡ Some y → g y ≡ one_if (i == suc p)
            at zero y f = let same : x ≡ y = cc in let s = ap g same in let z = elsewhere 0 (suc p) (λ t. omega arith) in omega arith
            at (suc i) y f = h i y f ∙ next i

-- a number that stands in a list
pub stands : (k : ℕ) (xs : List ℕ) → 0 < times k xs → (i : ℕ) × (slice_get xs i ≡ Some k)
stands k [] h = absurd (omega arith)
stands k (x ∷ xs) h = by (cases_eq x k) (stands k xs)
  where
    by : (x ≡ k) ⊎ (x ≢ k) → (0 < times k xs → (i : ℕ) × (slice_get xs i ≡ Some k)) → (i : ℕ) × (slice_get (x ∷ xs) i ≡ Some k)
    by (inl e) r = (0, ap Some e)
    by (inr apart) r = let z = elsewhere x k apart in let s = r (omega arith) in (suc s.0, s.1)

pub stood : (k : ℕ) (xs : List ℕ) (i : ℕ) → slice_get xs i ≡ Some k → 0 < times k xs
stood k xs i e = let a = total_at (λ j. one_if (j == k)) xs i k e in let b = here k in omega arith

-- a list without one of its elements
without : ℕ → List ℕ → List ℕ
without zero [] = []
without zero (x ∷ xs) = xs
without (suc i) [] = []
without (suc i) (x ∷ xs) = x ∷ without i xs

without_total : (g : ℕ → ℕ) (xs : List ℕ) (i k : ℕ) → slice_get xs i ≡ Some k → total g xs ≡ g k + total g (without i xs)
unfolding without
without_total g [] i k e = cc
without_total g (x ∷ xs) zero k e = let same : x ≡ k = cc in ap (λ (y : ℕ). g y + total g xs) same
without_total g (x ∷ xs) (suc i) k e = let r = without_total g xs i k e in omega arith

-- where each number stands at most as often in a list as in another, its sums are at most as great
pub total_less : (g : ℕ → ℕ) (xs ys : List ℕ) → ((k : ℕ) → times k xs ≤ times k ys) → total g xs ≤ total g ys
total_less g [] ys h = omega arith
total_less g (x ∷ xs) ys h =
    let one = here x in
    let at = stands x ys (let a = h x in omega arith) in
    let whole = without_total g ys at.0 x at.1 in
    let rest = total_less g xs (without at.0 ys) (λ k. let a = h k in let b = without_total (λ j. one_if (j == k)) ys at.0 x at.1 in omega arith) in
    omega arith
