-- Lists of numbers that differ, and marks of them.
use Rattle.std.proofs.Common.{ℕ, suc, zero, ◌≡◌, ◌≢◌, ◌<◌, ◌≤◌, ◌⊎◌, ◌+◌, ◌&&◌, ◌||◌, ◌==◌, not, Bool, true, false, List, [], ◌∷◌, ◌++◌, length, take, drop, get_or, set, refl, sym, ap, subst, ◌∙◌, inl, inr, arith, append_assoc}
use Rattle.std.specs.Prelude.{nat_lt}
use Rattle.std.specs.List.{list_all, list_any, AllByRecursion, IsDistinct}
use Rattle.std.proofs.lemmas.Bool.{cases_eq, false≢true}
use Rattle.std.proofs.lemmas.Bool.Decides.{nat_tests}
use Rattle.std.proofs.lemmas.List.{get_or-set_same, get_or-set_other, length-set}
use Rattle.std.proofs.lemmas.List.Folds.{list_any-append}
use Rattle.std.proofs.lemmas.Map.Steps.{length-le_from_distinct_below}
use Rattle.act1_base.specs.Names.{are_different_numbers}
use Rattle.act1_blifread.specs.Faults.{is_among}
use Rattle.act1_blifread.specs.NetlistSteps.{AreMarks}

pub both_true : (a b : Bool) → (a && b) ≡ true → (a ≡ true) × (b ≡ true)
both_true true true e = (refl, refl)
both_true true false e = absurd (false≢true e)
both_true false b e = absurd (false≢true e)

pub true_both : (a b : Bool) → a ≡ true → b ≡ true → (a && b) ≡ true
true_both a b e f = cc

pub equal_turned : (m n : ℕ) → (m == n) ≡ (n == m)
equal_turned m n = grind (arith, nat_tests)

pub equal_true : (m n : ℕ) → m ≡ n → (m == n) ≡ true
equal_true m n e = grind (arith, nat_tests)

pub true_equal : (m n : ℕ) → (m == n) ≡ true → m ≡ n
true_equal m n e = grind (arith, nat_tests)

pub equal_false : (m n : ℕ) → m ≢ n → (m == n) ≡ false
equal_false m n e = grind (arith, nat_tests)

-- with one number more at the end
pub different_more : (xs : List ℕ) (y : ℕ) → are_different_numbers (xs ++ y ∷ []) ≡ (are_different_numbers xs && not (is_among xs y))
different_more [] y = refl
different_more (x ∷ xs) y =
    step (list_any (λ m. x == m) xs) (list_any (λ m. x == m) (xs ++ y ∷ [])) (x == y) (are_different_numbers xs) (are_different_numbers (xs ++ y ∷ [])) (is_among xs y)
    (list_any-append (λ m. x == m) xs (y ∷ [])) (different_more xs y)
  where
    step : (a b e d f g : Bool) → b ≡ (a || (e || false)) → f ≡ (d && not g) → (not b && f) ≡ ((not a && d) && not (e || g))
    step a b e d f g p q = rw (p, q) (cases a e d g)
      where
        cases : (a e d g : Bool) → (not (a || (e || false)) && (d && not g)) ≡ ((not a && d) && not (e || g))
        cases true e d g = refl
        cases false true true g = refl
        cases false true false g = refl
        cases false false d g = refl

-- a front of numbers that differ
pub different_front : (xs ys : List ℕ) → are_different_numbers xs ≡ false → are_different_numbers (xs ++ ys) ≡ false
different_front [] ys e = absurd (false≢true (sym e))
different_front (x ∷ xs) ys e =
    step (list_any (λ m. x == m) xs) (list_any (λ m. x == m) ys) (list_any (λ m. x == m) (xs ++ ys)) (are_different_numbers xs) (are_different_numbers (xs ++ ys))
    (list_any-append (λ m. x == m) xs ys) (different_front xs ys) e
  where
    step : (a b c d f : Bool) → c ≡ (a || b) → (d ≡ false → f ≡ false) → (not a && d) ≡ false → (not c && f) ≡ false
    step true b c d f p q r = rw p refl
    step false b c false f p q r = rw (q refl) (end (not c))
      where
        end : (a : Bool) → (a && false) ≡ false
        end true = refl
        end false = refl
    step false b c true f p q r = absurd (false≢true (sym r))

-- what stands at a place, between what is before it and behind it
pub split_at : {X : Type 0} (xs : List X) (i : ℕ) (d : X) → i < length xs → take i xs ++ (get_or xs i d ∷ drop (i + 1) xs) ≡ xs
split_at [] i d low = absurd (omega arith)
split_at (x ∷ xs) zero d low = refl
split_at {X} (x ∷ xs) (suc i) d low = let e : suc i + 1 ≡ suc (i + 1) = omega arith in rw e (ap (λ (ys : List X). x ∷ ys) (split_at xs i d (omega arith)))

pub is_among_more : (xs ys : List ℕ) (n : ℕ) → is_among (xs ++ ys) n ≡ (is_among xs n || is_among ys n)
is_among_more xs ys n = list_any-append (λ m. m == n) xs ys

-- a name that is marked comes again
pub marked_again : (count : ℕ) (before : List ℕ) (marks : List Bool) (n : ℕ) (rest : List ℕ) → AreMarks count before marks → n < count → get_or marks n false ≡ true → are_different_numbers (before ++ (n ∷ rest)) ≡ false
marked_again count before marks n rest m low is =
    let again : are_different_numbers (before ++ n ∷ []) ≡ false = different_more before n ∙ ap (λ b. are_different_numbers before && not b) (sym (m.each n low) ∙ is) ∙ end (are_different_numbers before) in
    ap are_different_numbers (sym (append_assoc before (n ∷ []) rest)) ∙ different_front (before ++ n ∷ []) rest again
  where
    end : (a : Bool) → (a && false) ≡ false
    end true = refl
    end false = refl

-- a name that isn't marked is marked
pub marked_more : (count : ℕ) (before : List ℕ) (marks : List Bool) (n : ℕ) → AreMarks count before marks → n < count → get_or marks n false ≡ false → AreMarks count (before ++ n ∷ []) (set marks n true)
marked_more count before marks n m low is =
    record {
      apart = different_more before n ∙ ap (λ b. are_different_numbers before && not b) (sym (m.each n low) ∙ is) ∙ ap (λ b. b && true) m.apart;
      all = length-set marks n true ∙ m.all;
      each = λ k small. by k small (cases_eq k n);
    }
  where
    by : (k : ℕ) → k < count → (k ≡ n) ⊎ (k ≢ n) → get_or (set marks n true) k false ≡ is_among (before ++ n ∷ []) k
    by k small (inl e) =
        let there : n < length marks = omega (arith, m.all) in
        subst (λ (j : ℕ). get_or (set marks n true) j false ≡ is_among (before ++ n ∷ []) j) (sym e)
        (get_or-set_same marks n true false there ∙ sym (is_among_more before (n ∷ []) n ∙ ap (λ b. is_among before n || (b || false)) (equal_true n n refl) ∙ end (is_among before n)))
      where
        end : (a : Bool) → (a || true) ≡ true
        end true = refl
        end false = refl
    by k small (inr apart) =
        get_or-set_other marks n k true false apart ∙ m.each k small ∙ sym (is_among_more before (n ∷ []) k ∙ ap (λ b. is_among before k || (b || false)) (equal_false n k (λ e. apart (sym e))) ∙ end (is_among before k))
      where
        end : (a : Bool) → (a || false) ≡ a
        end true = refl
        end false = refl

-- no name is marked at first
pub no_marks : (count : ℕ) (marks : List Bool) → length marks ≡ count → ((n : ℕ) → n < count → get_or marks n false ≡ false) → AreMarks count [] marks
no_marks count marks all each = record { apart = refl; all = all; each = each }

-- one of the numbers is below the count that all are below
pub below_at : (count : ℕ) (ns : List ℕ) (i : ℕ) → i < length ns → list_all (λ n. nat_lt n count) ns ≡ true → get_or ns i 0 < count
below_at count [] i low h = absurd (omega arith)
below_at count (n ∷ ns) zero low h = let e = (both_true (nat_lt n count) (list_all (λ m. nat_lt m count) ns) h).0 in grind (arith, nat_tests)
below_at count (n ∷ ns) (suc i) low h = below_at count ns i (omega arith) (both_true (nat_lt n count) (list_all (λ m. nat_lt m count) ns) h).1

pub any_turned : (n : ℕ) (xs : List ℕ) → list_any (λ m. n == m) xs ≡ is_among xs n
any_turned n [] = refl
any_turned n (x ∷ xs) = ap (λ (b : Bool). b || list_any (λ m. n == m) xs) (equal_turned n x) ∙ ap (λ (b : Bool). (x == n) || b) (any_turned n xs)

pub not_true : (b : Bool) → not b ≡ true → b ≡ false
not_true true e = absurd (false≢true e)
not_true false e = refl

pub not_false : (b : Bool) → b ≡ false → not b ≡ true
not_false true e = absurd (false≢true (sym e))
not_false false e = refl

-- the first of different numbers is none of the others
pub first_apart : (n : ℕ) (xs : List ℕ) → are_different_numbers (n ∷ xs) ≡ true → is_among xs n ≡ false
first_apart n xs e = sym (any_turned n xs) ∙ not_true (list_any (λ m. n == m) xs) (both_true (not (list_any (λ m. n == m) xs)) (are_different_numbers xs) e).0

pub others_apart : (n : ℕ) (xs : List ℕ) → are_different_numbers (n ∷ xs) ≡ true → are_different_numbers xs ≡ true
others_apart n xs e = (both_true (not (list_any (λ m. n == m) xs)) (are_different_numbers xs) e).1

pub with_first : (n : ℕ) (xs : List ℕ) → is_among xs n ≡ false → are_different_numbers xs ≡ true → are_different_numbers (n ∷ xs) ≡ true
with_first n xs e f = by (not (list_any (λ m. n == m) xs)) (are_different_numbers xs) (not_false (list_any (λ m. n == m) xs) (any_turned n xs ∙ e)) f
  where
    by : (a b : Bool) → a ≡ true → b ≡ true → (a && b) ≡ true
    by a b e f = cc

none_equal : (n : ℕ) (xs : List ℕ) → list_any (λ m. n == m) xs ≡ false → AllByRecursion (λ y. (n == y) ≡ false) xs
none_equal n [] e = tt
none_equal n (x ∷ xs) e = let parts = neither (n == x) (list_any (λ m. n == m) xs) e in (parts.0, none_equal n xs parts.1)
  where
    neither : (a b : Bool) → (a || b) ≡ false → (a ≡ false) × (b ≡ false)
    neither true b e = absurd (false≢true (sym e))
    neither false b e = (refl, e)

distinct : (xs : List ℕ) → are_different_numbers xs ≡ true → IsDistinct (λ (m n : ℕ). m == n) xs
unfolding IsDistinct
distinct [] e = tt
distinct (x ∷ xs) e =
    let parts = both_true (not (list_any (λ m. x == m) xs)) (are_different_numbers xs) e in
    (none_equal x xs (not_true (list_any (λ m. x == m) xs) parts.0), distinct xs parts.1)

below_among : (count : ℕ) (xs : List ℕ) (q : ℕ) → list_all (λ n. nat_lt n count) xs ≡ true → is_among xs q ≡ true → q < count
below_among count [] q h e = absurd (false≢true e)
below_among count (x ∷ xs) q h e =
    let parts = both_true (nat_lt x count) (list_all (λ n. nat_lt n count) xs) h in
    by (x == q) refl (below_among count xs q parts.1) parts.0 e
  where
    by : (b : Bool) → (x == q) ≡ b → (is_among xs q ≡ true → q < count) → nat_lt x count ≡ true → (b || is_among xs q) ≡ true → q < count
    by true is r low e = let is : x ≡ q = true_equal x q is in let less : x < count = grind (arith, nat_tests) in omega arith
    by false is r low e = r e

-- different numbers below n are at most n
pub few_below : (n : ℕ) (xs : List ℕ) → are_different_numbers xs ≡ true → list_all (λ m. nat_lt m n) xs ≡ true → length xs ≤ n
few_below n xs e h = length-le_from_distinct_below xs n (distinct xs e) (λ q among. below_among n xs q h (sym (any_turned q xs) ∙ among))
