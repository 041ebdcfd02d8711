-- How often a name is in a list, when one more is added.
use Rattle.std.proofs.Common.{ℕ, ◌≡◌, ◌≢◌, ◌+◌, Bool, true, false, cond, List, [], ◌∷◌, ◌++◌, refl, arith, add-zero}
use Rattle.std.specs.Str.{bytes_eq}
use Rattle.std.proofs.lemmas.List.Sums.{sum_by_push}
use Rattle.std.proofs.lemmas.Slice.Eq.{bytes_eq-Decides}
use Rattle.act1_outside.specs.Faults.{Rose, OnlyAt}
use Rattle.act1_outside.specs.Failures.{times}

-- the count of a name in a list with one name more
times_push : (names : List (List ℕ)) (m n : List ℕ) → times (names ++ m ∷ []) n ≡ times names n + cond (bytes_eq n m) 1 0
times_push names m n = sum_by_push (λ (x : List ℕ). cond (bytes_eq n x) 1 0) names m

-- the count of that name is one more
pub counted_once : (names : List (List ℕ)) (n : List ℕ) → times (names ++ n ∷ []) n ≡ times names n + 1
counted_once names n = rw (times_push names n n, (bytes_eq-Decides n n).1 refl) refl

-- that of another name is as before
not_counted : (names : List (List ℕ)) (m n : List ℕ) → n ≢ m → (b : Bool) → bytes_eq n m ≡ b → times (names ++ m ∷ []) n ≡ times names n
not_counted names m n other true e = absurd (other ((bytes_eq-Decides n m).0 e))
not_counted names m n other false e = rw (times_push names m n, e) (add-zero _)

-- so the count of that name rose
pub rose_at : (names : List (List ℕ)) (n : List ℕ) → Rose (times names n) (times (names ++ n ∷ []) n)
rose_at names n = rw (counted_once names n) (omega arith)

-- and no other
pub only_at : (names : List (List ℕ)) (n : List ℕ) → OnlyAt n (times names) (times (names ++ n ∷ []))
only_at names n = record { later = rw (counted_once names n) (omega arith); others = λ m other. not_counted names n m other (bytes_eq m n) refl }

-- what a call that notes a name does to the counts
pub ruleset noted = (counted_once, rose_at, only_at)
