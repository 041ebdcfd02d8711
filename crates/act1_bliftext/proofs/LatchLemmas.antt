-- The words of a latch.
use Rattle.std.proofs.Common.{ℕ, ◌≡◌, ◌≤◌, true, ◌||◌, nat_lt, List, [], ◌∷◌, length, refl, arith}
use Rattle.std.proofs.lemmas.Bool.Decides.{nat_tests}
use Rattle.act1_bliftext.specs.LatchSteps.{latch_fault}
use Rattle.act1_bliftext.specs.ReadingSteps.{own_fault}
use Rattle.act1_bliftext.specs.declared.form.Form.TheVariants as form

long : (n : ℕ) → 6 ≤ n → (nat_lt n 2 || nat_lt 5 n) ≡ true
long n h = grind (arith, nat_tests)

long_rest : (n : ℕ) → 4 ≤ n → nat_lt 3 n ≡ true
long_rest n h = grind (arith, nat_tests)

-- the faults of a latch by itself are those of the words behind input and output
pub own_latch : (input output : List ℕ) (more : List (List ℕ)) → own_fault form.Latch (input ∷ output ∷ more) ≡ latch_fault more
own_latch input output [] = refl
own_latch input output (a ∷ []) = refl
own_latch input output (a ∷ b ∷ []) = refl
own_latch input output (a ∷ b ∷ c ∷ []) = refl
own_latch input output (a ∷ b ∷ c ∷ d ∷ rest) =
    rw (long (length (input ∷ output ∷ a ∷ b ∷ c ∷ d ∷ rest)) (omega arith), long_rest (length (a ∷ b ∷ c ∷ d ∷ rest)) (omega arith)) refl
