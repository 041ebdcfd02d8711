-- A search of a byte that says where it found none before, as the first place of the byte.
use Rattle.std.proofs.Common.{ℕ, ◌≡◌, ◌==◌, ◌<◌, nat_lt, Bool, true, false, cond, List, length, Option, Some, None, ap, ◌∙◌, sym, arith, ⊎_elim}
use Rattle.std.specs.List.{position, position_or_len}
use Rattle.std.proofs.lemmas.Bool.{cases_Bool}
use Rattle.std.proofs.lemmas.Bool.Decides.{nat_tests}
use Rattle.std.proofs.lemmas.List.Sums.{position_or_len_is}
use Rattle.memchr.specs.Find.{IsFirstByte, is_byte}

-- a test that isn't passed
fails : (test : Bool) → (test ≡ true → ⊥) → test ≡ false
fails test h = ⊎_elim (λ yes. absurd (h yes)) (λ no. no) (cases_Bool test)

module _ (byte : ℕ) (bytes : List ℕ) where
  abbrev place : ℕ
  place = position_or_len (λ (b : ℕ). b == byte) bytes

  in_all : place ≡ length bytes → nat_lt place (length bytes) ≡ false
  in_all h = grind (arith, nat_tests)

  within : (k : ℕ) → place ≡ k → k < length bytes → nat_lt place (length bytes) ≡ true
  within k h low = grind (arith, nat_tests)

  pub first_is : (r : Option ℕ) → IsFirstByte (is_byte byte) bytes r → r ≡ position (λ (b : ℕ). b == byte) bytes
  first_is None h =
      let end : place ≡ length bytes =
      position_or_len_is (λ (b : ℕ). b == byte) bytes (length bytes) 0 (omega arith) (λ k low. fails _ (h k (omega arith) low)) (λ low. absurd (omega arith)) in
      ap (λ t. cond t (Some place) None) (sym (in_all end))
  first_is (Some k) h =
      let before = h.0 in
      let found : place ≡ k =
      position_or_len_is (λ (b : ℕ). b == byte) bytes k 0 (omega (arith, before.high)) (λ i low. fails _ (before.before i (omega arith) low)) (λ low. h.1) in
      ap (λ n. Some n) (sym found) ∙ ap (λ t. cond t (Some place) None) (sym (within k found before.high))
