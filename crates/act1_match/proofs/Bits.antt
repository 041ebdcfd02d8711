-- Numbers as sets of inputs: what the constants and the operations on bits say of one input.
use Rattle.std.proofs.Common.{◌≡◌, ℕ, zero, suc, ◌*◌, ◌/◌, ◌%◌, ◌-◌, ◌^◌, ◌<◌, ◌≤◌, Bool, true, false, not, ◌&&◌, ◌||◌, min, max, nat_lt, nat_eq, nat_le, [], ◌∷◌, slice_index_or, bit_and, bit_or, refl, ap, sym, ◌∙◌, arith}
use Rattle.std.specs.Int.{bit_at, bit_not, w64}
use Rattle.std.proofs.lemmas.Bool.{agree_below, agree_below_at, leb-true}
use Rattle.std.proofs.lemmas.Nat.{and_le_r}
use Rattle.std.proofs.lemmas.Nat.Bits.{bit_at-lt, bit_at_and, bit_at_or, bit_at-zero, bit_at_not, same_from_bits_below}
use Rattle.act1_match.specs.Choice.{has_bit}

-- the number of a variable's inputs
abbrev pub variable_inputs : ℕ → ℕ
variable_inputs j = slice_index_or {A = ℕ} (12297829382473034410 ∷ 14757395258967641292 ∷ 17361641481138401520 ∷ 18374966859414961920 ∷ 18446462603027742720 ∷ 18446744069414584320 ∷ []) j 0

pub variable_bits : (j i : ℕ) → j < 6 → i < 64 → has_bit (variable_inputs j) i ≡ has_bit i j
variable_bits j i hj hi =
    agree_below_at (λ i. has_bit (variable_inputs j) i) (λ i. has_bit i j) 64 i
    (agree_below_at (λ j. agree_below (λ i. has_bit (variable_inputs j) i) (λ i. has_bit i j) 64) (λ _. true) 6 j refl hj)
    hi

-- all 64 inputs
pub all_bits : (i : ℕ) → i < 64 → has_bit 18446744073709551615 i ≡ true
all_bits i h = agree_below_at (λ i. has_bit 18446744073709551615 i) (λ _. true) 64 i refl h

-- the inputs of so many variables, as the code makes them
abbrev shift_of : ℕ → ℕ
shift_of vars = 1 * 2 ^ vars % 4294967296

pub shift_fits : (vars : ℕ) → vars ≤ 6 → 1 * 2 ^ vars % 4294967296 ≤ 64
shift_fits vars h = leb-true _ _ (agree_below_at (λ v. nat_le (shift_of v) 64) (λ _. true) 7 vars refl (omega arith))

pub inputs_bits : (vars i : ℕ) → vars ≤ 6 → i < 64 → has_bit (18446744073709551615 / 2 ^ (64 - 1 * 2 ^ vars % 4294967296)) i ≡ nat_lt i (2 ^ vars)
inputs_bits vars i hv hi =
    agree_below_at (λ i. has_bit (18446744073709551615 / 2 ^ (64 - shift_of vars)) i) (λ i. nat_lt i (2 ^ vars)) 64 i
    (agree_below_at (λ v. agree_below (λ i. has_bit (18446744073709551615 / 2 ^ (64 - shift_of v)) i) (λ i. nat_lt i (2 ^ v)) 64) (λ _. true) 7 vars refl (omega arith))
    hi

-- what holds of 0 and of 1 holds of a bit
of_bit : (P : ℕ → Type 0) → P 0 → P 1 → (a : ℕ) → a < 2 → P a
of_bit P p q zero h = p
of_bit P p q (suc zero) h = q
of_bit P p q (suc (suc a)) h = absurd (omega arith)

of_both : (P : ℕ → ℕ → Type 0) → P 0 0 → P 0 1 → P 1 0 → P 1 1 → (a b : ℕ) → a < 2 → b < 2 → P a b
of_both P p q r s a b ha hb = of_bit (λ a. P a b) (of_bit (λ b. P 0 b) p q b hb) (of_bit (λ b. P 1 b) r s b hb) a ha

-- `&`, `|` and `!` of one bit, which is 0 or 1
and_of : (a b : ℕ) → a < 2 → b < 2 → nat_eq (min a b) 1 ≡ (nat_eq a 1 && nat_eq b 1)
and_of a b ha hb = of_both (λ a b. nat_eq (min a b) 1 ≡ (nat_eq a 1 && nat_eq b 1)) refl refl refl refl a b ha hb

or_of : (a b : ℕ) → a < 2 → b < 2 → nat_eq (max a b) 1 ≡ (nat_eq a 1 || nat_eq b 1)
or_of a b ha hb = of_both (λ a b. nat_eq (max a b) 1 ≡ (nat_eq a 1 || nat_eq b 1)) refl refl refl refl a b ha hb

not_of : (a : ℕ) → a < 2 → nat_eq (1 - a) 1 ≡ not (nat_eq a 1)
not_of a ha = of_bit (λ a. nat_eq (1 - a) 1 ≡ not (nat_eq a 1)) refl refl a ha

pub has_bit-zero : (i : ℕ) → has_bit 0 i ≡ false
has_bit-zero i = ap (λ b. nat_eq b 1) (bit_at-zero i)

pub has_bit-and : (a b i : ℕ) → has_bit (bit_and a b) i ≡ (has_bit a i && has_bit b i)
has_bit-and a b i = ap (λ n. nat_eq n 1) (bit_at_and a b i) ∙ and_of (bit_at a i) (bit_at b i) (bit_at-lt a i) (bit_at-lt b i)

pub has_bit-or : (a b i : ℕ) → has_bit (bit_or a b) i ≡ (has_bit a i || has_bit b i)
has_bit-or a b i = ap (λ n. nat_eq n 1) (bit_at_or a b i) ∙ or_of (bit_at a i) (bit_at b i) (bit_at-lt a i) (bit_at-lt b i)

pub has_bit-not : (n i : ℕ) → n < 2 ^ 64 → i < 64 → has_bit (bit_not w64 n) i ≡ not (has_bit n i)
has_bit-not n i hn hi = ap (λ m. nat_eq m 1) (bit_at_not w64 n i hn hi) ∙ not_of (bit_at n i) (bit_at-lt n i)

and_true : (x z : Bool) → z ≡ true → (x && z) ≡ x
and_true false z h = refl
and_true true z h = h

and_false : (x : Bool) → (x && false) ≡ false
and_false true = refl
and_false false = refl

and_alike : (x y z : Bool) → (z ≡ true → x ≡ y) → (x && z) ≡ (y && z)
and_alike x y true h = ap (λ w. w && true) (h refl)
and_alike x y false h = and_false x ∙ sym (and_false y)

bit_from : (m n i : ℕ) → has_bit m i ≡ has_bit n i → bit_at m i ≡ bit_at n i
bit_from m n i = of_both (λ a b. nat_eq a 1 ≡ nat_eq b 1 → a ≡ b) (λ e. refl) (λ e. cc) (λ e. cc) (λ e. refl) (bit_at m i) (bit_at n i) (bit_at-lt m i) (bit_at-lt n i)

-- two numbers are equal on the bits of a third one exactly where they have those bits in common
pub same_on : (a b inputs i : ℕ) → bit_and a inputs ≡ bit_and b inputs → has_bit inputs i ≡ true → has_bit a i ≡ has_bit b i
same_on a b inputs i e h =
    sym (and_true (has_bit a i) (has_bit inputs i) h) ∙ sym (has_bit-and a inputs i) ∙ ap (λ n. has_bit n i) e
    ∙ has_bit-and b inputs i ∙ and_true (has_bit b i) (has_bit inputs i) h

pub same_from : (a b inputs : ℕ) → inputs < 2 ^ 64 → ((i : ℕ) → i < 64 → has_bit inputs i ≡ true → has_bit a i ≡ has_bit b i) → bit_and a inputs ≡ bit_and b inputs
same_from a b inputs fits same =
    same_from_bits_below 64 (bit_and a inputs) (bit_and b inputs) (omega (arith, and_le_r a inputs)) (omega (arith, and_le_r b inputs))
    (λ i h. bit_from (bit_and a inputs) (bit_and b inputs) i
    (has_bit-and a inputs i ∙ and_alike (has_bit a i) (has_bit b i) (has_bit inputs i) (same i h) ∙ sym (has_bit-and b inputs i)))
