-- Numbers of any length, and those that fit.
use Rattle.std.proofs.Common.{ℕ, ◌≡◌, ◌+◌, ◌-◌, ◌*◌, ◌^◌, ◌<◌, ◌≤◌, ◌==◌, nat_le, Bool, true, false, not, ◌&&◌, ◌||◌, IsTrue, List, [], ◌∷◌, length, get_or, take, refl, sym, ap, ◌∙◌, ◌⊎◌, inl, inr, arith}
use Rattle.std.specs.Fmt.{decimal}
use Rattle.std.specs.Char.{digit_value}
use Rattle.std.specs.List.{list_all}
use Rattle.std.specs.Str.Parse.{digits_value, AllDigits}
use Rattle.std.proofs.lemmas.Fmt.{decimal_is_IsNumeral, decimal-digits_value, first_decimal, length-decimal-le}
use Rattle.std.proofs.lemmas.Int.Digits.{digits_value_more}
use Rattle.std.proofs.lemmas.Str.Parse.{digit_at, digit_from_value, numerals_by_value, tells_digits}
use Rattle.std.proofs.lemmas.Bool.Decides.{nat_tests}
use Rattle.std.proofs.lemmas.Bool.{cases_lt}
use Rattle.act1_base.specs.Capped.{is_digit, is_number, at_most, capped, capped_after}

both : (a b : Bool) → IsTrue (a && b) → IsTrue a × IsTrue b
both true b h = (refl, h)
both false b h = cc

digit_small : (c : ℕ) → IsTrue (is_digit c) → digit_value c < 10
digit_small c h = grind (arith, nat_tests)

small_digit : (c : ℕ) → digit_value c < 10 → IsTrue (is_digit c)
small_digit c h = let r = digit_from_value c h in grind (arith, nat_tests, r)

all_small : (word : List ℕ) → IsTrue (list_all is_digit word) → AllDigits 10 word
all_small [] h = tt
all_small (c ∷ word) h = let parts = both (is_digit c) (list_all is_digit word) h in (digit_small c parts.0, all_small word parts.1)

small_all : (word : List ℕ) → AllDigits 10 word → IsTrue (list_all is_digit word)
small_all [] h = refl
small_all (c ∷ word) h = rw (small_digit c h.0) (small_all word h.1)

pub all_digits : (word : List ℕ) → IsTrue (is_number word) → AllDigits 10 word
all_digits word h = all_small word (both _ (list_all is_digit word) h).1

cases_le : (a b : ℕ) → (a ≤ b) ⊎ (b < a)
cases_le a b = turned (cases_lt b a)
  where
    turned : (b < a) ⊎ (a ≤ b) → (a ≤ b) ⊎ (b < a)
    turned (inl p) = inr p
    turned (inr p) = inl p

is_le : (a b : ℕ) → a ≤ b → nat_le a b ≡ true
is_le a b h = grind (arith, nat_tests)

is_over : (a b : ℕ) → b < a → nat_le a b ≡ false
is_over a b h = grind (arith, nat_tests)

pub low_at_most : (most n : ℕ) → n ≤ most → at_most most n ≡ n
low_at_most most n h = rw (is_le n most h) refl

high_at_most : (most n : ℕ) → most < n → at_most most n ≡ most
high_at_most most n h = rw (is_over n most h) refl

low_of : (most n : ℕ) → at_most most n < most → (n ≤ most) ⊎ (most < n) → n < most
low_of most n h (inl p) = let e = low_at_most most n p in omega arith
low_of most n h (inr p) = let e = high_at_most most n p in omega arith

-- one digit more after a number that was capped, as after the number itself
cap_more : (most n d : ℕ) → (n ≤ most) ⊎ (most < n) → (most * 10 + d ≤ most) ⊎ (most < most * 10 + d) → at_most most (n * 10 + d) ≡ at_most most (at_most most n * 10 + d)
cap_more most n d (inl p) q = rw (low_at_most most n p) refl
cap_more most n d (inr p) (inl q) =
    high_at_most most (n * 10 + d) (omega arith) ∙ sym (ap (λ (m : ℕ). at_most most (m * 10 + d)) (high_at_most most n p) ∙ low_at_most most (most * 10 + d) q ∙ omega arith)
cap_more most n d (inr p) (inr q) =
    high_at_most most (n * 10 + d) (omega arith) ∙ sym (ap (λ (m : ℕ). at_most most (m * 10 + d)) (high_at_most most n p) ∙ high_at_most most (most * 10 + d) q)

digit_is : (c : ℕ) → 48 ≤ c → c ≤ 57 → digit_value c ≡ c - 48
digit_is c low high = grind (arith, nat_tests)

-- the digits with one more
pub capped_more : (most : ℕ) (bytes : List ℕ) (i value next : ℕ) → i < length bytes → IsTrue (is_number bytes) → value ≡ capped most (take i bytes) → next ≡ capped_after value (get_or bytes i 0) most → next ≡ capped most (take (i + 1) bytes)
capped_more most bytes i value next within number is more =
    let r = digit_at bytes i (all_digits bytes number) within in
    let n = digits_value 10 (take i bytes) in
    let d : ℕ = get_or bytes i 0 - 48 in
    let whole = digits_value_more 10 bytes i within ∙ ap (λ (e : ℕ). n * 10 + e) (digit_is (get_or bytes i 0) r.0 r.1) in
    more ∙ ap (λ (v : ℕ). at_most most (v * 10 + d)) is
    ∙ sym (cap_more most n d (cases_le n most) (cases_le (most * 10 + d) most))
    ∙ sym (ap (at_most most) whole)

some_length : (word : List ℕ) → IsTrue (is_number word) → 0 < length word
some_length [] h = cc
some_length (c ∷ word) h = omega arith

short_or : (n b : ℕ) → IsTrue (nat_le n 1 || not (b == 48)) → b ≡ 48 → n ≤ 1
short_or n b h e = grind (arith, nat_tests)

lead_alone : (word : List ℕ) → IsTrue (is_number word) → get_or word 0 0 ≡ 48 → length word ≡ 1
lead_alone word h e =
    let some = some_length word h in
    let lead = nat_le (length word) 1 || not (get_or word 0 0 == 48) in
    let front = (both (nat_le 1 (length word) && lead) (list_all is_digit word) h).0 in
    let few : length word ≤ 1 = short_or (length word) (get_or word 0 0) (both (nat_le 1 (length word)) lead front).1 e in
    omega arith

-- a word is the spelling of its value
pub spelled_value : (word : List ℕ) → IsTrue (is_number word) → digits_value 10 word < 2 ^ 64 → word ≡ decimal (digits_value 10 word)
spelled_value word number fits =
    sym (decimal-digits_value (numerals_by_value (AllDigits 10) tells_digits) word (all_digits word number) (some_length word number) (lead_alone word number) fits)

-- a number below the cap is spelled so
pub number_spelled : (most : ℕ) (word : List ℕ) → most < 2 ^ 64 → IsTrue (is_number word) → capped most word < most → word ≡ decimal (capped most word)
number_spelled most word fits number low =
    let small = low_of most (digits_value 10 word) low (cases_le (digits_value 10 word) most) in
    spelled_value word number (omega arith) ∙ sym (ap decimal (low_at_most most (digits_value 10 word) (omega arith)))

not_zero : (b : ℕ) → 48 < b → not (b == 48) ≡ true
not_zero b h = grind (arith, nat_tests)

or_true : (b : Bool) → (b || true) ≡ true
or_true true = refl
or_true false = refl

leads_well : (n b : ℕ) (all : Bool) → 0 < n → IsTrue all → (n ≤ 1) ⊎ (48 < b) → IsTrue (nat_le 1 n && (nat_le n 1 || not (b == 48)) && all)
leads_well n b all some h (inl few) = rw (is_le 1 n (omega arith), is_le n 1 few) h
leads_well n b all some h (inr lead) = rw (is_le 1 n (omega arith), not_zero b lead, or_true (nat_le n 1)) h

no_lead : (word : List ℕ) → 0 < length word → IsTrue (list_all is_digit word) → (length word ≤ 1) ⊎ (48 < get_or word 0 0) → IsTrue (is_number word)
no_lead word some all h = leads_well (length word) (get_or word 0 0) (list_all is_digit word) some all h

-- the spelling of a number is one
pub spelled_number : (n : ℕ) → n < 2 ^ 64 → IsTrue (is_number (decimal n))
spelled_number n fits =
    let numeral = (decimal_is_IsNumeral n fits).0 in
    no_lead (decimal n) numeral.0 (small_all (decimal n) numeral.1) (first (cases_lt 0 n))
  where
    first : (0 < n) ⊎ (n ≤ 0) → (length (decimal n) ≤ 1) ⊎ (48 < get_or (decimal n) 0 0)
    first (inl some) = inr (first_decimal n some fits)
    first (inr none) = inl (length-decimal-le 1 n (omega arith) (omega arith) fits)

-- and the number is found again
pub spelled_capped : (most n : ℕ) → n ≤ most → n < 2 ^ 64 → capped most (decimal n) ≡ n
spelled_capped most n low fits = ap (at_most most) (decimal_is_IsNumeral n fits).1 ∙ low_at_most most n low
