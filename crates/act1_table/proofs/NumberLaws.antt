-- A number in front of a word.
use Rattle.std.proofs.Common.{ℕ, ◌≡◌, ◌≢◌, ◌^◌, ◌<◌, ◌≤◌, nat_le, Bool, true, false, ◌&&◌, cond, IsTrue, List, Option, Some, None, refl, sym, ap, ◌∙◌, arith}
use Rattle.std.specs.Fmt.{decimal}
use Rattle.std.specs.Str.Parse.{digits_value}
use Rattle.std.proofs.lemmas.Fmt.{decimal_is_IsNumeral}
use Rattle.std.proofs.lemmas.Bool.Decides.{nat_tests}
use Rattle.act1_base.specs.Capped.{is_number, at_most, capped}
use Rattle.act1_base.proofs.NumberWords.{spelled_value, spelled_number, spelled_capped}
use Rattle.act1_base.proofs.NumberWords as words
use Rattle.act1_table.specs.declared.forms.Limit.{Limit}
use Rattle.act1_table.specs.declared.forms.Limit.TheVariants as limit
use Rattle.act1_table.specs.Clear.{is_clear_limit}
use Rattle.act1_table.specs.Exact.{IsBelowCap}
use Rattle.act1_table.specs.Forms.{IsWithin}
use Rattle.act1_table.specs.Reads.{number_of}

pub both : (a b : Bool) → IsTrue (a && b) → IsTrue a × IsTrue b
both true b h = (refl, h)
both false b h = cc

pub some_is : {X : Type 0} (x y : X) → Some x ≡ Some y → x ≡ y
some_is x y e = cc

low : (n most : ℕ) → IsTrue (nat_le n most) → n ≤ most
low n most h = grind (arith, nat_tests)

-- a number of the limit has at most 64 bits
pub small : (l : Limit) (n : ℕ) → IsTrue (is_clear_limit l) → IsWithin l n → n < 2 ^ 64
small (limit.Most most) n c h = let big = low most 18446744073709551615 c in omega arith
small (limit.Cap most) n c h = let big = low most 18446744073709551615 c in omega arith

-- a number is read from its spelling
pub number_read : (l : Limit) (n : ℕ) → IsTrue (is_clear_limit l) → IsWithin l n → number_of l (decimal n) ≡ Some n
number_read (limit.Most most) n c h =
    let fits = small (limit.Most most) n c h in
    let value = (decimal_is_IsNumeral n fits).1 in
    let within : nat_le n most ≡ true = grind (arith, nat_tests) in
    rw (spelled_number n fits, value, within) refl
number_read (limit.Cap most) n c h = let fits = small (limit.Cap most) n c h in rw (spelled_number n fits, spelled_capped most n h fits) refl

most_by : (most n : ℕ) (digits : List ℕ) (test : Bool) → (is_number digits && nat_le (digits_value 10 digits) most) ≡ test → most < 2 ^ 64 → cond test (Some (digits_value 10 digits)) None ≡ Some n → (n ≤ most) × (digits ≡ decimal n)
most_by most n digits false e fits h = cc
most_by most n digits true e fits h =
    let parts = both (is_number digits) (nat_le (digits_value 10 digits) most) e in
    let within : digits_value 10 digits ≤ most = low (digits_value 10 digits) most parts.1 in
    let same : digits_value 10 digits ≡ n = cc in
    (omega (arith, same, within), spelled_value digits parts.0 (omega (arith, within)) ∙ ap decimal same)

capped_low : (most n : ℕ) → at_most most n ≤ most
capped_low most n = grind (arith, nat_tests)

cap_by : (most n : ℕ) (digits : List ℕ) (test : Bool) → is_number digits ≡ test → most < 2 ^ 64 → cond test (Some (capped most digits)) None ≡ Some n → (n ≤ most) × (n < most → digits ≡ decimal n)
cap_by most n digits false e fits h = cc
cap_by most n digits true e fits h =
    let same : capped most digits ≡ n = cc in
    let within = capped_low most (digits_value 10 digits) in
    (omega (arith, same, within), λ below. words.number_spelled most digits fits e (omega (arith, same, below)) ∙ ap decimal same)

-- what is read is within the limit, and below its cap it is the number that was spelled
pub number_is : (l : Limit) (n : ℕ) (digits : List ℕ) → IsTrue (is_clear_limit l) → number_of l digits ≡ Some n → IsWithin l n × (IsBelowCap l n → digits ≡ decimal n)
number_is (limit.Most most) n digits c h =
    let big = low most 18446744073709551615 c in
    let r = most_by most n digits _ refl (omega (arith, big)) h in
    (r.0, λ exact. r.1)
number_is (limit.Cap most) n digits c h = let big = low most 18446744073709551615 c in cap_by most n digits _ refl (omega (arith, big)) h

-- what the reader of numbers answers
pub as_answered : (most : ℕ) (digits : List ℕ) (n : ℕ) → most < 2 ^ 64 → (digits ≡ decimal n) × (n ≤ most) → Some n ≡ number_of (limit.Most most) digits
as_answered most digits n fits h =
    let clear : nat_le most 18446744073709551615 ≡ true = grind (arith, nat_tests) in
    sym (ap (number_of (limit.Most most)) h.0 ∙ number_read (limit.Most most) n clear h.1)

none_by : (most : ℕ) (digits : List ℕ) → most < 2 ^ 64 → ((n : ℕ) → n ≤ most → digits ≢ decimal n) → (found : Option ℕ) → number_of (limit.Most most) digits ≡ found → None ≡ found
none_by most digits fits none None e = refl
none_by most digits fits none (Some n) e = let r = most_by most n digits _ refl fits e in absurd (none n r.0 r.1)

pub as_refused : (most : ℕ) (digits : List ℕ) → most < 2 ^ 64 → ((n : ℕ) → n ≤ most → digits ≢ decimal n) → None ≡ number_of (limit.Most most) digits
as_refused most digits fits none = none_by most digits fits none _ refl
