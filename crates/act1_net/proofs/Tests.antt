-- Tests on numbers and on `Bool`.
use Rattle.std.proofs.Common.{ℕ, ◌≡◌, ◌<◌, ◌≤◌, ◌&&◌, ◌||◌, not, Bool, true, false, refl, ap, sym, ◌∙◌, arith}
use Rattle.std.specs.Prelude.{◌==◌, nat_le, nat_lt}
use Rattle.std.proofs.lemmas.Bool.{false≢true}
use Rattle.std.proofs.lemmas.Bool.Decides.{nat_tests}

pub both : (a b : Bool) → (a && b) ≡ true → (a ≡ true) × (b ≡ true)
both true true e = (refl, refl)
both true false e = absurd (false≢true e)
both false b e = absurd (false≢true e)

pub joined : (a b : Bool) → a ≡ true → b ≡ true → (a && b) ≡ true
joined a b e f = ap (λ (c : Bool). c && b) e ∙ f

pub neither : (a b : Bool) → (a || b) ≡ false → (a ≡ false) × (b ≡ false)
neither false b e = (refl, e)
neither true b e = absurd (false≢true (sym e))

pub none_of_two : (a b : Bool) → a ≡ false → b ≡ false → (a || b) ≡ false
none_of_two a b e f = ap (λ (c : Bool). c || b) e ∙ f

pub and_false : (b : Bool) → (b && false) ≡ false
and_false true = refl
and_false false = refl

pub or_true : (b : Bool) → (b || true) ≡ true
or_true true = refl
or_true false = refl

pub not_true : (a : Bool) → not a ≡ true → a ≡ false
not_true false e = refl
not_true true e = absurd (false≢true e)

pub not_false : (a : Bool) → not a ≡ false → a ≡ true
not_false true e = refl
not_false false e = absurd (false≢true (sym e))

pub is_equal : (a n : ℕ) → a ≡ n → (a == n) ≡ true
is_equal a n e = grind (arith, nat_tests)

pub equal_is : (a n : ℕ) → (a == n) ≡ true → a ≡ n
equal_is a n e = grind (arith, nat_tests)

pub less_is : (a n : ℕ) → a < n → nat_lt a n ≡ true
less_is a n h = grind (arith, nat_tests)

pub most_is : (a n : ℕ) → a ≤ n → nat_le a n ≡ true
most_is a n h = grind (arith, nat_tests)

pub is_most : (a n : ℕ) → nat_le a n ≡ true → a ≤ n
is_most a n h = grind (arith, nat_tests)

-- a smaller number passes too
pub most_down : (a b n : ℕ) → a ≤ b → nat_le b n ≡ true → nat_le a n ≡ true
most_down a b n low h = grind (arith, nat_tests)

pub less_down : (a b n : ℕ) → a ≤ b → nat_lt b n ≡ true → nat_lt a n ≡ true
less_down a b n low h = grind (arith, nat_tests)
