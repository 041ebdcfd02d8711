-- `m` and a number is a name.
use Rattle.std.proofs.Common.{ℕ, suc, zero, ◌≡◌, ◌≢◌, ◌<◌, ◌≤◌, ◌+◌, ◌-◌, ◌%◌, ◌^◌, ◌&&◌, not, Bool, true, false, List, [], ◌∷◌, ◌++◌, length, get_or, refl, sym, ap, ◌∙◌, arith}
use Rattle.std.specs.Prelude.{IsTrue, nat_le, ◌==◌}
use Rattle.std.specs.Fmt.{decimal}
use Rattle.std.specs.Char.{digit_value}
use Rattle.std.specs.List.{list_all}
use Rattle.std.specs.Str.Parse.{AllDigits}
use Rattle.std.proofs.lemmas.Bool.{false≢true}
use Rattle.std.proofs.lemmas.Bool.Decides.{nat_tests}
use Rattle.std.proofs.lemmas.Fmt.{decimal_by_steps, length-decimal-le}
use Rattle.act1_base.specs.Names.{is_name, is_name_byte}
use Rattle.act1_meaning.specs.ArrayNames.{module_name}

-- a byte of a name, and no backslash
abbrev is_plain : ℕ → Bool
is_plain b = is_name_byte b && not (b == 92)

digit_plain : (d : ℕ) → d < 10 → is_plain (48 + d) ≡ true
digit_plain d low = grind (arith, nat_tests)

join : (a b : Bool) → a ≡ true → b ≡ true → (a && b) ≡ true
join true b e f = f
join false b e f = absurd (false≢true e)

parts : (a b : Bool) → (a && b) ≡ true → (a ≡ true) × (b ≡ true)
parts true true e = (refl, refl)
parts true false e = absurd (false≢true e)
parts false b e = absurd (false≢true e)

more_plain : (xs : List ℕ) (y : ℕ) → list_all is_plain xs ≡ true → is_plain y ≡ true → list_all is_plain (xs ++ y ∷ []) ≡ true
more_plain [] y h e = join (is_plain y) true e refl
more_plain (x ∷ xs) y h e = let p = parts (is_plain x) (list_all is_plain xs) h in join (is_plain x) (list_all is_plain (xs ++ y ∷ [])) p.0 (more_plain xs y p.1 e)

number_plain : (n : ℕ) → n < 2 ^ 64 → list_all is_plain (decimal n) ≡ true
number_plain n low =
    decimal_by_steps (λ k ds. list_all is_plain ds ≡ true) (λ k small. join (is_plain (48 + k)) true (digit_plain k small) refl)
    (λ k ds high h. more_plain ds (48 + k % 10) h (digit_plain (k % 10) (omega arith))) n low

all_bytes : (xs : List ℕ) → list_all is_plain xs ≡ true → list_all is_name_byte xs ≡ true
all_bytes [] h = refl
all_bytes (x ∷ xs) h =
    let p = parts (is_plain x) (list_all is_plain xs) h in
    join (is_name_byte x) (list_all is_name_byte xs) (parts (is_name_byte x) (not (x == 92)) p.0).0 (all_bytes xs p.1)

plain_at : (xs : List ℕ) (k : ℕ) → list_all is_plain xs ≡ true → not (get_or xs k 0 == 92) ≡ true
plain_at [] k h = refl
plain_at (x ∷ xs) zero h = (parts (is_name_byte x) (not (x == 92)) (parts (is_plain x) (list_all is_plain xs) h).0).1
plain_at (x ∷ xs) (suc k) h = plain_at xs k (parts (is_plain x) (list_all is_plain xs) h).1

name_parts : (n : ℕ) (all last : Bool) → 1 ≤ n → n ≤ 64 → all ≡ true → last ≡ true → (nat_le 1 n && nat_le n 1024 && all && last) ≡ true
name_parts n true true some few e f = grind (arith, nat_tests)
name_parts n false last some few e f = absurd (false≢true e)
name_parts n true false some few e f = absurd (false≢true f)

pub module_fine : (n : ℕ) → n < 2 ^ 64 → is_name (module_name n) ≡ true
module_fine n low =
    let plain : list_all is_plain (109 ∷ decimal n) ≡ true = number_plain n low in
    let short = length-decimal-le 20 n (omega arith) (omega arith) low in
    name_parts (length (109 ∷ decimal n)) (list_all is_name_byte (109 ∷ decimal n)) (not (get_or (109 ∷ decimal n) (length (109 ∷ decimal n) - 1) 0 == 92)) (omega arith) (omega arith)
    (all_bytes (109 ∷ decimal n) plain) (plain_at (109 ∷ decimal n) (length (109 ∷ decimal n) - 1) plain)
