-- The number that a text spells.
use Rattle.std.proofs.Common.{◌≡◌, ◌≤◌, ℕ, Bool, true, false, Option, Some, None, Result, Ok, Err, refl, arith}
use Rattle.std.specs.Option.{option_map_or}
use Rattle.std.specs.Result.{result_unwrap_or}
use Rattle.std.specs.Str.Parse.{ParsesUnsigned}
use Rattle.clap.specs.Words.{Text}
use Rattle.clap.specs.Values.{IsUnsignedIn}
use Rattle.clap.specs.ValueTests.{is_unsigned_in}
use Rattle.clap.specs.declared.builder.value_parser.ValueParser.TheVariants.{Unsigned}
use Rattle.clap.proofs.ValueTestLemmas.{Accepts-accepts, accepts-Accepts}
use Rattle.act1_words.specs.Given.{number_or_zero}

pub number_read : {E : Type 0} (text : Text) (r : Result ℕ E) → ParsesUnsigned 64 10 text r → result_unwrap_or r 0 ≡ number_or_zero text
number_read text (Ok n) h =
    let passed : is_unsigned_in 0 18446744073709551615 text ≡ true = Accepts-accepts false (Unsigned 0 18446744073709551615) text (h.0.0, h.0.1, omega arith, omega (arith, h.0.1)) in
    rw passed h.1
number_read text (Err e) h = go (is_unsigned_in 0 18446744073709551615 text) refl
  where
    go : (b : Bool) → is_unsigned_in 0 18446744073709551615 text ≡ b → 0 ≡ number_or_zero text
    go false t = rw t refl
    go true t = let a = accepts-Accepts false (Unsigned 0 18446744073709551615) text t in absurd (h (a.0, a.1))

-- a text that passed a range reads as a number in it
number_passes : (low high : ℕ) (t : Text) → IsUnsignedIn low high t → (low ≤ number_or_zero t) × (number_or_zero t ≤ high)
number_passes low high t h =
    let passed : is_unsigned_in 0 18446744073709551615 t ≡ true = Accepts-accepts false (Unsigned 0 18446744073709551615) t (h.0, h.1, omega arith, omega (arith, h.1)) in
    (rw passed h.2, rw passed h.3)

pub optional_number : (o : Option Text) (low high d : ℕ) → ((t : Text) → o ≡ Some t → IsUnsignedIn low high t) → low ≤ d → d ≤ high
    → (low ≤ option_map_or number_or_zero o d) × (option_map_or number_or_zero o d ≤ high)
optional_number None low high d h least most = (least, most)
optional_number (Some t) low high d h least most = number_passes low high t (h t refl)
