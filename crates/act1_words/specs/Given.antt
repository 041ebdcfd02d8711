-- What words give to a simple command, by what `clap` states of it.
use Rattle.std.specs.Prelude.{◌≡◌, ◌≤◌, ℕ, Bool, true, false, not, nat_le, ◌==◌, ◌&&◌, ◌||◌, List, [], ◌∷◌, codes, length, Option, Some, None, unwrap_or, if◌then◌else◌}
use Rattle.std.specs.Option.{option_map_or}
use Rattle.std.specs.List.{list_all}
use Rattle.std.specs.Str.{bytes_eq}
use Rattle.std.specs.Str.Parse.{digits_value, without_leading_plus}
use Rattle.clap.specs.Simple.{on_top}
use Rattle.clap.specs.ValueTests.{is_unsigned_in}
use Rattle.clap.specs.Walk.{is_empty}
use Rattle.clap.specs.Words.{App, Rule, Text, fault_of, first_of, first_value, found_of, matches_of, new_app, new_rule}
use Rattle.clap.specs.declared.builder.value_parser.ValueParser.{ValueParser}
use Rattle.clap.specs.declared.builder.value_parser.ValueParser.TheVariants.{Unsigned}
use Rattle.clap.specs.declared.parser.matches.ArgMatches.{ArgMatches}

-- a positional that has to be there
unfoldable pub file_rule : Text → Rule
file_rule id = record (new_rule id) { required = true }

-- a positional that has to be there, a number in a range
unfoldable pub count_rule : Text → ℕ → ℕ → Rule
count_rule id low high = record (new_rule id) { required = true; parser = Some (Unsigned low high) }

-- an option of one text
unfoldable pub text_rule : Text → Rule
text_rule id = record (new_rule id) { long = Some id }

-- an option of one number in a range, with a default
unfoldable pub number_rule : Text → ℕ → ℕ → Text → Rule
number_rule id low high default = record (new_rule id) {
  long = Some id;
  parser = Some (Unsigned low high);
  defaults = default ∷ [];
}

-- a command with neither a help flag nor a version flag
unfoldable pub plain_app : Text → App
plain_app name = on_top (λ s. record s { disable_help_flag = true; disable_version_flag = true }) (new_app name)

-- it takes the words
abbrev pub are_taken : App → List Text → Bool
are_taken app words = length (fault_of app words) == 0

-- the first value that is given to each id, if one is
abbrev pub Given : Type 0
Given = Text → Option Text

abbrev pub given_by : App → List Text → Given
given_by app words = λ id. first_of id (matches_of app words)

-- what is made of what the words give, where they are taken
abbrev pub taken : {X : Type 0} → App → (Given → X) → List Text → Option X
taken app made words = if are_taken app words then Some (made (given_by app words)) else None

-- the number that a text spells, by digits with or without a plus in front, and 0 where it spells none
abbrev pub number_or_zero : Text → ℕ
number_or_zero text = if is_unsigned_in 0 18446744073709551615 text then digits_value 10 (without_leading_plus text) else 0

-- what an id has: the empty text, or the default, where nothing is given
abbrev pub text_at : Given → Text → Text
text_at given id = unwrap_or (given id) []

abbrev pub number_at : Given → Text → ℕ → ℕ
number_at given id default = option_map_or number_or_zero (given id) default

-- an id that a program may give an argument of its own
abbrev pub is_own : Text → Bool
is_own id = not (is_empty id) && (not (bytes_eq id (codes "help")) && not (bytes_eq id (codes "version")))

abbrev pub is_range : ℕ → ℕ → Option ValueParser → Bool
is_range low high (Some (Unsigned a b)) = (a == low) && (b == high)
is_range low high _ = false

-- each argument with this id takes a number from low to high, as the default is
abbrev pub is_number : Text → ℕ → ℕ → ℕ → List Rule → Bool
is_number id low high default rules =
    (is_own id && (nat_le low default && nat_le default high)) && list_all (λ r. not (bytes_eq r.id id) || is_range low high r.parser) rules

abbrev pub IsBetween : ℕ → ℕ → ℕ → Type 0
IsBetween low high n = (low ≤ n) × (n ≤ high)

-- what a parse found is what the words give, and its numbers are in their ranges
pub record IsFoundOf (app : App) (words : List Text) (m : ArgMatches) : Type 0 where
  pub taken : are_taken app words ≡ true
  pub given : (id : Text) → first_value (found_of m) id ≡ given_by app words id
  pub ranges : (id : Text) (low high default : ℕ) → is_number id low high default app.top.rules ≡ true → IsBetween low high (number_at (first_value (found_of m)) id default)

-- the words aren't taken, or this is what a parse of them found
abbrev pub IsParseOf : App → List Text → Option ArgMatches → Type 0
IsParseOf app words None = are_taken app words ≡ false
IsParseOf app words (Some m) = IsFoundOf app words m
