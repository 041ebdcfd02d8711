-- Numbers of any length, as words of a text.
use Rattle.std.specs.Prelude.{ℕ, Bool, not, ◌&&◌, ◌||◌, ◌==◌, nat_le, ◌+◌, ◌-◌, ◌*◌, if◌then◌else◌, List, length, slice_index}
use Rattle.std.specs.List.{list_all}
use Rattle.std.specs.Str.Parse.{digits_value}

-- a decimal digit
abbrev pub is_digit : ℕ → Bool
is_digit b = nat_le 48 b && nat_le b 57

-- decimal digits, without a leading zero but in `0` itself
abbrev pub is_number : List ℕ → Bool
is_number word = nat_le 1 (length word) && (nat_le (length word) 1 || not (slice_index word 0 == 48)) && list_all is_digit word

-- the number, or the most where it is greater
abbrev pub at_most : ℕ → ℕ → ℕ
at_most most n = if nat_le n most then n else most

-- the number that digits spell, or the most where it is greater
abbrev pub capped : ℕ → List ℕ → ℕ
capped most word = at_most most (digits_value 10 word)

-- the number with one digit more, or the most
abbrev pub capped_after : ℕ → ℕ → ℕ → ℕ
capped_after value byte most = at_most most (value * 10 + (byte - 48))
