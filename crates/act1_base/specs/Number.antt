-- The spelling of numbers: std's `decimal n` is the one spelling of n, in decimal digits without a sign or a leading zero.
use Rattle.std.specs.Prelude.{ℕ, ◌≡◌, ◌≢◌, ◌≤◌, ◌+◌, ◌-◌, ◌*◌, List, Result, Ok, Err}
use Rattle.std.specs.Fmt.{decimal}
use Rattle.act1_base.specs.declared.number.NumberFault.{NumberFault}

-- the number that the bytes spell, or a fault where they spell none up to the greatest
abbrev pub SpellsUpTo : ℕ → List ℕ → Result ℕ NumberFault → Type 0
SpellsUpTo most bytes (Ok n) = (bytes ≡ decimal n) × (n ≤ most)
SpellsUpTo most bytes (Err e) = (n : ℕ) → n ≤ most → bytes ≢ decimal n

-- the byte is a digit, and the number with it is at most the greatest
abbrev pub FitsDigit : ℕ → ℕ → ℕ → Type 0
FitsDigit value byte most = (48 ≤ byte) × (byte ≤ 57) × (value * 10 + (byte - 48) ≤ most)
