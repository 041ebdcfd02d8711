-- The logic module of the ACT 1 data book: two 2-to-1 multiplexers that a third one chooses between, whose select is an or gate.
use Rattle.std.specs.Prelude.{ℕ, Bool, ◌||◌, if◌then◌else◌}

-- what the module gives at its pins: A0, A1, SA, B0, B1, SB, S0 and S1 are those of numbers 0 to 7
abbrev pub module_of : (ℕ → Bool) → Bool
module_of pin = if pin 6 || pin 7 then (if pin 5 then pin 4 else pin 3) else (if pin 2 then pin 1 else pin 0)
