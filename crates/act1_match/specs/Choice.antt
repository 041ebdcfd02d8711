-- What a pin of a logic module may be connected to where a function of some variables is to be made, and what it then has at an input.
use Rattle.std.specs.Prelude.{ℕ, Bool, true, false, ◌==◌, ◌<◌}
use Rattle.std.specs.Int.{bit_at}
use Rattle.act1_match.specs.declared.choice.PinChoice.{PinChoice}
use Rattle.act1_match.specs.declared.choice.PinChoice.TheVariants.{Zero, One, Var}

-- bit i of the number is 1
abbrev pub has_bit : ℕ → ℕ → Bool
has_bit n i = bit_at n i == 1

-- what a pin has at input i, in which variable j is bit j of i
abbrev pub value_at : ℕ → PinChoice → Bool
value_at i Zero = false
value_at i One = true
value_at i (Var j) = has_bit i j

-- a constant, or one of so many variables
abbrev pub IsChoice : ℕ → PinChoice → Type 0
IsChoice vars Zero = Unit {0}
IsChoice vars One = Unit {0}
IsChoice vars (Var j) = j < vars
