-- Nets, by their sources.
use Rattle.std.specs.Prelude.{◌==◌, Bool, true, false}
use Rattle.act1_circuit.specs.declared.circuit.Source.{Source}
use Rattle.act1_circuit.specs.declared.circuit.Source.TheVariants.{Zero, One, Clock, Input, Module}

-- the two sources are one
abbrev pub is_same_source : Source → Source → Bool
is_same_source Zero Zero = true
is_same_source One One = true
is_same_source Clock Clock = true
is_same_source (Input i) (Input j) = i == j
is_same_source (Module m) (Module n) = m == n
is_same_source a b = false
