-- How a source is written in the project's texts.
use Rattle.std.specs.Prelude.{ℕ, List, ◌++◌, codes}
use Rattle.std.specs.Fmt.{decimal}
use Rattle.act1_circuit.specs.declared.circuit.Source.{Source}
use Rattle.act1_circuit.specs.declared.circuit.Source.TheVariants.{Zero, One, Clock, Input, Module}

-- 0, 1 and c for the constants and the clock, and i or m with its number for an input or a module
abbrev pub source_word : Source → List ℕ
source_word Zero = codes "0"
source_word One = codes "1"
source_word Clock = codes "c"
source_word (Input i) = codes "i" ++ decimal i
source_word (Module m) = codes "m" ++ decimal m
