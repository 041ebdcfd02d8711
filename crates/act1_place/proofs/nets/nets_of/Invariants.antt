use Rattle.std.proofs.Common.{◌≡◌, ◌++◌, length, map}
use Rattle.act1_circuit.specs.declared.circuit.Source.TheVariants.{Input, Module}
use Rattle.act1_base.specs.Lists.{numbers}
use Rattle.act1_place.specs.Kept.{joins_of}
use Rattle.act1_place.proofs.nets.nets_of.Given as goal

-- the nets of the inputs so far
abbrev pub invariant-loop-input : goal.invariant-loop-input
invariant-loop-input l = l.nets.items ≡ map (joins_of l.device l.circuit) (map Input (numbers 0 l.input))

-- those, and the nets of the modules so far
abbrev pub invariant-loop-module : goal.invariant-loop-module
invariant-loop-module l = l.nets.items ≡ map (joins_of l.device l.circuit) (map Input (numbers 0 (length l.circuit.inputs)) ++ map Module (numbers 0 l.«module»))
