use Rattle.act1_circuit.specs.PairFormSteps.{AreSeen, AreSeenOut}
use Rattle.act1_circuit.proofs.readers.readers_of.Given as goal

-- the pins of the first modules are noted
abbrev pub invariant-loop-module : goal.invariant-loop-module
invariant-loop-module l = AreSeen l.circuit l.module l.readers.items

-- all pins are, and the first outputs
abbrev pub invariant-loop-output : goal.invariant-loop-output
invariant-loop-output l = AreSeenOut l.circuit l.output l.readers.items
