use Rattle.act1_circuit.specs.PairFormSteps.{ArePairsBelow}
use Rattle.act1_circuit.proofs.forms.pairs_of.Given as goal

-- the pairs of the first slaves
abbrev pub invariant-loop-slave : goal.invariant-loop-slave
invariant-loop-slave l = ArePairsBelow l.circuit l.slave l.pairs.items
