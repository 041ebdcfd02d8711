use Rattle.act1_circuit.specs.PairFormSteps.{AreStartedBelow}
use Rattle.act1_circuit.proofs.forms.started_of.Given as goal

-- where the first starts stand
abbrev pub invariant-loop-start : goal.invariant-loop-start
invariant-loop-start l = AreStartedBelow l.circuit l.start-index l.started.items
