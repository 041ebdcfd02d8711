use Rattle.act1_blif.specs.ValuationSteps.{AreEvaluated}
use Rattle.act1_blif.proofs.valuation.values.Given as goal

-- the first signals of the order have their values
abbrev pub invariant-loop-signal : goal.invariant-loop-signal
invariant-loop-signal l = AreEvaluated l.blif l.state l.inputs l.signal-items l.signal-index l.values.items
