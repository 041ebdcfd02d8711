use Rattle.std.proofs.Common.{◌≡◌, ◌≤◌, ◌+◌, ◌++◌, drop}
use Rattle.act1_extract.specs.Picked.{output_signals}
use Rattle.act1_extract.proofs.outputs.output_signals.Given as goal

-- with those to come these are all
abbrev pub invariant-loop-output : goal.invariant-loop-output
invariant-loop-output l = (l.found ++ output_signals l.circuit l.signals l.next (drop l.output-index l.circuit.outputs) ≡ output_signals l.circuit l.signals l.first l.circuit.outputs) × (l.next ≤ l.first + l.output-index)
