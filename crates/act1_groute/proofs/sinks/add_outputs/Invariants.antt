use Rattle.std.proofs.Common.{◌≡◌, ◌+◌, ◌++◌, drop}
use Rattle.act1_groute.specs.Nets.{output_sinks}
use Rattle.act1_groute.proofs.sinks.add_outputs.Given as goal

-- the outputs so far, and those to come
abbrev pub invariant-loop-at : goal.invariant-loop-at
invariant-loop-at l = l.found.items ++ output_sinks l.device (l.first + l.at) (drop l.at l.outputs) ≡ l.initial.found.items ++ output_sinks l.device l.first l.outputs
