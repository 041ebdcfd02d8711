use Rattle.std.proofs.Common.{◌≡◌, ◌+◌, ◌++◌, drop}
use Rattle.act1_groute.specs.Nets.{output_sinks}
use Rattle.act1_emit.specs.SiteSteps.{all_rails}
use Rattle.act1_emit.proofs.rails.add_outputs.Given as goal

-- the sites so far, and those of the outputs to come
abbrev pub invariant-loop-i : goal.invariant-loop-i
invariant-loop-i l = l.sites.items ++ all_rails (output_sinks l.device (l.fn.first + l.i) (drop l.i l.outputs)) ≡ l.initial.sites.items ++ all_rails (output_sinks l.device l.fn.first l.outputs)
