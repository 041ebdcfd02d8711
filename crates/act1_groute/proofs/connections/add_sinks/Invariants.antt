use Rattle.std.proofs.Common.{◌≡◌, ◌++◌, drop, map}
use Rattle.std.specs.Prelude.{filter}
use Rattle.act1_groute.specs.Nets.{Sink}
use Rattle.act1_groute.specs.RouteSteps.{is_in}
use Rattle.act1_groute.proofs.connections.add_sinks.Given as goal

-- the lines so far, and those to come
abbrev pub invariant-loop-sink : goal.invariant-loop-sink
invariant-loop-sink l = l.lines.items ++ map (λ (s : Sink). s.line) (filter (is_in l.channel) (drop l.sink-index l.sinks)) ≡ l.initial.lines.items ++ map (λ (s : Sink). s.line) (filter (is_in l.channel) l.sinks)
