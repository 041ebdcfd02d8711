use Rattle.std.proofs.Common.{◌≡◌, ◌++◌, drop}
use Rattle.act1_groute.specs.RouteSteps.{own_sinks}
use Rattle.act1_groute.proofs.nets.own_sinks.Given as goal

-- the sinks so far, and those to come
abbrev pub invariant-loop-sink : goal.invariant-loop-sink
invariant-loop-sink l = l.own.items ++ own_sinks (drop l.sink-index l.all) l.net ≡ own_sinks l.all l.net
