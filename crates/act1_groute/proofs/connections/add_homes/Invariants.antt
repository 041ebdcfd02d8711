use Rattle.std.proofs.Common.{◌≡◌, ◌++◌, drop, map}
use Rattle.std.specs.Prelude.{filter}
use Rattle.act1_groute.specs.Routes.{wire_of}
use Rattle.act1_groute.specs.RouteSteps.{is_at_home}
use Rattle.act1_groute.proofs.connections.add_homes.Given as goal

-- the long wires so far, and those to come
abbrev pub invariant-loop-take : goal.invariant-loop-take
invariant-loop-take l = l.lines.items ++ map wire_of (filter (is_at_home l.channel) (drop l.take-index l.own)) ≡ l.initial.lines.items ++ map wire_of (filter (is_at_home l.channel) l.own)
