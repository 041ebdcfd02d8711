use Rattle.std.proofs.Common.{◌≡◌, drop}
use Rattle.act1_groute.specs.Routes.{take_all}
use Rattle.act1_groute.specs.RouteSteps.{demands_by, free_longs}
use Rattle.act1_groute.proofs.taking.take_nets.Given as goal

-- what is to come decides
abbrev pub invariant-loop-net : goal.invariant-loop-net
invariant-loop-net l =
    (take_all l.device l.plan l.takes.items (demands_by l.device l.plan (drop l.net-index l.nets)) ≡ take_all l.device l.plan l.initial.takes.items (demands_by l.device l.plan l.nets))
    × (l.free.items ≡ free_longs l.device l.takes.items)
