use Rattle.std.proofs.Common.{◌≡◌, ◌+◌, ◌-◌}
use Rattle.act1_groute.specs.Routes.{take_all}
use Rattle.act1_groute.specs.RouteSteps.{demands_from, demands_of, free_longs}
use Rattle.act1_groute.proofs.taking.take_channels.Given as goal

-- what is to come decides
abbrev pub invariant-loop-channel : goal.invariant-loop-channel
invariant-loop-channel l =
    (take_all l.device l.plan l.takes.items (demands_from l.device l.plan l.net.source l.channel (l.device.rows + 1 - l.channel)) ≡ take_all l.device l.plan l.initial.takes.items (demands_of l.device l.plan l.net.source))
    × (l.free.items ≡ free_longs l.device l.takes.items)
