use Rattle.std.proofs.Common.{◌≡◌, map}
use Rattle.act1_base.specs.Lists.{numbers}
use Rattle.act1_groute.specs.RouteSteps.{wirings_with}
use Rattle.act1_groute.proofs.routing.channels_of.Given as goal

-- the channels so far
abbrev pub invariant-loop-channel : goal.invariant-loop-channel
invariant-loop-channel l = l.found.items ≡ map (λ h. wirings_with l.device l.plan h l.nets l.owns) (numbers 0 l.channel)
