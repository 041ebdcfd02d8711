use Rattle.std.proofs.Common.{◌≡◌, ◌++◌, drop}
use Rattle.act1_groute.specs.RouteSteps.{wirings_with}
use Rattle.act1_groute.proofs.connections.wirings_of.Given as goal

-- the connections so far, and those to come
abbrev pub invariant-loop-at : goal.invariant-loop-at
invariant-loop-at l = l.wirings.items ++ wirings_with l.device l.plan l.channel (drop l.at l.nets) (drop l.at l.owns) ≡ wirings_with l.device l.plan l.channel l.nets l.owns
