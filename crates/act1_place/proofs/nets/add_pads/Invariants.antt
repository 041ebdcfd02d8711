use Rattle.std.proofs.Common.{◌≡◌, ◌+◌, ◌++◌, drop}
use Rattle.act1_place.specs.NetSteps.{driven_pads}
use Rattle.act1_place.proofs.nets.add_pads.Given as goal

-- the pads so far, and those to come
abbrev pub invariant-loop-at : goal.invariant-loop-at
invariant-loop-at l = l.found.items ++ driven_pads l.device l.net (l.first + l.at) (drop l.at l.outputs) ≡ l.initial.found.items ++ driven_pads l.device l.net l.first l.outputs
