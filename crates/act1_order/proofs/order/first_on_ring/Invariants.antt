use Rattle.std.proofs.Common.{◌≤◌, length}
use Rattle.act1_order.specs.ReachSteps.{AreMarkedFrom, IsLeastFrom}
use Rattle.act1_order.proofs.order.first_on_ring.Given as goal

-- the vertices from this place on were looked at
abbrev pub invariant-loop-at : goal.invariant-loop-at
invariant-loop-at l = (l.at ≤ length l.order) × AreMarkedFrom l.reads l.order l.at l.reached × IsLeastFrom l.reads l.order l.at l.first

abbrev pub decreases-loop-at : goal.decreases-loop-at
decreases-loop-at l = l.at
