use Rattle.std.proofs.Common.{◌+◌, length}
use Rattle.act1_order.specs.ReachSteps.{AreReached, unmarked}
use Rattle.act1_order.proofs.reach.Reached.is_on_ring.Given as goal

abbrev pub invariant-loop-next : goal.invariant-loop-next
invariant-loop-next l = AreReached l.reads l.order l.at l.self

-- each vertex is looked at once, after it was marked
abbrev pub decreases-loop-next : goal.decreases-loop-next
decreases-loop-next l = unmarked l.self.marks.items + length l.self.left.items
