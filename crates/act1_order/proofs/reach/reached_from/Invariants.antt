use Rattle.std.proofs.Common.{◌+◌, length}
use Rattle.act1_order.specs.ReachSteps.{IsReaching, unmarked}
use Rattle.act1_order.proofs.reach.reached_from.Given as goal

abbrev pub invariant-loop-next : goal.invariant-loop-next
invariant-loop-next l = IsReaching l.reads l.roots l.reached

-- each vertex is looked at once, after it was marked
abbrev pub decreases-loop-next : goal.decreases-loop-next
decreases-loop-next l = unmarked l.reached.marks.items + length l.reached.left.items
