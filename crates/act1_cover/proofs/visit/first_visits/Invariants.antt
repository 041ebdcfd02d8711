use Rattle.std.proofs.Common.{◌+◌, ◌*◌, ◌-◌, length}
use Rattle.act1_cover.proofs.RefVisits.{IsWalk}
use Rattle.act1_cover.proofs.visit.first_visits.Given as goal

-- what was found, and what is still to be visited
abbrev pub invariant-loop-r : goal.invariant-loop-r
invariant-loop-r l = IsWalk l.store l.fn.root l.found.keys l.stack.items

abbrev pub decreases-loop-r : goal.decreases-loop-r
decreases-loop-r l = 2 * (length l.store - length l.found.keys) + length l.stack.items
