use Rattle.std.proofs.Common.{◌-◌, ◌≤◌}
use Rattle.act1_dd.proofs.Walks.{IsWalk}
use Rattle.act1_dd.proofs.diagrams.Diagrams.has_more_than.Given as goal

-- so many of the listed forks have been looked at, and those are within the limit
abbrev pub invariant-loop-node : goal.invariant-loop-node
invariant-loop-node l = record { walk : IsWalk l.self l.fn.f l.found.keys l.next; few : l.next ≤ l.limit }

abbrev pub decreases-loop-node : goal.decreases-loop-node
decreases-loop-node l = l.limit - l.next
