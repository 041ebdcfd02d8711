use Rattle.std.proofs.Common.{◌-◌}
use Rattle.act1_dd.proofs.Seen.{AreWithin}
use Rattle.act1_dd.proofs.Walks.{IsShown}
use Rattle.act1_dd.proofs.diagrams.Diagrams.see.Given as goal

-- so many of the listed forks have been looked at
abbrev pub invariant-loop-node : goal.invariant-loop-node
invariant-loop-node l = record { shows : IsShown l.self l.fn.f l.seen.keys l.next; within : AreWithin l.self l.seen.keys }

abbrev pub decreases-loop-node : goal.decreases-loop-node
decreases-loop-node l = l.limit - l.next
