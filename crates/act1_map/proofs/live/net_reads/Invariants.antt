use Rattle.std.proofs.Common.{◌≡◌, ◌++◌, [], drop, replicate}
use Rattle.act1_map.specs.MapSteps.{net_reads, reads_of_covers}
use Rattle.act1_map.proofs.live.net_reads.Given as goal

-- inputs and latches read none
abbrev pub invariant-loop-signal : goal.invariant-loop-signal
invariant-loop-signal l = l.reads.items ≡ replicate l._signal []

-- with those of the nodes to come these are all
abbrev pub invariant-loop-at : goal.invariant-loop-at
invariant-loop-at l = l.reads.items ++ reads_of_covers (drop l.at l.net.blif.nodes) (drop l.at l.covers) ≡ net_reads l.net l.covers
