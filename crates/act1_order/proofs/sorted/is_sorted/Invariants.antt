use Rattle.act1_order.proofs.SortedLemmas.{IsSortedTo}
use Rattle.act1_order.proofs.sorted.is_sorted.Given as goal

-- the vertices so far stand after those that they read
abbrev pub invariant-loop-vertex : goal.invariant-loop-vertex
invariant-loop-vertex l = IsSortedTo l.reads l.order l.vertex-index l.placed.items
