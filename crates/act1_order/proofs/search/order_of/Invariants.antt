use Rattle.act1_order.proofs.SearchLemmas.{ArePlaced}
use Rattle.act1_order.proofs.search.order_of.Given as goal

-- the vertices so far are placed
abbrev pub invariant-loop-vertex : goal.invariant-loop-vertex
invariant-loop-vertex l = ArePlaced l.reads l.vertex l.search
