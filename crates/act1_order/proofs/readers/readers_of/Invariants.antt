use Rattle.act1_order.specs.ReadersSteps.{AreReadersBelow}
use Rattle.act1_order.proofs.readers.readers_of.Given as goal

-- the readers among the vertices so far are gathered
abbrev pub invariant-loop-vertex : goal.invariant-loop-vertex
invariant-loop-vertex l = AreReadersBelow l.reads l.vertex l.readers.items
