use Rattle.std.proofs.Common.{take}
use Rattle.act1_order.specs.ReadersSteps.{Adds}
use Rattle.act1_order.proofs.readers.add_to_all.Given as goal

-- the first vertices have one more reader
abbrev pub invariant-loop-vertex : goal.invariant-loop-vertex
invariant-loop-vertex l = Adds l.reader (take l.vertex-index l.vertices) l.initial.readers.items l.readers.items
