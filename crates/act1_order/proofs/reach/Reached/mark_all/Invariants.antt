use Rattle.std.proofs.Common.{take}
use Rattle.act1_order.specs.ReachSteps.{Marks}
use Rattle.act1_order.proofs.reach.Reached.mark_all.Given as goal

-- the first vertices are marked
abbrev pub invariant-loop-vertex : goal.invariant-loop-vertex
invariant-loop-vertex l = Marks (take l.vertex-index l.vertices) l.initial.self l.self
