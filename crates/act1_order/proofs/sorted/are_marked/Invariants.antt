use Rattle.std.proofs.Common.{ℕ, take}
use Rattle.std.specs.Prelude.{Contains}
use Rattle.act1_order.specs.ReachSteps.{IsMarked}
use Rattle.act1_order.proofs.sorted.are_marked.Given as goal

-- the first vertices are marked
abbrev pub invariant-loop-vertex : goal.invariant-loop-vertex
invariant-loop-vertex l = (w : ℕ) → Contains (take l.vertex-index l.vertices) w → IsMarked l.marks w
