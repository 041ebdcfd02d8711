use Rattle.std.proofs.Common.{◌≡◌, ◌++◌, ◌∷◌, [], length, map, replicate, take}
use Rattle.act1_blif.specs.declared.blif.Latch.{Latch}
use Rattle.act1_blif.specs.declared.blif.Node.{Node}
use Rattle.act1_net.specs.MarkSteps.{signals_left}
use Rattle.act1_net.proofs.marks.reads_left.Given as goal

-- the first inputs read none
abbrev pub invariant-loop-input : goal.invariant-loop-input
invariant-loop-input l = l.reads.items ≡ replicate l._input []

-- the first latches read what they take
abbrev pub invariant-loop-latch : goal.invariant-loop-latch
invariant-loop-latch l = l.reads.items ≡ replicate (length l.blif.inputs) [] ++ map (λ (latch : Latch). signals_left l.terms (latch.input ∷ [])) (take l.latch-index l.blif.latches)

-- the first nodes read what is left of their inputs
abbrev pub invariant-loop-node : goal.invariant-loop-node
invariant-loop-node l =
    l.reads.items ≡ replicate (length l.blif.inputs) [] ++ map (λ (latch : Latch). signals_left l.terms (latch.input ∷ [])) l.blif.latches
    ++ map (λ (node : Node). signals_left l.terms node.inputs) (take l.node-index l.blif.nodes)
