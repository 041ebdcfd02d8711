use Rattle.std.proofs.Common.{◌≡◌, ◌++◌, [], map, replicate, take}
use Rattle.act1_blif.specs.declared.blif.Node.{Node}
use Rattle.act1_blif.specs.Graph.{first_node}
use Rattle.act1_blif.proofs.valuation.reads_of.Given as goal

-- inputs and latches read none at once
abbrev pub invariant-loop-signal : goal.invariant-loop-signal
invariant-loop-signal l = l.reads.items ≡ replicate l._signal []

-- the first nodes read their inputs
abbrev pub invariant-loop-node : goal.invariant-loop-node
invariant-loop-node l = l.reads.items ≡ replicate (first_node l.blif) [] ++ map (λ (node : Node). node.inputs) (take l.node-index l.blif.nodes)
