use Rattle.std.proofs.Common.{◌≡◌, ◌++◌, take}
use Rattle.std.specs.List.{flat_map}
use Rattle.act1_base.specs.Words.{text_of_lines}
use Rattle.act1_blif.specs.Text.{node_lines}
use Rattle.act1_blif.proofs.text.write_nodes.Given as goal

-- the lines of the first nodes are written
abbrev pub invariant-loop-node : goal.invariant-loop-node
invariant-loop-node l = l.text.items ≡ l.initial.text.items ++ text_of_lines (flat_map (node_lines l.blif) (take l.node-index l.nodes))
