use Rattle.std.proofs.Common.{◌≡◌, ◌+◌, length, take}
use Rattle.act1_blifread.specs.Parts.{all_of, node_names}
use Rattle.act1_blifread.proofs.graph.node_line.Given as goal

-- what is left to count
abbrev pub invariant-loop-numbered : goal.invariant-loop-numbered
invariant-loop-numbered l = l.left + length (all_of node_names (take l.numbered-index l.statements)) ≡ l.node
