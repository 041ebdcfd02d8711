use Rattle.std.proofs.Common.{◌≡◌, ◌++◌, take}
use Rattle.act1_blifread.specs.Parts.{all_of, node_names}
use Rattle.act1_blifread.proofs.signals.add_nodes.Given as goal

abbrev pub invariant-loop-numbered : goal.invariant-loop-numbered
invariant-loop-numbered l = l.out.items ≡ l.initial.out.items ++ all_of node_names (take l.numbered-index l.statements)
