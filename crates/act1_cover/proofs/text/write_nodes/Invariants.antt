use Rattle.std.proofs.Common.{take}
use Rattle.act1_cover.specs.TextSteps.{AddsNodes}
use Rattle.act1_cover.proofs.text.write_nodes.Given as goal

abbrev pub invariant-loop-node : goal.invariant-loop-node
invariant-loop-node l = AddsNodes (take l.node-index l.nodes) l.initial.text.items l.count l.text.items
