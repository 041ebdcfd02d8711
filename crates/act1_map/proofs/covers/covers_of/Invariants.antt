use Rattle.act1_map.specs.CoverSteps.{AreCovered}
use Rattle.act1_map.proofs.covers.covers_of.Given as goal

-- the first nodes have their forests and tiles
abbrev pub invariant-loop-node : goal.invariant-loop-node
invariant-loop-node l = AreCovered l.nodes l.node-index l.covers.items
