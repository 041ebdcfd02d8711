use Rattle.std.proofs.Common.{take}
use Rattle.act1_map.specs.MapSteps.{AreLeastOf}
use Rattle.act1_map.proofs.counting.least_of_nodes.Given as goal

-- the tiles of the first nodes were counted
abbrev pub invariant-loop-node : goal.invariant-loop-node
invariant-loop-node l = AreLeastOf (take l.node-index l.nodes) l.count
