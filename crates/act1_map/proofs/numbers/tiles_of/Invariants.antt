use Rattle.std.proofs.Common.{◌≡◌, ◌++◌, drop}
use Rattle.act1_map.specs.MapSteps.{tiles_from}
use Rattle.act1_map.proofs.numbers.tiles_of.Given as goal

-- with those to come these are all
abbrev pub invariant-loop-node : goal.invariant-loop-node
invariant-loop-node l = l.tiles.items ++ tiles_from l.live l.first l.node (drop l.node l.covers) ≡ tiles_from l.live l.first 0 l.covers
