use Rattle.std.proofs.Common.{◌≡◌, ◌++◌, map, take}
use Rattle.act1_map.specs.MapSteps.{at_node}
use Rattle.act1_map.proofs.numbers.add_tiles.Given as goal

-- the first tiles went last
abbrev pub invariant-loop-tile : goal.invariant-loop-tile
invariant-loop-tile l = l.tiles.items ≡ l.fn.tiles.items ++ map (at_node l.node) (take l.tile-index l.own)
