use Rattle.act1_map.specs.MapSteps.{AreTileModules}
use Rattle.act1_map.proofs.modules.tile_modules.Given as goal

-- the first tiles have their modules
abbrev pub invariant-loop-tile : goal.invariant-loop-tile
invariant-loop-tile l = AreTileModules l.blif.nodes l.covers l.places l.sources l.tiles l.tile-index l.modules
