use Rattle.std.proofs.lemmas.Option.{slice_get-get_or}
use Rattle.act1_map.proofs.NodeParts.{module_more}
use Rattle.act1_map.proofs.modules.tile_modules.Goals as goal

pub module_of-requires-clause-stands : goal.module_of-requires-clause-stands
module_of-requires-clause-stands c = c.requires.tiles.stand c.loop-tile.tile-index _ (slice_get-get_or c.args.tiles.now c.loop-tile.tile-index _ c.loop-tile-test.true)

pub loop-tile-preserved : goal.loop-tile-preserved
loop-tile-preserved c =
    module_more c.args.blif.now.nodes c.args.covers.now c.args.places.now c.args.sources.now c.args.tiles.now c.loop-tile.tile-index _ c.module_of.result c.loop-tile.modules c.push.new.self
    (slice_get-get_or c.args.tiles.now c.loop-tile.tile-index _ c.loop-tile-test.true) c.module_of.ensures c.loop-tile.invariant c.in_ok-push.ensures.ok
