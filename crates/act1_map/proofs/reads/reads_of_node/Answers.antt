use Rattle.act1_map.proofs.CoverReads.{root_asks, tile_asks, tile_stands}
use Rattle.act1_map.proofs.reads.reads_of_node.Goals as goal

pub add_input-requires : goal.add_input-requires
add_input-requires c = root_asks c.args.node.now c.args.covered.now c.requires.covered c.as_slice-inputs.result.now c.as_slice-inputs.ensures c.requires.width

pub tile_pins-requires-clause-stands : goal.tile_pins-requires-clause-stands
tile_pins-requires-clause-stands c =
    tile_stands c.args.node.now c.args.covered.now c.requires.covered c.as_slice-tile-items.result.now c.as_slice-tile-items.ensures c.loop-tile.tile-index _ c.loop-tile-test.true

pub add_inputs-requires : goal.add_inputs-requires
add_inputs-requires c =
    tile_asks c.args.node.now c.args.covered.now c.requires.covered c.as_slice-inputs.result.now c.as_slice-inputs.ensures c.requires.width _ c.tile_pins.result
    (tile_stands c.args.node.now c.args.covered.now c.requires.covered c.as_slice-tile-items.result.now c.as_slice-tile-items.ensures c.loop-tile.tile-index _ c.loop-tile-test.true) c.tile_pins.ensures
