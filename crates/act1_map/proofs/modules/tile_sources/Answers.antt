use Rattle.std.proofs.Common.{arith}
use Rattle.act1_map.proofs.NodeParts.{pin_asks_at, pin_entry_at}
use Rattle.act1_map.proofs.modules.tile_sources.Goals as goal

pub part_source-requires-clause-asks : goal.part_source-requires-clause-asks
part_source-requires-clause-asks c =
    pin_asks_at c.args.node.now c.args.covered.now c.requires.covered c.as_slice-inputs.result.now c.args.places.now c.as_slice-inputs.ensures c.requires.width c.requires.table c.args.tile c.requires.stands c.tile_pins-pins.result c.tile_pins-pins.ensures 0 _ (omega arith)

pub part_source-requires-clause-entry : goal.part_source-requires-clause-entry
part_source-requires-clause-entry c =
    pin_entry_at c.args.node.now c.args.covered.now c.requires.covered c.as_slice-inputs.result.now c.args.places.now c.as_slice-inputs.ensures c.requires.width c.requires.table c.args.tile c.requires.stands c.tile_pins-pins.result c.tile_pins-pins.ensures 0 _ (omega arith)

pub part_source-requires-2-clause-asks : goal.part_source-requires-2-clause-asks
part_source-requires-2-clause-asks c =
    pin_asks_at c.args.node.now c.args.covered.now c.requires.covered c.as_slice-inputs.result.now c.args.places.now c.as_slice-inputs.ensures c.requires.width c.requires.table c.args.tile c.requires.stands c.tile_pins-pins.result c.tile_pins-pins.ensures 1 _ (omega arith)

pub part_source-requires-2-clause-entry : goal.part_source-requires-2-clause-entry
part_source-requires-2-clause-entry c =
    pin_entry_at c.args.node.now c.args.covered.now c.requires.covered c.as_slice-inputs.result.now c.args.places.now c.as_slice-inputs.ensures c.requires.width c.requires.table c.args.tile c.requires.stands c.tile_pins-pins.result c.tile_pins-pins.ensures 1 _ (omega arith)

pub part_source-requires-3-clause-asks : goal.part_source-requires-3-clause-asks
part_source-requires-3-clause-asks c =
    pin_asks_at c.args.node.now c.args.covered.now c.requires.covered c.as_slice-inputs.result.now c.args.places.now c.as_slice-inputs.ensures c.requires.width c.requires.table c.args.tile c.requires.stands c.tile_pins-pins.result c.tile_pins-pins.ensures 2 _ (omega arith)

pub part_source-requires-4-clause-asks : goal.part_source-requires-4-clause-asks
part_source-requires-4-clause-asks c =
    pin_asks_at c.args.node.now c.args.covered.now c.requires.covered c.as_slice-inputs.result.now c.args.places.now c.as_slice-inputs.ensures c.requires.width c.requires.table c.args.tile c.requires.stands c.tile_pins-pins.result c.tile_pins-pins.ensures 3 _ (omega arith)

pub part_source-requires-4-clause-entry : goal.part_source-requires-4-clause-entry
part_source-requires-4-clause-entry c =
    pin_entry_at c.args.node.now c.args.covered.now c.requires.covered c.as_slice-inputs.result.now c.args.places.now c.as_slice-inputs.ensures c.requires.width c.requires.table c.args.tile c.requires.stands c.tile_pins-pins.result c.tile_pins-pins.ensures 3 _ (omega arith)

pub part_source-requires-5-clause-asks : goal.part_source-requires-5-clause-asks
part_source-requires-5-clause-asks c =
    pin_asks_at c.args.node.now c.args.covered.now c.requires.covered c.as_slice-inputs.result.now c.args.places.now c.as_slice-inputs.ensures c.requires.width c.requires.table c.args.tile c.requires.stands c.tile_pins-pins.result c.tile_pins-pins.ensures 4 _ (omega arith)

pub part_source-requires-5-clause-entry : goal.part_source-requires-5-clause-entry
part_source-requires-5-clause-entry c =
    pin_entry_at c.args.node.now c.args.covered.now c.requires.covered c.as_slice-inputs.result.now c.args.places.now c.as_slice-inputs.ensures c.requires.width c.requires.table c.args.tile c.requires.stands c.tile_pins-pins.result c.tile_pins-pins.ensures 4 _ (omega arith)

pub part_source-requires-6-clause-asks : goal.part_source-requires-6-clause-asks
part_source-requires-6-clause-asks c =
    pin_asks_at c.args.node.now c.args.covered.now c.requires.covered c.as_slice-inputs.result.now c.args.places.now c.as_slice-inputs.ensures c.requires.width c.requires.table c.args.tile c.requires.stands c.tile_pins-pins.result c.tile_pins-pins.ensures 5 _ (omega arith)

pub part_source-requires-7-clause-asks : goal.part_source-requires-7-clause-asks
part_source-requires-7-clause-asks c =
    pin_asks_at c.args.node.now c.args.covered.now c.requires.covered c.as_slice-inputs.result.now c.args.places.now c.as_slice-inputs.ensures c.requires.width c.requires.table c.args.tile c.requires.stands c.tile_pins-pins.result c.tile_pins-pins.ensures 6 _ (omega arith)

pub part_source-requires-8-clause-asks : goal.part_source-requires-8-clause-asks
part_source-requires-8-clause-asks c =
    pin_asks_at c.args.node.now c.args.covered.now c.requires.covered c.as_slice-inputs.result.now c.args.places.now c.as_slice-inputs.ensures c.requires.width c.requires.table c.args.tile c.requires.stands c.tile_pins-pins.result c.tile_pins-pins.ensures 7 _ (omega arith)
