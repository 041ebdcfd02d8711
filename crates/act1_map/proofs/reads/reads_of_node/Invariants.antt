use Rattle.std.proofs.Common.{◌≡◌, ◌++◌, take}
use Rattle.std.specs.List.{flat_map}
use Rattle.std.specs.Option.{option_to_list}
use Rattle.act1_map.specs.CoverSteps.{input_signal, reads_of_tile}
use Rattle.act1_map.proofs.reads.reads_of_node.Given as goal

-- the root's signal, and those of the first tiles, were added
abbrev pub invariant-loop-tile : goal.invariant-loop-tile
invariant-loop-tile l =
    l.reads ≡ option_to_list (input_signal l.inputs l.covered.forest.root) ++ flat_map (reads_of_tile l.inputs l.covered.forest) (take l.tile-index l.covered.cover.tiles)
