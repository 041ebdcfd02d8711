use Rattle.std.proofs.Common.{◌≡◌, ◌++◌, map, take}
use Rattle.act1_base.specs.Words.{text_of_lines}
use Rattle.act1_cover.specs.Text.{tile_words}
use Rattle.act1_cover.proofs.text.write_tiles.Given as goal

abbrev pub invariant-loop-tile : goal.invariant-loop-tile
invariant-loop-tile l = l.text.items ≡ l.initial.text.items ++ text_of_lines (map tile_words (take l.tile-index l.tiles))
