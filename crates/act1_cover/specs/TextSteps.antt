-- What is written of a netlist's covers so far.
use Rattle.std.specs.Prelude.{ℕ, ◌≡◌, List, ◌++◌, length}
use Rattle.std.specs.List.{AllZip, flat_map}
use Rattle.act1_base.specs.Words.{text_of_lines}
use Rattle.act1_blif.specs.declared.blif.Node.{Node}
use Rattle.act1_cover.specs.Text.{NodeCover, IsCoverOf, node_lines, tile_count}

-- the lines of one node were added, and it has so many tiles
pub record AddsNode (node : Node) (before : List ℕ) (count : ℕ) (now : List ℕ) : Type 0 where
  pub cover : NodeCover
  pub is : IsCoverOf node cover
  pub text : now ≡ before ++ text_of_lines (node_lines cover)
  pub tiles : count ≡ length cover.tiles

-- the lines of these nodes were
pub record AddsNodes (nodes : List Node) (before : List ℕ) (count : ℕ) (now : List ℕ) : Type 0 where
  pub covers : List NodeCover
  pub each : AllZip IsCoverOf nodes covers
  pub text : now ≡ before ++ text_of_lines (flat_map node_lines covers)
  pub tiles : count ≡ tile_count covers
