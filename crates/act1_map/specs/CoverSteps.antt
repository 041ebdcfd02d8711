-- The forests and tiles of nodes, and what is known where the pins of a tile are written.
use Rattle.std.specs.Prelude.{ℕ, ◌≡◌, ◌<◌, List, ◌++◌, length, Option, Some, None, slice_get, slice_index_or}
use Rattle.std.specs.List.{filter_map, flat_map}
use Rattle.std.specs.Option.{option_to_list}
use Rattle.act1_blif.specs.declared.blif.Node.{Node}
use Rattle.act1_cover.specs.declared.forest.Forest.{Forest}
use Rattle.act1_cover.specs.declared.forest.Term.{Term}
use Rattle.act1_cover.specs.declared.forest.Term.TheVariants as term
use Rattle.act1_cover.specs.declared.tile.Tile.{Tile}
use Rattle.act1_cover.specs.Denotes.{IsForestOfCover}
use Rattle.act1_cover.specs.Least.{IsForest, IsLeastTiling}
use Rattle.act1_cover.specs.Pins.{pins_of}
use Rattle.act1_map.specs.declared.covers.Covered.{Covered}

-- the forest is that of the node's cover, and no tiling has fewer tiles
pub record IsCovered (node : Node) (c : Covered) : Type 0 where
  pub forest : IsForestOfCover node.cover c.forest
  pub is_forest : IsForest c.forest
  pub least : IsLeastTiling c.forest c.cover.tiles

-- the first n nodes have their forests and tiles
pub record AreCovered (nodes : List Node) (n : ℕ) (covers : List Covered) : Type 0 where
  pub count : length covers ≡ n
  pub each : (i : ℕ) (node : Node) (c : Covered) → slice_get nodes i ≡ Some node → slice_get covers i ≡ Some c → IsCovered node c

-- the term is no fork that isn't there
abbrev pub IsForkWithin : Forest → Term → Type 0
IsForkWithin forest (term.Fork j) = j < length forest.forks
IsForkWithin forest term.Zero = Unit {0}
IsForkWithin forest term.One = Unit {0}
IsForkWithin forest (term.Var v) = Unit {0}

-- the input that the term is, if it is one, is below w
abbrev pub AsksWithin : ℕ → Term → Type 0
AsksWithin w (term.Var v) = v < w
AsksWithin w term.Zero = Unit {0}
AsksWithin w term.One = Unit {0}
AsksWithin w (term.Fork j) = Unit {0}

-- the signal of a term of a node's forest, where the node has these inputs and the term is one of them
abbrev pub input_signal : List ℕ → Term → Option ℕ
input_signal inputs (term.Var v) = Some (slice_index_or inputs v 0)
input_signal inputs term.Zero = None
input_signal inputs term.One = None
input_signal inputs (term.Fork j) = None

-- the signals that a node reads, where it has these inputs: at its root, and at the pins of its tiles
abbrev pub reads_of_tile : List ℕ → Forest → Tile → List ℕ
reads_of_tile inputs forest u = filter_map (input_signal inputs) (pins_of forest u)

abbrev pub reads_of_cover : List ℕ → Covered → List ℕ
reads_of_cover inputs c = option_to_list (input_signal inputs c.forest.root) ++ flat_map (reads_of_tile inputs c.forest) c.cover.tiles
