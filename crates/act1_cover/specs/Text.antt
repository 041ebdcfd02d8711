-- The text of the least covers of a netlist, node by node. The text is this project's own.
use Rattle.std.specs.Prelude.{ℕ, suc, ◌≡◌, List, [], ◌∷◌, ◌++◌, length, map, codes}
use Rattle.std.specs.List.{AllZip, flat_map}
use Rattle.std.specs.Fmt.{decimal}
use Rattle.act1_base.specs.Words.{text_of_lines}
use Rattle.act1_blif.specs.declared.blif.Blif.{Blif}
use Rattle.act1_blif.specs.declared.blif.Node.{Node}
use Rattle.act1_cover.specs.declared.forest.Forest.{Forest}
use Rattle.act1_cover.specs.declared.forest.Fork.{Fork}
use Rattle.act1_cover.specs.declared.forest.Term.{Term}
use Rattle.act1_cover.specs.declared.forest.Term.TheVariants as term
use Rattle.act1_cover.specs.declared.tile.Tile.{Tile}
use Rattle.act1_cover.specs.Denotes.{IsForestOfCover}
use Rattle.act1_cover.specs.Least.{IsLeastTiling}
use Rattle.act1_cover.specs.Tilings.{total, shape_number}

-- the name of a node, the forest of its cover, and tiles of that
pub record NodeCover : Type 0 where
  pub name : List ℕ
  pub forest : Forest
  pub tiles : List Tile

-- it is the node's, and no tiling has fewer tiles
pub record IsCoverOf (node : Node) (c : NodeCover) : Type 0 where
  pub name : c.name ≡ node.name
  pub forest : IsForestOfCover node.cover c.forest
  pub least : IsLeastTiling c.forest c.tiles

-- `x` or `f`, and a number
abbrev pub input_word : ℕ → List ℕ
input_word v = 120 ∷ decimal v

abbrev pub term_word : Term → List ℕ
term_word term.Zero = codes "0"
term_word term.One = codes "1"
term_word (term.Var v) = input_word v
term_word (term.Fork k) = 102 ∷ decimal k

-- the line of a fork: its number, its input, and both parts
abbrev pub fork_words : ℕ → Fork → List (List ℕ)
fork_words k f = codes "fork" ∷ decimal k ∷ input_word f.var ∷ term_word f.low ∷ term_word f.high ∷ []

-- the lines of forks that are numbered from k
abbrev pub fork_lines : ℕ → List Fork → List (List (List ℕ))
fork_lines k [] = []
fork_lines k (f ∷ fs) = fork_words k f ∷ fork_lines (suc k) fs

abbrev pub tile_words : Tile → List (List ℕ)
tile_words t = codes "tile" ∷ decimal t.fork ∷ decimal (shape_number t.shape) ∷ []

-- the lines of a node: its name, its forks, its root and its tiles
abbrev pub node_lines : NodeCover → List (List (List ℕ))
node_lines c = (codes "node" ∷ c.name ∷ []) ∷ fork_lines 0 c.forest.forks ++ (codes "root" ∷ term_word c.forest.root ∷ []) ∷ map tile_words c.tiles

-- how many tiles there are in all
abbrev pub tile_count : List NodeCover → ℕ
tile_count covers = total (λ (c : NodeCover). length c.tiles) covers

abbrev pub cover_lines : List NodeCover → List (List (List ℕ))
cover_lines covers = (codes "act1" ∷ codes "cover" ∷ codes "1" ∷ []) ∷ flat_map node_lines covers ++ (codes "tiles" ∷ decimal (tile_count covers) ∷ []) ∷ (codes "end" ∷ []) ∷ []

-- the text is that of a cover for each node, in order
pub record IsCoverText (b : Blif) (text : List ℕ) : Type 0 where
  pub covers : List NodeCover
  pub each : AllZip IsCoverOf b.nodes covers
  pub is : text ≡ text_of_lines (cover_lines covers)
