-- The least count of modules: of each cover the fewest tiles of its forest, and two modules for each latch.
use Rattle.std.specs.Prelude.{ℕ, ◌≡◌, ◌≤◌, ◌+◌, ◌*◌, List, length}
use Rattle.std.specs.List.{AllZip}
use Rattle.act1_blif.specs.declared.blif.Blif.{Blif}
use Rattle.act1_blif.specs.declared.blif.Node.{Node}
use Rattle.act1_blif.specs.Need.{need}
use Rattle.act1_cover.specs.declared.forest.Forest.{Forest}
use Rattle.act1_cover.specs.declared.tile.Tile.{Tile}
use Rattle.act1_cover.specs.Denotes.{IsForestOfCover}
use Rattle.act1_cover.specs.Least.{IsLeastTiling}
use Rattle.act1_cover.specs.Tilings.{total}

-- no tiling of the forest of the node's cover has fewer tiles, and some tiling has so many
pub record IsLeastOfNode (node : Node) (count : ℕ) : Type 0 where
  pub forest : Forest
  pub tiles : List Tile
  pub forest_is : IsForestOfCover node.cover forest
  pub least : IsLeastTiling forest tiles
  pub count_is : count ≡ length tiles

-- the least count of a netlist
pub record IsLeast (b : Blif) (k : ℕ) : Type 0 where
  pub counts : List ℕ
  pub each : AllZip IsLeastOfNode b.nodes counts
  pub is : k ≡ total (λ (count : ℕ). count) counts + 2 * length b.latches

-- it is never more than the need
abbrev pub LeastIsAtMostNeed : Type 0
LeastIsAtMostNeed = (b : Blif) (k : ℕ) → IsLeast b k → k ≤ need b

-- a netlist has one least count
abbrev pub LeastIsOne : Type 0
LeastIsOne = (b : Blif) (j k : ℕ) → IsLeast b j → IsLeast b k → j ≡ k
