-- Mappings without needless modules: each module is read, and no node has more than its fewest tiles.
use Rattle.std.specs.Prelude.{ℕ, ◌≡◌, ◌<◌, ◌+◌, ◌⊎◌, true, List, length, Some, Contains, slice_get}
use Rattle.act1_blif.specs.declared.blif.Node.{Node}
use Rattle.act1_blif.specs.Graph.{first_node}
use Rattle.act1_circuit.specs.declared.circuit.Circuit.{Circuit}
use Rattle.act1_circuit.specs.declared.circuit.Output.{Output}
use Rattle.act1_circuit.specs.declared.circuit.Source.TheVariants.{Module}
use Rattle.act1_circuit.specs.PairForm.{pin_of}
use Rattle.act1_cover.specs.declared.forest.Forest.{Forest}
use Rattle.act1_cover.specs.declared.forest.Term.TheVariants as term
use Rattle.act1_cover.specs.declared.tile.Tile.{Tile}
use Rattle.act1_cover.specs.Least.{IsLeastTiling}
use Rattle.act1_cover.specs.Pins.{pins_of}
use Rattle.act1_net.specs.declared.net.Net.{Net}
use Rattle.act1_net.specs.declared.net.NetTerm.TheVariants as net
use Rattle.act1_map.specs.Mapped.{Tables, tile, is_live, input_of}

-- the module is the source of some pin or output
abbrev pub IsSource : Circuit → ℕ → Type 0
IsSource c m = ((k : ℕ) × (pin : ℕ) × (pin < 8) × (pin_of c k pin ≡ Module m)) ⊎ ((j : ℕ) × (o : Output) × (slice_get c.outputs j ≡ Some o) × (o.source ≡ Module m))

-- the tiles of a node are a tiling of its forest, and none has fewer
pub record IsTiled (t : Tables) (i : ℕ) (forest : Forest) : Type 0 where
  pub tiles : List Tile
  pub there : slice_get t.tiles i ≡ Some tiles
  pub least : IsLeastTiling forest tiles

-- the tile is one of the node's
abbrev pub IsTileOf : Tables → ℕ → Tile → Type 0
IsTileOf t i u = (tiles : List Tile) × (j : ℕ) × (slice_get t.tiles i ≡ Some tiles) × (slice_get tiles j ≡ Some u)

-- a tile has the signal at a pin
pub record IsOfTile (n : Net) (t : Tables) (s : ℕ) : Type 0 where
  pub at : ℕ
  pub i : ℕ
  pub of : Tile
  pub node : Node
  pub forest : Forest
  pub role : slice_get t.roles at ≡ Some (tile i of)
  pub node_is : slice_get n.blif.nodes i ≡ Some node
  pub forest_is : slice_get t.forests i ≡ Some forest
  pub v : ℕ
  pub reads : Contains (pins_of forest of) (term.Var v)
  pub is : input_of node v ≡ s

-- a node with a source is that signal: the root of its forest is an input
pub record IsOfNode (n : Net) (t : Tables) (s : ℕ) : Type 0 where
  pub i : ℕ
  pub node : Node
  pub forest : Forest
  pub node_is : slice_get n.blif.nodes i ≡ Some node
  pub forest_is : slice_get t.forests i ≡ Some forest
  pub live : is_live t (first_node n.blif + i) ≡ true
  pub v : ℕ
  pub within : v < length node.inputs
  pub root : forest.root ≡ term.Var v
  pub is : input_of node v ≡ s

-- the signal is an output, or what a latch takes, or one that a tile reads or that a node is
abbrev pub IsUsed : Net → Tables → ℕ → Type 0
IsUsed n t s = Contains n.outputs (net.Signal s) ⊎ Contains n.next (net.Signal s) ⊎ IsOfTile n t s ⊎ IsOfNode n t s

-- each node has a tiling, a module is a tile of a node with a source, each tile of such a node has its module, and each such node is used
pub record IsFull (n : Net) (t : Tables) : Type 0 where
  pub count : length t.tiles ≡ length n.blif.nodes
  pub tiled : (i : ℕ) (forest : Forest) → slice_get t.forests i ≡ Some forest → i < length n.blif.nodes → IsTiled t i forest
  pub only : (m i : ℕ) (u : Tile) → slice_get t.roles m ≡ Some (tile i u) → IsTileOf t i u × (is_live t (first_node n.blif + i) ≡ true)
  pub each : (i : ℕ) (u : Tile) → is_live t (first_node n.blif + i) ≡ true → IsTileOf t i u → slice_get t.roles (t.place i u.fork) ≡ Some (tile i u)
  pub used : (i : ℕ) → i < length n.blif.nodes → is_live t (first_node n.blif + i) ≡ true → IsUsed n t (first_node n.blif + i)
