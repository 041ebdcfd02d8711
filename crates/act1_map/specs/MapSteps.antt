-- What the passes of a mapping find, each from what those before it found.
use Rattle.std.specs.Prelude.{ℕ, suc, zero, ◌≡◌, ◌<◌, ◌+◌, ◌*◌, Bool, if◌then◌else◌, false, List, [], ◌∷◌, ◌++◌, length, map, replicate, Some, slice_get, slice_index_or}
use Rattle.std.specs.List.{AllZip, filter_map}
use Rattle.act1_blif.specs.declared.blif.Blif.{Blif}
use Rattle.act1_blif.specs.declared.blif.Latch.{Latch}
use Rattle.act1_blif.specs.declared.blif.Node.{Node}
use Rattle.act1_blif.specs.Graph.{first_node, reads_of, signal_count}
use Rattle.act1_order.specs.Order.{IsOrder}
use Rattle.act1_circuit.specs.declared.circuit.Circuit.{Circuit}
use Rattle.act1_circuit.specs.declared.circuit.Output.{Output}
use Rattle.act1_circuit.specs.declared.circuit.Source.{Source}
use Rattle.act1_circuit.specs.declared.circuit.Source.TheVariants.{Zero, One, Input, Module}
use Rattle.act1_circuit.specs.declared.circuit.Start.{Start}
use Rattle.act1_circuit.specs.PairForm.{rising, master_pins, slave_pins}
use Rattle.act1_cover.specs.declared.forest.Forest.{Forest}
use Rattle.act1_cover.specs.declared.forest.Term.{Term}
use Rattle.act1_cover.specs.declared.forest.Term.TheVariants as term
use Rattle.act1_cover.specs.declared.tile.Tile.{Tile}
use Rattle.act1_cover.specs.Pins.{pins_of}
use Rattle.act1_cover.specs.Tilings.{MayStand, total}
use Rattle.act1_net.specs.declared.net.Net.{Net}
use Rattle.act1_net.specs.declared.net.NetTerm.{NetTerm}
use Rattle.act1_net.specs.declared.net.NetTerm.TheVariants as net
use Rattle.act1_net.specs.Gates.{signal_of}
use Rattle.act1_map.specs.declared.covers.Covered.{Covered}
use Rattle.act1_map.specs.declared.tiles.NodeTile.{NodeTile}
use Rattle.act1_map.specs.CoverSteps.{reads_of_cover}
use Rattle.act1_map.specs.Least.{IsLeastOfNode}

-- so many tiles are those of the least covers of these nodes
pub record AreLeastOf (nodes : List Node) (count : ℕ) : Type 0 where
  pub counts : List ℕ
  pub each : AllZip IsLeastOfNode nodes counts
  pub is : count ≡ total (λ (k : ℕ). k) counts

-- what f gives at the numbers below n
abbrev pub at_first : {X : Type 0} → (ℕ → X) → ℕ → List X
at_first f zero = []
at_first f (suc n) = at_first f n ++ f n ∷ []

-- the signals that each node's module has at pins, or that the node is
abbrev pub reads_of_covers : List Node → List Covered → List (List ℕ)
reads_of_covers [] cs = []
reads_of_covers (node ∷ nodes) [] = []
reads_of_covers (node ∷ nodes) (c ∷ cs) = reads_of_cover node.inputs c ∷ reads_of_covers nodes cs

-- the same of all signals: inputs and latches read none
abbrev pub net_reads : Net → List Covered → List (List ℕ)
net_reads n cs = replicate (first_node n.blif) [] ++ reads_of_covers n.blif.nodes cs

-- what is read in any case: the signals of outputs, and those that latches take
abbrev pub net_roots : Net → List ℕ
net_roots n = filter_map signal_of n.outputs ++ filter_map signal_of n.next

-- a tile, as one of a node
abbrev pub at_node : ℕ → Tile → NodeTile
at_node i u = record { node = i; tile = u }

-- the tiles of a node, if it is read
abbrev pub tiles_if : Bool → ℕ → Covered → List NodeTile
tiles_if live i c = if live then map (at_node i) c.cover.tiles else []

-- the tiles of the nodes from the i-th on that are read, in order. The marks say of each signal whether it is read, and the nodes are those from the signal `first` on
abbrev pub tiles_from : List Bool → ℕ → ℕ → List Covered → List NodeTile
tiles_from marks first i [] = []
tiles_from marks first i (c ∷ cs) = tiles_if (slice_index_or marks (first + i) false) i c ++ tiles_from marks first (suc i) cs

-- the tile may stand at a fork of its node
abbrev pub StandsAt : List Covered → NodeTile → Type 0
StandsAt covers t = (c : Covered) × (slice_get covers t.node ≡ Some c) × MayStand c.forest t.tile.fork t.tile.shape

-- each tile may, and no fork has two
pub record AreNodeTiles (covers : List Covered) (tiles : List NodeTile) : Type 0 where
  pub stand : (m : ℕ) (t : NodeTile) → slice_get tiles m ≡ Some t → StandsAt covers t
  pub once : (m k : ℕ) (t u : NodeTile) → slice_get tiles m ≡ Some t → slice_get tiles k ≡ Some u → t.node ≡ u.node → t.tile.fork ≡ u.tile.fork → m ≡ k

-- the module of a fork, by the tables of the nodes
abbrev pub place_of : List (List ℕ) → ℕ → ℕ → ℕ
place_of places i k = slice_index_or (slice_index_or places i []) k 0

-- each node has a table with a module for each of its forks
pub record AreTables (covers : List Covered) (places : List (List ℕ)) : Type 0 where
  pub count : length places ≡ length covers
  pub each : (i : ℕ) (c : Covered) → slice_get covers i ≡ Some c → length (slice_index_or places i []) ≡ length c.forest.forks

-- and the first n tiles have their modules there
pub record ArePlaced (covers : List Covered) (tiles : List NodeTile) (n : ℕ) (places : List (List ℕ)) : Type 0 where
  pub tables : AreTables covers places
  pub at : (m : ℕ) (t : NodeTile) → m < n → slice_get tiles m ≡ Some t → place_of places t.node t.tile.fork ≡ m

-- the fork that the term is, if it is one, has an entry in a table of n
abbrev pub HasEntry : ℕ → Term → Type 0
HasEntry n (term.Fork j) = j < n
HasEntry n term.Zero = Unit {0}
HasEntry n term.One = Unit {0}
HasEntry n (term.Var v) = Unit {0}

-- the source of a term of a node's forest, by the sources of signals, the node's inputs and the modules of its forks
abbrev pub part_source : List Source → List ℕ → List ℕ → Term → Source
part_source sources inputs places term.Zero = Zero
part_source sources inputs places term.One = One
part_source sources inputs places (term.Var v) = slice_index_or sources (slice_index_or inputs v 0) Zero
part_source sources inputs places (term.Fork k) = Module (slice_index_or places k 0)

-- the source of a term of the net
abbrev pub source_in : List Source → NetTerm → Source
source_in sources net.Zero = Zero
source_in sources net.One = One
source_in sources (net.Signal s) = slice_index_or sources s Zero

-- the sources of inputs and latches, where the pairs of the latches come after so many modules, and nothing of the nodes
abbrev pub slave_at : ℕ → ℕ → ℕ
slave_at tiles j = tiles + 2 * j + 1

abbrev pub given_sources : Blif → ℕ → List Source
given_sources b tiles = at_first Input (length b.inputs) ++ at_first (λ j. Module (slave_at tiles j)) (length b.latches) ++ replicate (length b.nodes) Zero

-- the source of a node is that of its root
abbrev pub node_source : List Source → List (List ℕ) → ℕ → Node → Covered → Source
node_source sources places i node c = part_source sources node.inputs (slice_index_or places i []) c.forest.root

-- inputs and latches have their sources, and so have the nodes among the first signals of an order
pub record AreSourced (b : Blif) (covers : List Covered) (places : List (List ℕ)) (tiles : ℕ) (order : List ℕ) (done : ℕ) (sources : List Source) : Type 0 where
  pub all : length sources ≡ signal_count b
  pub given : (s : ℕ) → s < first_node b → slice_index_or sources s Zero ≡ slice_index_or (given_sources b tiles) s Zero
  pub nodes : (p i : ℕ) (node : Node) (c : Covered) → p < done → slice_get order p ≡ Some (first_node b + i) → slice_get b.nodes i ≡ Some node → slice_get covers i ≡ Some c
      → slice_index_or sources (first_node b + i) Zero ≡ node_source sources places i node c

-- all have, by some order
pub record AreSourcedAll (b : Blif) (covers : List Covered) (places : List (List ℕ)) (tiles : ℕ) (sources : List Source) : Type 0 where
  pub order : List ℕ
  pub is_order : IsOrder (reads_of b) order
  pub sourced : AreSourced b covers places tiles order (length order) sources

-- the sources of the pins of a tile
abbrev pub tile_pins_by : List Source → List ℕ → List ℕ → Forest → Tile → List Source
tile_pins_by sources inputs places forest u = map (part_source sources inputs places) (pins_of forest u)

abbrev pub tile_sources : List Source → List (List ℕ) → NodeTile → Node → Covered → List Source
tile_sources sources places t node c = tile_pins_by sources node.inputs (slice_index_or places t.node []) c.forest t.tile

-- a module for each of the first n tiles
pub record AreTileModules (nodes : List Node) (covers : List Covered) (places : List (List ℕ)) (sources : List Source) (tiles : List NodeTile) (n : ℕ) (modules : List (List Source)) : Type 0 where
  pub count : length modules ≡ n
  pub each : (m : ℕ) (t : NodeTile) (node : Node) (c : Covered) → m < n → slice_get tiles m ≡ Some t → slice_get nodes t.node ≡ Some node → slice_get covers t.node ≡ Some c
      → slice_get modules m ≡ Some (tile_sources sources places t node c)

-- the two modules of a latch that takes this source, the first of them of this number
abbrev pub pair_modules : Source → ℕ → List (List Source)
pair_modules takes m = master_pins rising takes m ∷ slave_pins rising m (m + 1) ∷ []

-- those of some latches, one after the other
abbrev pub latch_modules : List Source → ℕ → List NetTerm → List (List Source)
latch_modules sources m [] = []
latch_modules sources m (x ∷ xs) = pair_modules (source_in sources x) m ++ latch_modules sources (m + 2) xs

-- the starts of some latches, the first of them at this slave
abbrev pub starts_from : ℕ → List Latch → List Start
starts_from s [] = []
starts_from s (latch ∷ latches) = record { «module» = s; init = latch.init; name = latch.name } ∷ starts_from (s + 2) latches

-- the outputs have these names and the sources of these terms
pub record AreOutputs (n : Net) (sources : List Source) (outputs : List Output) : Type 0 where
  pub names : map (λ (o : Output). o.name) outputs ≡ n.names
  pub sources_are : map (λ (o : Output). o.source) outputs ≡ map (source_in sources) n.outputs

-- the modules are those of the tiles and, after them, two for each latch
pub record AreModules (n : Net) (covers : List Covered) (tiles : List NodeTile) (places : List (List ℕ)) (sources : List Source) (modules : List (List Source)) : Type 0 where
  pub front : List (List Source)
  pub are_tiles : AreTileModules n.blif.nodes covers places sources tiles (length tiles) front
  pub is : modules ≡ front ++ latch_modules sources (length tiles) n.next

-- the circuit is made of these
pub record IsCircuitOf (n : Net) (covers : List Covered) (tiles : List NodeTile) (places : List (List ℕ)) (sources : List Source) (c : Circuit) : Type 0 where
  pub clock : c.clock ≡ n.blif.clock
  pub inputs : c.inputs ≡ n.blif.inputs
  pub modules : AreModules n covers tiles places sources c.modules
  pub outputs : AreOutputs n sources c.outputs
  pub starts : c.starts ≡ starts_from (slave_at (length tiles) 0) n.blif.latches
