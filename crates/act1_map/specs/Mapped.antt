-- A circuit that is mapped from a net: a module for each tile of the nodes that are read, and two for each latch.
use Rattle.std.specs.Prelude.{ℕ, ◌≡◌, ◌<◌, ◌+◌, Bool, true, false, List, length, map, Some, Contains, slice_get, slice_index_or}
use Rattle.std.specs.List.{AllZip}
use Rattle.act1_blif.specs.declared.blif.Latch.{Latch}
use Rattle.act1_blif.specs.declared.blif.Node.{Node}
use Rattle.act1_blif.specs.Graph.{first_node, signal_count}
use Rattle.act1_circuit.specs.declared.circuit.Circuit.{Circuit}
use Rattle.act1_circuit.specs.declared.circuit.Output.{Output}
use Rattle.act1_circuit.specs.declared.circuit.Start.{Start}
use Rattle.act1_circuit.specs.declared.circuit.Source.{Source}
use Rattle.act1_circuit.specs.declared.circuit.Source.TheVariants.{Zero, One, Input, Module}
use Rattle.act1_circuit.specs.PairForm.{rising, master_pins, slave_pins, HasStart}
use Rattle.act1_cover.specs.declared.forest.Forest.{Forest}
use Rattle.act1_cover.specs.declared.forest.Term.{Term}
use Rattle.act1_cover.specs.declared.forest.Term.TheVariants as term
use Rattle.act1_cover.specs.declared.tile.Tile.{Tile}
use Rattle.act1_cover.specs.Denotes.{IsForestOfCover}
use Rattle.act1_cover.specs.Pins.{pins_of}
use Rattle.act1_cover.specs.Tilings.{MayStand}
use Rattle.act1_meaning.specs.Meaning.{StartsLatch}
use Rattle.act1_net.specs.declared.net.Net.{Net}
use Rattle.act1_net.specs.declared.net.NetTerm.{NetTerm}
use Rattle.act1_net.specs.declared.net.NetTerm.TheVariants as net

-- what a module is: a tile of a node's forest, or the master or the slave of a latch
pub data Role : Type 0 where
  tile : ℕ → Tile → Role
  «master» : ℕ → Role
  «slave» : ℕ → Role

-- the tables of a mapping: for each signal its source and whether it has one, what each module is, the forest of each node with its tiles, and the module of the tile at a node's fork
pub record Tables : Type 0 where
  pub sources : List Source
  pub live : List Bool
  pub roles : List Role
  pub forests : List Forest
  pub tiles : List (List Tile)
  pub place : ℕ → ℕ → ℕ

-- the signal has a source, and which one
abbrev pub is_live : Tables → ℕ → Bool
is_live t s = slice_index_or t.live s false

abbrev pub signal_source : Tables → ℕ → Source
signal_source t s = slice_index_or t.sources s Zero

-- the signal of an input of a node
abbrev pub input_of : Node → ℕ → ℕ
input_of node v = slice_index_or node.inputs v 0

-- the source of a term of a node's forest, and whether it is there
abbrev pub term_source : Tables → ℕ → Node → Term → Source
term_source t i node term.Zero = Zero
term_source t i node term.One = One
term_source t i node (term.Var v) = signal_source t (input_of node v)
term_source t i node (term.Fork k) = Module (t.place i k)

abbrev pub HasTerm : Tables → ℕ → Node → Term → Type 0
HasTerm t i node term.Zero = Unit {0}
HasTerm t i node term.One = Unit {0}
HasTerm t i node (term.Var v) = (v < length node.inputs) × (is_live t (input_of node v) ≡ true)
HasTerm t i node (term.Fork k) = (u : Tile) × (u.fork ≡ k) × (slice_get t.roles (t.place i k) ≡ Some (tile i u))

-- the source of a term of the net, and whether it is there
abbrev pub net_source : Tables → NetTerm → Source
net_source t net.Zero = Zero
net_source t net.One = One
net_source t (net.Signal s) = signal_source t s

abbrev pub HasNetTerm : Tables → NetTerm → Type 0
HasNetTerm t net.Zero = Unit {0}
HasNetTerm t net.One = Unit {0}
HasNetTerm t (net.Signal s) = is_live t s ≡ true

-- the module m is that tile of that node: it has the tile's pins, and all that it reads is there
pub record IsTileModule (n : Net) (c : Circuit) (t : Tables) (m i : ℕ) (u : Tile) : Type 0 where
  pub node : Node
  pub forest : Forest
  pub node_is : slice_get n.blif.nodes i ≡ Some node
  pub forest_is : slice_get t.forests i ≡ Some forest
  pub stands : MayStand forest u.fork u.shape
  pub pins : slice_get c.modules m ≡ Some (map (term_source t i node) (pins_of forest u))
  pub reads : (e : Term) → Contains (pins_of forest u) e → HasTerm t i node e

-- the source of a node is that of its forest's root
pub record IsLiveNode (n : Net) (t : Tables) (i : ℕ) (node : Node) : Type 0 where
  pub forest : Forest
  pub forest_is : slice_get t.forests i ≡ Some forest
  pub source : signal_source t (first_node n.blif + i) ≡ term_source t i node forest.root
  pub root : HasTerm t i node forest.root

-- an output has the source of its term
pub record IsMappedOutput (t : Tables) (o : Output) (x : NetTerm) : Type 0 where
  pub source : o.source ≡ net_source t x
  pub has : HasNetTerm t x

-- the module m is the master of the j-th latch, which takes the source of the latch's term
pub record IsMasterModule (n : Net) (c : Circuit) (t : Tables) (m j : ℕ) : Type 0 where
  pub takes : NetTerm
  pub takes_is : slice_get n.next j ≡ Some takes
  pub pins : slice_get c.modules m ≡ Some (master_pins rising (net_source t takes) m)
  pub has : HasNetTerm t takes

-- the module s is the slave of the j-th latch, and follows its master
pub record IsSlaveModule (c : Circuit) (t : Tables) (s j : ℕ) : Type 0 where
  pub of : ℕ
  pub of_is : slice_get t.roles of ≡ Some («master» j)
  pub pins : slice_get c.modules s ≡ Some (slave_pins rising of s)

-- the j-th latch has a slave, which is the source of its signal
pub record HasSlave (n : Net) (t : Tables) (j : ℕ) : Type 0 where
  pub at : ℕ
  pub source : signal_source t (length n.blif.inputs + j) ≡ Module at
  pub is : slice_get t.roles at ≡ Some («slave» j)

-- the start is that of some latch, at its slave
pub record IsSlaveStart (n : Net) (t : Tables) (start : Start) : Type 0 where
  pub number : ℕ
  pub of : Latch
  pub at : slice_get t.roles start.module ≡ Some («slave» number)
  pub starts : StartsLatch n.blif start number of

-- the circuit is that of these tables
pub record IsMapped (n : Net) (c : Circuit) (t : Tables) : Type 0 where
  pub count : length t.roles ≡ length c.modules
  pub live_count : length t.live ≡ signal_count n.blif
  -- each node has the forest of its cover
  pub forests : (i : ℕ) (node : Node) → slice_get n.blif.nodes i ≡ Some node → (forest : Forest) × (slice_get t.forests i ≡ Some forest) × IsForestOfCover node.cover forest
  -- the sources of the signals
  pub inputs : (i : ℕ) → i < length n.blif.inputs → signal_source t i ≡ Input i
  pub latches : (j : ℕ) → j < length n.blif.latches → HasSlave n t j
  pub nodes : (i : ℕ) (node : Node) → slice_get n.blif.nodes i ≡ Some node → is_live t (first_node n.blif + i) ≡ true → IsLiveNode n t i node
  -- what each module is, and no two are the same
  pub tiles : (m i : ℕ) (u : Tile) → slice_get t.roles m ≡ Some (tile i u) → IsTileModule n c t m i u
  pub masters : (m j : ℕ) → slice_get t.roles m ≡ Some («master» j) → IsMasterModule n c t m j
  pub slaves : (s j : ℕ) → slice_get t.roles s ≡ Some («slave» j) → IsSlaveModule c t s j
  pub once : (m k : ℕ) (r : Role) → slice_get t.roles m ≡ Some r → slice_get t.roles k ≡ Some r → m ≡ k
  -- the outputs, and a start for each slave
  pub outputs : AllZip (IsMappedOutput t) c.outputs n.outputs
  pub each_start : (s j : ℕ) → slice_get t.roles s ≡ Some («slave» j) → HasStart c s
  pub starts : (j : ℕ) (start : Start) → slice_get c.starts j ≡ Some start → IsSlaveStart n t start
