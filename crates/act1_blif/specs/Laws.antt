-- The laws of netlists.
use Rattle.std.specs.Prelude.{ℕ, ◌≡◌, ◌<◌, ◌≤◌, ◌+◌, Bool, true, List, [], Some, Contains, length, slice_get, slice_index_or}
use Rattle.act1_base.specs.Names.{is_name}
use Rattle.act1_blif.specs.declared.blif.Blif.{Blif}
use Rattle.act1_blif.specs.declared.blif.Latch.{Latch}
use Rattle.act1_blif.specs.declared.blif.Node.{Node}
use Rattle.act1_blif.specs.Graph.{first_node, reads_of, signal_count}
use Rattle.act1_blif.specs.Rules.{are_names, names_of, with_clock}
use Rattle.act1_blif.specs.Run.{Fits, node_value, signal}

-- some valuation fits, and no other does
pub record HasOneValuation (net : Blif) (q x : List Bool) : Type 0 where
  pub valuation : List Bool
  pub fits : Fits net q x valuation
  pub only : (v : List Bool) → Fits net q x v → v ≡ valuation

-- a netlist has one valuation at each of its states and each of its inputs
abbrev pub EachHasOneValuation : Type 0
EachHasOneValuation = (net : Blif) (q x : List Bool) → length q ≡ length net.latches → length x ≡ length net.inputs → HasOneValuation net q x

-- a valuation has the inputs first, then the latch outputs, and then what each node gives
pub record HasSignals (net : Blif) (q x v : List Bool) : Type 0 where
  pub inputs : (i : ℕ) → i < length net.inputs → signal v i ≡ signal x i
  pub latches : (k : ℕ) → k < length net.latches → signal v (length net.inputs + k) ≡ signal q k
  pub nodes : (j : ℕ) (node : Node) → slice_get net.nodes j ≡ Some node → signal v (length net.inputs + length net.latches + j) ≡ node_value v node

-- so has each that fits
abbrev pub EachHasSignals : Type 0
EachHasSignals = (net : Blif) (q x v : List Bool) → Fits net q x v → HasSignals net q x v

-- no two latches of a netlist have one name
abbrev pub LatchNamesDiffer : Type 0
LatchNamesDiffer = (net : Blif) (j k : ℕ) (l m : Latch) → slice_get net.latches j ≡ Some l → slice_get net.latches k ≡ Some m → l.name ≡ m.name → j ≡ k

-- a netlist has as many inputs and outputs as 16 bits can tell apart
abbrev pub PortsAreFew : Type 0
PortsAreFew = (net : Blif) → (length net.inputs ≤ 65535) × (length net.outputs ≤ 65535)

-- there are few signals, their names differ from each other and from the clock's, all that is read is one of them, and what a signal reads at once are the inputs of its node
pub record IsWhole (net : Blif) : Type 0 where
  pub few : signal_count net ≤ 65535
  pub model : is_name net.model ≡ true
  pub names : are_names (with_clock net.clock (names_of net.inputs net.latches net.nodes)) ≡ true
  pub inits : (k : ℕ) (latch : Latch) → slice_get net.latches k ≡ Some latch → latch.init ≤ 3
  pub outputs : (k s : ℕ) → slice_get net.outputs k ≡ Some s → s < signal_count net
  pub latches : (k : ℕ) (latch : Latch) → slice_get net.latches k ≡ Some latch → latch.input < signal_count net
  pub nodes : (j s : ℕ) (node : Node) → slice_get net.nodes j ≡ Some node → Contains node.inputs s → s < signal_count net
  pub widths : (j : ℕ) (node : Node) → slice_get net.nodes j ≡ Some node → node.cover.width ≡ length node.inputs
  pub reads : (j : ℕ) (node : Node) → slice_get net.nodes j ≡ Some node → slice_index_or (reads_of net) (first_node net + j) [] ≡ node.inputs
  pub all : length (reads_of net) ≡ signal_count net

-- each netlist is so
abbrev pub EachIsWhole : Type 0
EachIsWhole = (net : Blif) → IsWhole net
