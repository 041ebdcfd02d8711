-- The names and places in the netlist that a circuit is extracted to, and the outputs whose names clash.
use Rattle.std.specs.Prelude.{ℕ, ◌≡◌, ◌<◌, ◌+◌, ◌⊎◌, ◌↔◌, ◌&&◌, ◌==◌, not, if◌then◌else◌, Bool, true, false, List, [], ◌∷◌, ◌++◌, length, map, Some, Contains, codes, slice_get, slice_index_or, option_to_list, take}
use Rattle.std.specs.List.{list_any}
use Rattle.std.specs.Fmt.{decimal}
use Rattle.std.specs.Str.{bytes_eq}
use Rattle.act1_circuit.specs.declared.circuit.Circuit.{Circuit}
use Rattle.act1_circuit.specs.declared.circuit.Output.{Output}
use Rattle.act1_circuit.specs.declared.circuit.Start.{Start}
use Rattle.act1_circuit.specs.declared.circuit.Source.{Source}
use Rattle.act1_circuit.specs.declared.circuit.Source.TheVariants.{Zero, One, Clock, Input, Module}
use Rattle.act1_circuit.specs.PairForm.{Edge, has_clock, IsPair}
use Rattle.act1_blif.specs.declared.blif.Blif.{Blif}
use Rattle.act1_blif.specs.declared.blif.Latch.{Latch}
use Rattle.act1_blif.specs.declared.blif.Node.{Node}
use Rattle.act1_meaning.specs.Extracted.{count_below, is_outside, is_slave, signal_of, Takes, IsNodeAt, first_bit, first_node}

-- the names of the circuit's clock, inputs, outputs and starts
abbrev pub taken_names : Circuit → List (List ℕ)
taken_names c = option_to_list c.clock ++ c.inputs ++ map (λ (o : Output). o.name) c.outputs ++ map (λ (s : Start). s.name) c.starts

-- `m` and a number
abbrev pub module_name : ℕ → List ℕ
module_name k = codes "m" ++ decimal k

abbrev pub is_free : Circuit → ℕ → Bool
is_free c k = not (list_any (bytes_eq (module_name k)) (taken_names c))

-- the j-th of the names `m` with a number that isn't taken
pub record IsFreeName (c : Circuit) (j : ℕ) (name : List ℕ) : Type 0 where
  pub number : ℕ
  pub free : is_free c number ≡ true
  pub before : count_below (is_free c) number ≡ j
  pub is : name ≡ module_name number

-- the constant source of a value
abbrev pub constant_source : Bool → Source
constant_source false = Zero
constant_source true = One

-- the source is an input or a start of this name
abbrev pub has_name : Circuit → List ℕ → Source → Bool
has_name c name Zero = false
has_name c name One = false
has_name c name Clock = false
has_name c name (Input i) = bytes_eq (slice_index_or c.inputs i []) name
has_name c name (Module m) = list_any (λ (s : Start). s.module == m && bytes_eq s.name name) c.starts

-- the output's source has the output's name, so the output has no node. The nodes of modules have none of its names
abbrev pub is_own_signal : Circuit → Output → Bool
is_own_signal c o = has_name c o.name o.source

-- how many of some outputs have a node
abbrev pub output_nodes : Circuit → List Output → ℕ
output_nodes c [] = 0
output_nodes c (o ∷ os) = (if is_own_signal c o then 0 else 1) + output_nodes c os

-- the node of an output: a copy of its source's signal, or the constant
abbrev pub IsOutputNode : Circuit → Blif → ℕ → Source → Type 0
IsOutputNode c b j Zero = IsNodeAt b j [] (λ ys. false)
IsOutputNode c b j One = IsNodeAt b j [] (λ ys. true)
IsOutputNode c b j Clock = ⊥
IsOutputNode c b j (Input i) = IsNodeAt b j (signal_of c (Input i) ∷ []) first_bit
IsOutputNode c b j (Module m) = IsNodeAt b j (signal_of c (Module m) ∷ []) first_bit

-- the number of modules outside pairs
abbrev pub outside_count : Circuit → ℕ
outside_count c = count_below (is_outside c) (length c.modules)

-- the places and names of nodes: modules in their order, then the constants that latches take, zero before one, then the outputs that have a node
pub record HasArrayNames (c : Circuit) (b : Blif) : Type 0 where
  pub model : b.model ≡ codes "array"
  pub constants : List Bool
  pub in_order : (constants ≡ []) ⊎ (constants ≡ false ∷ []) ⊎ (constants ≡ true ∷ []) ⊎ (constants ≡ false ∷ true ∷ [])
  pub taken : (v : Bool) → Contains constants v ↔ Takes c (constant_source v)
  pub modules : (m : ℕ) (node : Node) → m < length c.modules → has_clock c m ≡ false → slice_get b.nodes (count_below (is_outside c) m) ≡ Some node → IsFreeName c (count_below (is_outside c) m) node.name
  pub constant_nodes : (i : ℕ) (v : Bool) → slice_get constants i ≡ Some v → IsNodeAt b (outside_count c + i) [] (λ ys. v)
  pub constant_names : (i : ℕ) (node : Node) → i < length constants → slice_get b.nodes (outside_count c + i) ≡ Some node → IsFreeName c (outside_count c + i) node.name
  -- a latch that takes a constant has the constant's own node
  pub constant_latches : (edge : Edge) (v : Bool) (m s i : ℕ) (latch : Latch) → IsPair c edge (constant_source v) m s → slice_get constants i ≡ Some v
      → slice_get b.latches (count_below (is_slave c) s) ≡ Some latch → latch.input ≡ first_node c + outside_count c + i
  pub outputs : (i : ℕ) (o : Output) → slice_get c.outputs i ≡ Some o → is_own_signal c o ≡ false
      → IsOutputNode c b (outside_count c + length constants + output_nodes c (take i c.outputs)) o.source
  pub output_names : (i : ℕ) (o : Output) (node : Node) → slice_get c.outputs i ≡ Some o → is_own_signal c o ≡ false
      → slice_get b.nodes (outside_count c + length constants + output_nodes c (take i c.outputs)) ≡ Some node → node.name ≡ o.name
  pub count : length b.nodes ≡ outside_count c + length constants + output_nodes c c.outputs

-- an output that has the name of an input or a start but another source
pub record IsClash (c : Circuit) (i : ℕ) : Type 0 where
  pub output : Output
  pub there : slice_get c.outputs i ≡ Some output
  pub named : Contains (c.inputs ++ map (λ (s : Start). s.name) c.starts) output.name
  pub other : is_own_signal c output ≡ false

-- the first such output
pub record IsFirstClash (c : Circuit) (i : ℕ) : Type 0 where
  pub clash : IsClash c i
  pub first : (j : ℕ) → j < i → IsClash c j → ⊥
