-- What of a circuit is extracted, and its netlist as the code puts it together.
use Rattle.std.specs.Prelude.{ℕ, ◌≡◌, ◌≢◌, ◌≤◌, ◌<◌, ◌+◌, IsTrue, true, false, List, ◌++◌, length, map, All, AllPairs, IfSome}
use Rattle.act1_base.specs.Names.{is_name}
use Rattle.act1_base.specs.Rising.{Rises}
use Rattle.act1_blif.specs.declared.blif.Blif.{Blif}
use Rattle.act1_blif.specs.declared.blif.Node.{Node}
use Rattle.act1_circuit.specs.declared.circuit.Circuit.{Circuit}
use Rattle.act1_circuit.specs.declared.circuit.Output.{Output}
use Rattle.act1_circuit.specs.declared.circuit.Placed.{Placed}
use Rattle.act1_circuit.specs.declared.circuit.Start.{Start}
use Rattle.act1_circuit.specs.PairForm.{IsPairForm}
use Rattle.act1_circuit.specs.Range.{InRange}
use Rattle.act1_fuses.specs.Rules.{IsApart}
use Rattle.act1_meaning.specs.ArrayNames.{HasArrayNames, IsClash}
use Rattle.act1_meaning.specs.Extracted.{IsArrayNet, is_outside}
use Rattle.act1_extract.specs.declared.plan.Layout.{Layout}
use Rattle.act1_extract.specs.Picked.{AddsConstant, ArePicked, has_node, IsModuleNode, IsOutputNode}

-- the names of outputs, and of latches
abbrev pub output_names : Circuit → List (List ℕ)
output_names c = map (λ (o : Output). o.name) c.outputs

abbrev pub start_names : Circuit → List (List ℕ)
start_names c = map (λ (s : Start). s.name) c.starts

-- the names of an array's circuit, by the rules of its file
pub record HasFineNames (c : Circuit) : Type 0 where
  pub names : All (λ name. IsTrue (is_name name)) (c.inputs ++ output_names c ++ start_names c)
  pub inputs : AllPairs (λ (a b : List ℕ). a ≢ b) (c.inputs ++ start_names c)
  pub outputs : AllPairs (λ (a b : List ℕ). a ≢ b) (output_names c)
  pub clock : IsApart c.clock (c.inputs ++ output_names c ++ start_names c)

-- what the circuit of an array whose file keeps the rules has
pub record HasRules (c : Circuit) : Type 0 where
  pub range : InRange c
  pub names : HasFineNames c
  pub inits : All (λ (s : Start). s.init ≤ 3) c.starts
  pub rise : Rises (λ (s t : Start). s.module < t.module) c.starts
  pub ports : length c.inputs + length c.outputs ≤ 2112
  pub modules : length c.modules ≤ 2048

-- such a circuit, with a spot for each module
pub record IsArrayCircuit (p : Placed) : Type 0 where
  pub rules : HasRules p.circuit
  pub spots : length p.circuit.modules ≡ length p.spots

abbrev pub IsFormed : Placed → Type 0
IsFormed p = IsPairForm p.circuit

-- such a circuit in pair form and without a clash
pub record IsExtractable (c : Circuit) : Type 0 where
  pub rules : HasRules c
  pub form : IsPairForm c
  pub clear : (i : ℕ) → IsClash c i → ⊥

-- nodes of modules, of constants and of outputs
pub record AreNodes (c : Circuit) (l : Layout) (names : List (List ℕ)) (nodes : List Node) : Type 0 where
  pub first : List Node
  pub with_zero : List Node
  pub with_one : List Node
  pub last : List Node
  pub modules : ArePicked (is_outside c) (length c.modules) (IsModuleNode c l.signals names) first
  pub adds_zero : AddsConstant l.has_zero false names first with_zero
  pub adds_one : AddsConstant l.has_one true names with_zero with_one
  pub outputs : ArePicked (has_node c) (length c.outputs) (IsOutputNode c l.signals) last
  pub all : nodes ≡ with_one ++ last

-- the netlist is the one that the circuit is extracted to
abbrev pub IsNetOf : Circuit → Blif → Type 0
IsNetOf c b = IsArrayNet c b × HasArrayNames c b
