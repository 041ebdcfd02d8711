-- Lists with one element for each number that passes a test, in the order of the numbers.
use Rattle.std.specs.Prelude.{ℕ, ◌≡◌, ◌<◌, ◌+◌, if◌then◌else◌, Bool, not, true, false, List, [], ◌∷◌, ◌++◌, length, map, Some, slice_get, slice_index_or}
use Rattle.act1_logic.specs.OnSets.{IsOnSet}
use Rattle.act1_blif.specs.declared.blif.Node.{Node}
use Rattle.act1_circuit.specs.declared.circuit.Circuit.{Circuit}
use Rattle.act1_circuit.specs.declared.circuit.Output.{Output}
use Rattle.act1_circuit.specs.declared.circuit.Source.{Source}
use Rattle.act1_circuit.specs.declared.circuit.Source.TheVariants.{Zero, One, Clock, Input, Module}
use Rattle.act1_circuit.specs.PairForm.{has_clock, pins_of}
use Rattle.act1_meaning.specs.Extracted.{count_below, different, first_bit, is_outside, module_in}
use Rattle.act1_meaning.specs.ArrayNames.{is_own_signal}
use Rattle.act1_extract.specs.declared.plan.Layout.{Layout}
use Rattle.act1_extract.specs.Layout.{found_signal}
use Rattle.act1_extract.specs.Parts.{constant_of}

-- there is one element for each number below n that passes the test, at the place of that number among these
pub record ArePicked {X : Type 0} (test : ℕ → Bool) (n : ℕ) (Fits : ℕ → X → Type 0) (xs : List X) : Type 0 where
  pub count : length xs ≡ count_below test n
  pub each : (m : ℕ) → m < n → test m ≡ true → (x : X) × (slice_get xs (count_below test m) ≡ Some x) × Fits m x

-- the node has this name, these inputs and this function
pub record IsNode (name : List ℕ) (inputs : List ℕ) (f : List Bool → Bool) (node : Node) : Type 0 where
  pub named : node.name ≡ name
  pub inputs_are : node.inputs ≡ inputs
  pub function : IsOnSet (length inputs) f node.cover
  pub width : node.cover.width ≡ length inputs

-- the node of a module outside pairs
abbrev pub IsModuleNode : Circuit → List ℕ → List (List ℕ) → ℕ → Node → Type 0
IsModuleNode c signals names m node = IsNode (slice_index_or names (count_below (is_outside c) m) []) (map (found_signal signals) (different (pins_of c m))) (module_in (pins_of c m)) node

-- no output
abbrev pub no_output : Output
no_output = record { name = []; source = Zero }

-- the output has a node of its own
abbrev pub has_node : Circuit → ℕ → Bool
has_node c i = not (is_own_signal c (slice_index_or c.outputs i no_output))

-- the node of an output with this source
abbrev pub IsOutNode : List ℕ → List ℕ → Source → Node → Type 0
IsOutNode signals name Zero node = IsNode name [] (constant_of false) node
IsOutNode signals name One node = IsNode name [] (constant_of true) node
IsOutNode signals name Clock node = Unit {0}
IsOutNode signals name (Input i) node = IsNode name (found_signal signals (Input i) ∷ []) first_bit node
IsOutNode signals name (Module m) node = IsNode name (found_signal signals (Module m) ∷ []) first_bit node

abbrev pub IsOutputNode : Circuit → List ℕ → ℕ → Node → Type 0
IsOutputNode c signals i node = IsOutNode signals (slice_index_or c.outputs i no_output).name (slice_index_or c.outputs i no_output).source node

-- a constant's node is added if it is asked for
abbrev pub AddsConstant : Bool → Bool → List (List ℕ) → List Node → List Node → Type 0
AddsConstant is_taken value names before after = (is_taken ≡ false → after ≡ before)
    × (is_taken ≡ true → (node : Node) × (after ≡ before ++ node ∷ []) × IsNode (slice_index_or names (length before) []) [] (constant_of value) node)

-- the signals of some outputs, where the next node of an output has this signal
abbrev pub output_signals : Circuit → List ℕ → ℕ → List Output → List ℕ
output_signals c signals next [] = []
output_signals c signals next (o ∷ os) = if is_own_signal c o then found_signal signals o.source ∷ output_signals c signals next os else next ∷ output_signals c signals (next + 1) os

-- the node of a module outside pairs is added, and nothing for another
abbrev pub AddsModule : Circuit → List ℕ → List (List ℕ) → ℕ → List Node → List Node → Type 0
AddsModule c signals names m before after = (has_clock c m ≡ true → after ≡ before)
    × (has_clock c m ≡ false → (node : Node) × (after ≡ before ++ node ∷ []) × IsNode (slice_index_or names (length before) []) (map (found_signal signals) (different (pins_of c m))) (module_in (pins_of c m)) node)

-- the node of an output is added, if it has one
abbrev pub AddsOutput : Circuit → List ℕ → Output → List Node → List Node → Type 0
AddsOutput c signals o before after = (is_own_signal c o ≡ true → after ≡ before)
    × (is_own_signal c o ≡ false → (node : Node) × (after ≡ before ++ node ∷ []) × IsOutNode signals o.name o.source node)
