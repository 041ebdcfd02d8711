-- The netlist that a circuit in pair form is extracted to: a latch for each pair, a node for each other module, and for outputs.
use Rattle.std.specs.Prelude.{ℕ, zero, suc, ◌≡◌, ◌<◌, ◌+◌, ◌⊎◌, ◌&&◌, ◌==◌, not, Bool, true, false, if◌then◌else◌, List, [], ◌∷◌, length, map, filter, Some, slice_get, slice_index_or}
use Rattle.std.specs.List.{AllZip}
use Rattle.act1_blif.specs.declared.blif.Blif.{Blif}
use Rattle.act1_blif.specs.declared.blif.Latch.{Latch}
use Rattle.act1_blif.specs.declared.blif.Node.{Node}
use Rattle.act1_blif.specs.Names.{signal_name}
use Rattle.act1_circuit.specs.declared.circuit.Circuit.{Circuit}
use Rattle.act1_circuit.specs.declared.circuit.Output.{Output}
use Rattle.act1_circuit.specs.declared.circuit.Start.{Start}
use Rattle.act1_circuit.specs.declared.circuit.Source.{Source}
use Rattle.act1_circuit.specs.declared.circuit.Source.TheVariants.{Zero, One, Clock, Input, Module}
use Rattle.act1_logic.specs.Module.{module_of}
use Rattle.act1_logic.specs.OnSets.{IsOnSet}
use Rattle.act1_circuit.specs.PairForm.{Edge, pins_of, pin_of, is_clock, has_clock, IsPair, start_module}

-- two sources are the same
abbrev pub is_same : Source → Source → Bool
is_same Zero t = is_zero t
  where
    is_zero : Source → Bool
    is_zero Zero = true
    is_zero One = false
    is_zero Clock = false
    is_zero (Input i) = false
    is_zero (Module m) = false
is_same One t = is_one t
  where
    is_one : Source → Bool
    is_one Zero = false
    is_one One = true
    is_one Clock = false
    is_one (Input i) = false
    is_one (Module m) = false
is_same Clock t = is_the_clock t
  where
    is_the_clock : Source → Bool
    is_the_clock Zero = false
    is_the_clock One = false
    is_the_clock Clock = true
    is_the_clock (Input i) = false
    is_the_clock (Module m) = false
is_same (Input i) t = is_input t
  where
    is_input : Source → Bool
    is_input Zero = false
    is_input One = false
    is_input Clock = false
    is_input (Input j) = i == j
    is_input (Module m) = false
is_same (Module m) t = is_module t
  where
    is_module : Source → Bool
    is_module Zero = false
    is_module One = false
    is_module Clock = false
    is_module (Input j) = false
    is_module (Module k) = m == k

-- the source is a constant
abbrev pub is_constant : Source → Bool
is_constant Zero = true
is_constant One = true
is_constant Clock = false
is_constant (Input i) = false
is_constant (Module m) = false

-- the different sources of a list that aren't constants, in the order in which they first stand there
abbrev pub different : List Source → List Source
different [] = []
different (s ∷ ss) = if is_constant s then different ss else s ∷ filter (λ t. not (is_same s t)) (different ss)

-- the value that stands beside a source
abbrev pub lookup : List Source → List Bool → Source → Bool
lookup [] ys s = false
lookup (t ∷ ss) [] s = false
lookup (t ∷ ss) (y ∷ ys) s = if is_same t s then y else lookup ss ys s

-- the value of a source where these sources have these values
abbrev pub value_in : List Source → List Bool → Source → Bool
value_in ss ys Zero = false
value_in ss ys One = true
value_in ss ys Clock = lookup ss ys Clock
value_in ss ys (Input i) = lookup ss ys (Input i)
value_in ss ys (Module m) = lookup ss ys (Module m)

-- what a module gives where its different sources have these values
abbrev pub module_in : List Source → List Bool → Bool
module_in pins ys = module_of (λ pin. value_in (different pins) ys (slice_index_or pins pin Zero))

-- how many numbers below n pass the test
abbrev pub count_below : (ℕ → Bool) → ℕ → ℕ
count_below test zero = 0
count_below test (suc n) = (if test n then 1 else 0) + count_below test n

-- the module is outside pairs
abbrev pub is_outside : Circuit → ℕ → Bool
is_outside c m = not (has_clock c m)

-- a module of a pair is the slave: the clock is at S0, and it has its own output at A0
abbrev pub is_slave : Circuit → ℕ → Bool
is_slave c m = is_clock (pin_of c m 6) && is_same (pin_of c m 0) (Module m)

-- a pair takes this source
abbrev pub Takes : Circuit → Source → Type 0
Takes c source = (edge : Edge) × (m : ℕ) × (s : ℕ) × IsPair c edge source m s

-- the number of the first signal that is a node
abbrev pub first_node : Circuit → ℕ
first_node c = length c.inputs + count_below (is_slave c) (length c.modules)

-- the signal of a source that is an input or a module: that of its latch for a slave, that of its node for a module outside pairs
abbrev pub signal_of : Circuit → Source → ℕ
signal_of c (Input i) = i
signal_of c (Module m) = if has_clock c m then length c.inputs + count_below (is_slave c) m else first_node c + count_below (is_outside c) m
signal_of c Zero = 0
signal_of c One = 0
signal_of c Clock = 0

-- the node of this number has these inputs, and this function of them
pub record IsNodeAt (b : Blif) (j : ℕ) (inputs : List ℕ) (f : List Bool → Bool) : Type 0 where
  pub node : Node
  pub there : slice_get b.nodes j ≡ Some node
  pub inputs_are : node.inputs ≡ inputs
  pub function : IsOnSet (length inputs) f node.cover

-- a signal with the value of a source: the source's own signal, or, for a constant, a node without inputs
abbrev pub IsSignalOf : Circuit → Blif → Source → ℕ → Type 0
IsSignalOf c b Zero s = (j : ℕ) × (s ≡ first_node c + j) × IsNodeAt b j [] (λ ys. false)
IsSignalOf c b One s = (j : ℕ) × (s ≡ first_node c + j) × IsNodeAt b j [] (λ ys. true)
IsSignalOf c b Clock s = ⊥
IsSignalOf c b (Input i) s = s ≡ signal_of c (Input i)
IsSignalOf c b (Module m) s = s ≡ signal_of c (Module m)

-- the first bit
abbrev pub first_bit : List Bool → Bool
first_bit [] = false
first_bit (y ∷ ys) = y

-- a signal of an output: one with the value of its source, or a node that is a copy of one
abbrev pub IsOutputSignal : Circuit → Blif → Source → ℕ → Type 0
IsOutputSignal c b source s = IsSignalOf c b source s ⊎ ((j : ℕ) × (t : ℕ) × (s ≡ first_node c + j) × IsNodeAt b j (t ∷ []) first_bit × IsSignalOf c b source t)

-- the latch of a pair has its start's name and init, and takes the source
pub record IsArrayLatch (c : Circuit) (b : Blif) (source : Source) (latch : Latch) (start : Start) : Type 0 where
  pub name : latch.name ≡ start.name
  pub init : latch.init ≡ start.init
  pub takes : IsSignalOf c b source latch.input

-- what the netlist computes is what the circuit does: the values of each part, without the names of nodes
pub record IsArrayNet (c : Circuit) (b : Blif) : Type 0 where
  pub clock : c.clock ≡ b.clock
  pub inputs : c.inputs ≡ b.inputs
  pub latch_count : length b.latches ≡ count_below (is_slave c) (length c.modules)
  pub latches : (edge : Edge) (takes : Source) (m s j : ℕ) (start : Start) → IsPair c edge takes m s → slice_get c.starts j ≡ Some start → start.module ≡ start_module edge m s
      → (latch : Latch) × (slice_get b.latches (count_below (is_slave c) s) ≡ Some latch) × IsArrayLatch c b takes latch start
  pub nodes : (m : ℕ) → m < length c.modules → has_clock c m ≡ false
      → IsNodeAt b (count_below (is_outside c) m) (map (signal_of c) (different (pins_of c m))) (module_in (pins_of c m))
  pub output_names : map (λ (o : Output). o.name) c.outputs ≡ map (signal_name b) b.outputs
  pub outputs : AllZip (λ (o : Output) (s : ℕ). IsOutputSignal c b o.source s) c.outputs b.outputs
