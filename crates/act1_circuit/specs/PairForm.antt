-- Latches that are made of two modules, a master and a slave, and circuits whose clock enters nothing else.
use Rattle.std.specs.Prelude.{ℕ, ◌≡◌, ◌≢◌, ◌<◌, ◌⊎◌, Bool, true, false, if◌then◌else◌, List, [], ◌∷◌, length, map, Option, Some, None, All, slice_get, slice_index_or}
use Rattle.std.specs.List.{filter_map, list_any}
use Rattle.act1_circuit.specs.declared.circuit.Circuit.{Circuit}
use Rattle.act1_circuit.specs.declared.circuit.Output.{Output}
use Rattle.act1_circuit.specs.declared.circuit.Start.{Start}
use Rattle.act1_circuit.specs.declared.circuit.Source.{Source}
use Rattle.act1_circuit.specs.declared.circuit.Source.TheVariants.{Zero, One, Clock, Input, Module}
use Rattle.act1_order.specs.Order.{OnRing}

-- the edge of the clock at which a latch takes its input. Only rising ones are made so far
pub data Edge : Type 0 where
  rising : Edge

-- the sources of a module's pins, and that of one pin
abbrev pub pins_of : Circuit → ℕ → List Source
pins_of c m = slice_index_or c.modules m []

abbrev pub pin_of : Circuit → ℕ → ℕ → Source
pin_of c m pin = slice_index_or (pins_of c m) pin Zero

-- the source is the clock
abbrev pub is_clock : Source → Bool
is_clock Zero = false
is_clock One = false
is_clock Clock = true
is_clock (Input i) = false
is_clock (Module m) = false

-- the clock is on a pin of the module
abbrev pub has_clock : Circuit → ℕ → Bool
has_clock c m = list_any is_clock (pins_of c m)

-- the pins of a master, whose latch takes this source, in the order A0, A1, SA, B0, B1, SB, S0, S1: while the clock is 0 it follows the source at A0, and while it is 1 it holds its own bit by B0
abbrev pub master_pins : Edge → Source → ℕ → List Source
master_pins rising takes m = takes ∷ Zero ∷ Zero ∷ Module m ∷ Zero ∷ Zero ∷ Clock ∷ Zero ∷ []

-- the pins of a slave: while the clock is 0 it holds its own bit by A0, and while it is 1 it follows its master at B0
abbrev pub slave_pins : Edge → ℕ → ℕ → List Source
slave_pins rising m s = Module s ∷ Zero ∷ Zero ∷ Module m ∷ Zero ∷ Zero ∷ Clock ∷ Zero ∷ []

-- m and s are the master and the slave of a latch that takes this source. Nothing else has the master as its source
pub record IsPair (c : Circuit) (edge : Edge) (takes : Source) (m s : ℕ) : Type 0 where
  pub apart : m ≢ s
  pub no_clock : takes ≢ Clock
  pub no_own : takes ≢ Module m
  pub master : slice_get c.modules m ≡ Some (master_pins edge takes m)
  pub slave : slice_get c.modules s ≡ Some (slave_pins edge m s)
  pub pins : (k pin : ℕ) → pin_of c k pin ≡ Module m → (k ≡ m) ⊎ (k ≡ s)
  pub outputs : All (λ (o : Output). o.source ≢ Module m) c.outputs

-- the module is the master or the slave of a pair
pub record InPair (c : Circuit) (m : ℕ) : Type 0 where
  pub edge : Edge
  pub takes : Source
  pub other : ℕ
  pub is : IsPair c edge takes m other ⊎ IsPair c edge takes other m

-- the module of a source, if it is one without the clock on a pin
abbrev pub outside_module : Circuit → Source → Option ℕ
outside_module c Zero = None
outside_module c One = None
outside_module c Clock = None
outside_module c (Input i) = None
outside_module c (Module m) = if has_clock c m then None else Some m

-- for pins without the clock the modules without the clock that they have as their sources
abbrev pub outside_reads_of : Circuit → List Source → List ℕ
outside_reads_of c pins = if list_any is_clock pins then [] else filter_map (outside_module c) pins

-- for each module without the clock on a pin, those such modules that it reads. In pair form these are the modules outside pairs
abbrev pub outside_reads : Circuit → List (List ℕ)
outside_reads c = map (outside_reads_of c) c.modules

-- where the start of a pair stands
abbrev pub start_module : Edge → ℕ → ℕ → ℕ
start_module rising m s = s

-- the start of a pair stands at the module
pub record IsStartModule (c : Circuit) (k : ℕ) : Type 0 where
  pub edge : Edge
  pub takes : Source
  pub master : ℕ
  pub slave : ℕ
  pub pair : IsPair c edge takes master slave
  pub here : start_module edge master slave ≡ k

-- the circuit has a start at the module
abbrev pub HasStart : Circuit → ℕ → Type 0
HasStart c k = (j : ℕ) × (start : Start) × (slice_get c.starts j ≡ Some start) × (start.module ≡ k)

-- the clock enters pairs alone, no output is the clock, no module outside pairs depends on itself through such modules, and the starts are those of the pairs
pub record IsPairForm (c : Circuit) : Type 0 where
  pub clocked : (m : ℕ) → m < length c.modules → has_clock c m ≡ true → InPair c m
  pub outputs : All (λ (o : Output). o.source ≢ Clock) c.outputs
  pub rings : (m : ℕ) → OnRing (outside_reads c) m → ⊥
  pub starts : (k : ℕ) → IsStartModule c k → HasStart c k
  pub pairs : (j : ℕ) (start : Start) → slice_get c.starts j ≡ Some start → IsStartModule c start.module
