-- What is known in the middle of finding the pair form of a circuit.
use Rattle.std.specs.Prelude.{ℕ, zero, suc, ◌≡◌, ◌≢◌, ◌<◌, ◌+◌, ◌==◌, ◌↔◌, ◌⊎◌, if◌then◌else◌, Bool, false, List, length, Option, Some, None, Result, Ok, Err, IsTrue, nat_lt, slice_get, slice_index_or, slice_set}
use Rattle.act1_base.specs.Rising.{Rises}
use Rattle.act1_circuit.specs.declared.circuit.Circuit.{Circuit}
use Rattle.act1_circuit.specs.declared.circuit.Output.{Output}
use Rattle.act1_circuit.specs.declared.circuit.Source.{Source}
use Rattle.act1_circuit.specs.declared.circuit.Start.{Start}
use Rattle.act1_circuit.specs.declared.circuit.Source.TheVariants.{Zero, One, Clock, Input, Module}
use Rattle.act1_circuit.specs.declared.pairs.FormFault.{FormFault}
use Rattle.act1_circuit.specs.declared.pairs.FormFault.TheVariants as fault
use Rattle.act1_circuit.specs.declared.pairs.Pair.{Pair}
use Rattle.act1_circuit.specs.declared.readers.Readers.{Readers}
use Rattle.act1_circuit.specs.declared.readers.Readers.TheVariants as readers
use Rattle.act1_circuit.specs.FormFaults.{ArePairs, HasFault, IsFirstFault, IsOutsideOrder}
use Rattle.act1_circuit.specs.PairForm.{Edge, rising, IsPair, IsStartModule, HasStart, pin_of, master_pins, slave_pins, outside_reads}
use Rattle.act1_order.specs.Order.{IsFirstOnRing, OnRing}

-- the row of this number reads the module, whose own row it isn't: the rows are those of the modules' pins, and then those of the outputs
abbrev pub ReadsOther : Circuit → ℕ → ℕ → Type 0
ReadsOther c m row = (row ≢ m) × (((pin : ℕ) × (pin_of c row pin ≡ Module m))
    ⊎ ((j : ℕ) × (output : Output) × (row ≡ length c.modules + j) × (slice_get c.outputs j ≡ Some output) × (output.source ≡ Module m)))

-- those for which P holds are none, one, or more than one
abbrev pub IsReaders : (ℕ → Type 0) → Readers → Type 0
IsReaders P readers.Nobody = (row : ℕ) → P row → ⊥
IsReaders P (readers.One only) = P only × ((row : ℕ) → P row → row ≡ only)
IsReaders P readers.Many = (only : ℕ) → ((row : ℕ) → P row → row ≡ only) → ⊥

-- for each module which other rows read it
pub record AreReaders (c : Circuit) (found : List Readers) : Type 0 where
  pub all : length found ≡ length c.modules
  pub each : (m : ℕ) → m < length c.modules → IsReaders (ReadsOther c m) (slice_index_or found m readers.Nobody)

-- a row of the first k modules, other than m's own, reads m
abbrev pub Seen : Circuit → ℕ → ℕ → ℕ → Type 0
Seen c m k row = (row ≢ m) × (row < k) × (pin : ℕ) × (pin_of c row pin ≡ Module m)

-- for each module those of the first k modules that read it
pub record AreSeen (c : Circuit) (k : ℕ) (found : List Readers) : Type 0 where
  pub all : length found ≡ length c.modules
  pub each : (m : ℕ) → m < length c.modules → IsReaders (Seen c m k) (slice_index_or found m readers.Nobody)

-- a row of the modules or of the first k outputs, other than m's own, reads m
abbrev pub SeenOut : Circuit → ℕ → ℕ → ℕ → Type 0
SeenOut c m k row = ((row ≢ m) × (pin : ℕ) × (pin_of c row pin ≡ Module m))
    ⊎ ((row ≢ m) × (j : ℕ) × (output : Output) × (j < k) × (row ≡ length c.modules + j) × (slice_get c.outputs j ≡ Some output) × (output.source ≡ Module m))

-- for each module the modules and those of the first k outputs that read it
pub record AreSeenOut (c : Circuit) (k : ℕ) (found : List Readers) : Type 0 where
  pub all : length found ≡ length c.modules
  pub each : (m : ℕ) → m < length c.modules → IsReaders (SeenOut c m k) (slice_index_or found m readers.Nobody)

-- one row more reads a module
abbrev pub with_reader : ℕ → Readers → Readers
with_reader row readers.Nobody = readers.One row
with_reader row (readers.One other) = if other == row then readers.One row else readers.Many
with_reader row readers.Many = readers.Many

-- what is known of the readers once one source of a row is looked at
abbrev pub noted : ℕ → Source → List Readers → List Readers
noted row Zero found = found
noted row One found = found
noted row Clock found = found
noted row (Input i) found = found
noted row (Module m) found = if m == row then found else slice_set found m (with_reader row (slice_index_or found m readers.Nobody))

-- and once the first so many sources of it are
abbrev pub noted_sources : ℕ → List Source → ℕ → List Readers → List Readers
noted_sources row sources zero found = found
noted_sources row sources (suc k) found = noted row (slice_index_or sources k Zero) (noted_sources row sources k found)

-- the circuit has the module, if the source is one
abbrev pub IsBelow : ℕ → Source → Type 0
IsBelow n Zero = Unit {0}
IsBelow n One = Unit {0}
IsBelow n Clock = Unit {0}
IsBelow n (Input i) = Unit {0}
IsBelow n (Module m) = m < n

-- the module of a source, if it is one
abbrev pub source_module : Source → Option ℕ
source_module Zero = None
source_module One = None
source_module Clock = None
source_module (Input i) = None
source_module (Module m) = Some m

-- the module has the pins of a master
abbrev pub IsMaster : Circuit → ℕ → Type 0
IsMaster c m = (takes : Source) × (takes ≢ Clock) × (takes ≢ Module m) × (slice_get c.modules m ≡ Some (master_pins rising takes m))

-- the module at B0, where the module has the pins of a slave
abbrev pub Follows : Circuit → ℕ → Option ℕ → Type 0
Follows c s (Some m) = slice_get c.modules s ≡ Some (slave_pins rising m s)
Follows c s None = (m : ℕ) → slice_get c.modules s ≡ Some (slave_pins rising m s) → ⊥

-- the master of the pair whose slave the module is, or none where it is no slave
abbrev pub HasMaster : Circuit → ℕ → Option ℕ → Type 0
HasMaster c s (Some m) = (takes : Source) × IsPair c rising takes m s
HasMaster c s None = (edge : Edge) (takes : Source) (m : ℕ) → IsPair c edge takes m s → ⊥

-- the module is the master of a pair
abbrev pub IsPairMaster : Circuit → ℕ → Type 0
IsPairMaster c m = (edge : Edge) × (takes : Source) × (s : ℕ) × IsPair c edge takes m s

-- the only reader, if it is one of the first n rows
abbrev pub only_reader : Readers → ℕ → Option ℕ
only_reader readers.Nobody n = None
only_reader (readers.One row) n = if nat_lt row n then Some row else None
only_reader readers.Many n = None

-- the least number for which P holds, or none where it holds for none
abbrev pub IsLeastWith : (ℕ → Type 0) → Option ℕ → Type 0
IsLeastWith P None = (m : ℕ) → P m → ⊥
IsLeastWith P (Some m) = P m × ((k : ℕ) → k < m → P k → ⊥)

-- for each module whether it has a start
pub record AreStarted (c : Circuit) (started : List Bool) : Type 0 where
  pub all : length started ≡ length c.modules
  pub each : (m : ℕ) → m < length c.modules → IsTrue (slice_index_or started m false) ↔ HasStart c m

-- for each module whether one of the first k starts stands at it
pub record AreStartedBelow (c : Circuit) (k : ℕ) (started : List Bool) : Type 0 where
  pub all : length started ≡ length c.modules
  pub each : (m : ℕ) → m < length c.modules → IsTrue (slice_index_or started m false) ↔ ((j : ℕ) × (start : Start) × (j < k) × (slice_get c.starts j ≡ Some start) × (start.module ≡ m))

-- the pair whose slave the module is, or none where it is no slave
abbrev pub IsPairAt : Circuit → ℕ → Option Pair → Type 0
IsPairAt c s (Some pair) = (pair.slave ≡ s) × ((takes : Source) × IsPair c rising takes pair.master s)
IsPairAt c s None = (edge : Edge) (takes : Source) (m : ℕ) → IsPair c edge takes m s → ⊥

-- the pairs with slaves below k, rising by slave
pub record ArePairsBelow (c : Circuit) (k : ℕ) (pairs : List Pair) : Type 0 where
  pub each : (j : ℕ) (p : Pair) → slice_get pairs j ≡ Some p → (p.slave < k) × ((takes : Source) × IsPair c rising takes p.master p.slave)
  pub all : (edge : Edge) (takes : Source) (m s : ℕ) → IsPair c edge takes m s → s < k → (j : ℕ) × (p : Pair) × (slice_get pairs j ≡ Some p) × (p.master ≡ m) × (p.slave ≡ s)
  pub rise : Rises (λ (p q : Pair). p.slave < q.slave) pairs

-- the modules outside pairs in their order, or the least that depends on itself
abbrev pub OrderGives : Circuit → Result (List ℕ) FormFault → Type 0
OrderGives c (Ok order) = IsOutsideOrder c order × ((m : ℕ) → OnRing (outside_reads c) m → ⊥)
OrderGives c (Err (fault.Ring m)) = IsFirstOnRing (outside_reads c) m
OrderGives c (Err fault.Memory) = Unit {0}
OrderGives c (Err (fault.Clocked m)) = ⊥
OrderGives c (Err (fault.ClockOut o)) = ⊥
OrderGives c (Err (fault.Start m)) = ⊥

-- the pairs, where the starts stand at the modules where those of pairs do, or the least module at which they don't
abbrev pub PairsGive : Circuit → Result (List Pair) FormFault → Type 0
PairsGive c (Ok pairs) = ArePairs c pairs × ((k : ℕ) → IsStartModule c k → HasStart c k) × ((j : ℕ) (start : Start) → slice_get c.starts j ≡ Some start → IsStartModule c start.module)
PairsGive c (Err (fault.Start m)) = IsLeastWith (λ k. HasFault c (fault.Start k)) (Some m)
PairsGive c (Err fault.Memory) = Unit {0}
PairsGive c (Err (fault.Clocked m)) = ⊥
PairsGive c (Err (fault.ClockOut o)) = ⊥
PairsGive c (Err (fault.Ring m)) = ⊥

-- the first of the two faults of the clock, or neither
abbrev pub IsClockFault : Circuit → Option FormFault → Type 0
IsClockFault c None = ((m : ℕ) → HasFault c (fault.Clocked m) → ⊥) × ((o : ℕ) → HasFault c (fault.ClockOut o) → ⊥)
IsClockFault c (Some found) = IsFirstFault c found
