-- The pair form of a circuit, as it is answered, and the first fault of a circuit that has none.
use Rattle.std.specs.Prelude.{ℕ, ◌≡◌, ◌<◌, ◌⊎◌, true, false, List, length, Some, Result, Ok, Err, Contains, slice_get}
use Rattle.act1_base.specs.Rising.{Rises}
use Rattle.act1_circuit.specs.declared.circuit.Circuit.{Circuit}
use Rattle.act1_circuit.specs.declared.circuit.Output.{Output}
use Rattle.act1_circuit.specs.declared.circuit.Source.{Source}
use Rattle.act1_circuit.specs.declared.circuit.Source.TheVariants as source
use Rattle.act1_circuit.specs.declared.pairs.FormFault.{FormFault}
use Rattle.act1_circuit.specs.declared.pairs.FormFault.TheVariants.{Clocked, ClockOut, Ring, Start, Memory}
use Rattle.act1_circuit.specs.declared.pairs.Pair.{Pair}
use Rattle.act1_circuit.specs.declared.pairs.PairForm.{PairForm}
use Rattle.act1_circuit.specs.PairForm.{Edge, rising, has_clock, IsPair, InPair, IsStartModule, HasStart, IsPairForm, outside_reads}
use Rattle.act1_order.specs.Order.{OnRing, Reads, StandsBefore}

-- the pairs are those of the circuit, rising by slave
pub record ArePairs (c : Circuit) (pairs : List Pair) : Type 0 where
  pub each : (j : ℕ) (p : Pair) → slice_get pairs j ≡ Some p → (takes : Source) × IsPair c rising takes p.master p.slave
  pub all : (edge : Edge) (takes : Source) (m s : ℕ) → IsPair c edge takes m s → (j : ℕ) × (p : Pair) × (slice_get pairs j ≡ Some p) × (p.master ≡ m) × (p.slave ≡ s)
  pub rise : Rises (λ (p q : Pair). p.slave < q.slave) pairs

-- the order has each module without the clock on a pin once, after those that it reads
pub record IsOutsideOrder (c : Circuit) (order : List ℕ) : Type 0 where
  pub outside : (i m : ℕ) → slice_get order i ≡ Some m → (m < length c.modules) × (has_clock c m ≡ false)
  pub each : (m : ℕ) → m < length c.modules → has_clock c m ≡ false → Contains order m
  pub once : (i j m : ℕ) → slice_get order i ≡ Some m → slice_get order j ≡ Some m → i ≡ j
  pub after : (i m k : ℕ) → slice_get order i ≡ Some m → Reads (outside_reads c) m k → StandsBefore order i k

-- the circuit is in pair form, and these are its pairs and its other modules
pub record IsFormOf (c : Circuit) (form : PairForm) : Type 0 where
  pub is : IsPairForm c
  pub pairs : ArePairs c form.pairs
  pub order : IsOutsideOrder c form.order

-- the module, or the output, has the fault. Where no module has the first one, the modules outside pairs are those without the clock on a pin
abbrev pub HasFault : Circuit → FormFault → Type 0
HasFault c (Clocked m) = (m < length c.modules) × (has_clock c m ≡ true) × (InPair c m → ⊥)
HasFault c (ClockOut o) = (output : Output) × (slice_get c.outputs o ≡ Some output) × (output.source ≡ source.Clock)
HasFault c (Ring m) = OnRing (outside_reads c) m
HasFault c (Start m) = (IsStartModule c m × (HasStart c m → ⊥)) ⊎ (HasStart c m × (IsStartModule c m → ⊥))
HasFault c Memory = ⊥

-- the order of faults: by kind, and then by module or output
abbrev pub kind_of : FormFault → ℕ
kind_of (Clocked m) = 1
kind_of (ClockOut o) = 2
kind_of (Ring m) = 3
kind_of (Start m) = 4
kind_of Memory = 5

abbrev pub number_of : FormFault → ℕ
number_of (Clocked m) = m
number_of (ClockOut o) = o
number_of (Ring m) = m
number_of (Start m) = m
number_of Memory = 0

abbrev pub IsBefore : FormFault → FormFault → Type 0
IsBefore f g = (kind_of f < kind_of g) ⊎ ((kind_of f ≡ kind_of g) × (number_of f < number_of g))

-- the circuit has this fault, and none before it
pub record IsFirstFault (c : Circuit) (fault : FormFault) : Type 0 where
  pub has : HasFault c fault
  pub first : (other : FormFault) → HasFault c other → IsBefore other fault → ⊥

-- what is answered of a circuit
abbrev pub FormGives : Circuit → Result PairForm FormFault → Type 0
FormGives c (Ok form) = IsFormOf c form
FormGives c (Err Memory) = Unit {0}
FormGives c (Err (Clocked m)) = IsFirstFault c (Clocked m)
FormGives c (Err (ClockOut o)) = IsFirstFault c (ClockOut o)
FormGives c (Err (Ring m)) = IsFirstFault c (Ring m)
FormGives c (Err (Start m)) = IsFirstFault c (Start m)

-- a circuit in pair form has no fault
abbrev pub NeverBoth : Type 0
NeverBoth = (c : Circuit) (fault : FormFault) → IsPairForm c → HasFault c fault → ⊥

-- a circuit has one first fault
abbrev pub OneFault : Type 0
OneFault = (c : Circuit) (f g : FormFault) → IsFirstFault c f → IsFirstFault c g → f ≡ g
