-- What the stages give: the modules, the outputs and the starts of an array, or the first refusal.
use Rattle.std.specs.Prelude.{ℕ, All, Err, List, Ok, Result, Some, length, map, slice_get, ◌<◌, ◌≡◌}
use Rattle.act1_array.specs.Gives.{IsFirstFloating, IsFirstUnfed, IsFirstUnused}
use Rattle.act1_array.specs.declared.fault.ArrayFault.{ArrayFault}
use Rattle.act1_circuit.specs.declared.circuit.Output.{Output}
use Rattle.act1_circuit.specs.declared.circuit.Source.{Source}
use Rattle.act1_circuit.specs.declared.circuit.Spot.{Spot}
use Rattle.act1_circuit.specs.declared.circuit.Start.{Start}
use Rattle.act1_device.specs.declared.device.Device.{Device}
use Rattle.act1_fuses.specs.Array.{Beginning, Drives, IsFed, IsUsed, pad_wire, pin_wire}
use Rattle.act1_fuses.specs.declared.fuses.FuseFile.{FuseFile}
use Rattle.act1_fuses.specs.declared.fuses.Port.{Port}
use Rattle.act1_fuses.specs.declared.fuses.StartAt.{StartAt}
use Rattle.act1_array.specs.declared.fault.ArrayFault.TheVariants as fault

-- the sources of the pins of a module, or the first pin that is joined to none
abbrev pub GivesPins : Device → FuseFile → List Spot → Spot → Result (List Source) ℕ → Type 0
GivesPins dev f spots s (Ok sources) = (length sources ≡ 8) × ((k : ℕ) (source : Source) → slice_get sources k ≡ Some source → Drives dev f spots source (pin_wire s k))
GivesPins dev f spots s (Err pin) = (pin < 8) × (¬ IsFed dev f (pin_wire s pin)) × ((k : ℕ) → k < pin → IsFed dev f (pin_wire s k))

-- the sources of the modules at these spots
pub record AreModules (dev : Device) (f : FuseFile) (spots : List Spot) (count : ℕ) (modules : List (List Source)) : Type 0 where
  pub all : length modules ≡ count
  pub pins : (m : ℕ) (s : Spot) (sources : List Source) → slice_get spots m ≡ Some s → slice_get modules m ≡ Some sources → GivesPins dev f spots s (Ok sources)

-- the sources of all modules, or the first pin that is joined to none
abbrev pub GivesModules : Device → FuseFile → List Spot → Result (List (List Source)) ArrayFault → Type 0
GivesModules dev f spots (Ok modules) = AreModules dev f spots (length spots) modules
GivesModules dev f spots (Err (fault.Floating spot pin)) = IsFirstFloating dev f spot pin
GivesModules dev f spots (Err fault.Memory) = Unit {0}
GivesModules dev f spots (Err e) = ⊥

-- these are the first outputs, each with a source that drives its pad
pub record AreOutputs (dev : Device) (f : FuseFile) (spots : List Spot) (ports : List Port) (outputs : List Output) : Type 0 where
  pub names : map (λ (output : Output). output.name) outputs ≡ map (λ (port : Port). port.name) ports
  pub sources : (k : ℕ) (port : Port) (output : Output) → slice_get ports k ≡ Some port → slice_get outputs k ≡ Some output → Drives dev f spots output.source (pad_wire port.pad)

-- the outputs, or the first one that is joined to no source
abbrev pub GivesOutputs : Device → FuseFile → List Spot → Result (List Output) ArrayFault → Type 0
GivesOutputs dev f spots (Ok outputs) = AreOutputs dev f spots f.outs outputs
GivesOutputs dev f spots (Err (fault.Unfed output)) = IsFirstUnfed dev f output
GivesOutputs dev f spots (Err fault.Memory) = Unit {0}
GivesOutputs dev f spots (Err e) = ⊥

-- these are the starts, each at the module of its spot
abbrev pub start_beginning : List Spot → Start → Beginning
start_beginning spots start = (start.name, start.init, slice_get spots start.module)

abbrev pub start_at_beginning : StartAt → Beginning
start_at_beginning start = (start.name, start.init, Some start.spot)

abbrev pub AreStarts : List Spot → List StartAt → List Start → Type 0
AreStarts spots ats starts = map {B = Beginning} (start_beginning spots) starts ≡ map {B = Beginning} start_at_beginning ats

-- the starts, or the spot of the first one at an unused module
abbrev pub GivesStarts : FuseFile → List Spot → Result (List Start) ArrayFault → Type 0
GivesStarts f spots (Ok starts) = AreStarts spots f.starts starts × All (λ (start : StartAt). IsUsed f.sites start.spot) f.starts
GivesStarts f spots (Err (fault.StartUnused spot)) = IsFirstUnused f spot
GivesStarts f spots (Err fault.Memory) = Unit {0}
GivesStarts f spots (Err e) = ⊥
