-- What an array gives: the netlist that it is extracted to, or the first refusal.
use Rattle.std.specs.Prelude.{ℕ, ◌≡◌, ◌≢◌, ◌<◌, ◌&&◌, ◌||◌, not, Bool, List, Some, Result, Ok, Err, slice_get, length, map}
use Rattle.std.specs.List.{list_any}
use Rattle.std.specs.Str.{bytes_eq}
use Rattle.act1_array.specs.declared.fault.ArrayFault.{ArrayFault}
use Rattle.act1_array.specs.declared.fault.ArrayFault.TheVariants as array
use Rattle.act1_array.specs.Gives.{Gives}
use Rattle.act1_blif.specs.declared.blif.Blif.{Blif}
use Rattle.act1_circuit.specs.declared.circuit.Circuit.{Circuit}
use Rattle.act1_circuit.specs.declared.circuit.Output.{Output}
use Rattle.act1_circuit.specs.declared.circuit.Placed.{Placed}
use Rattle.act1_circuit.specs.declared.circuit.Spot.{Spot}
use Rattle.act1_circuit.specs.declared.circuit.Start.{Start as StartAt}
use Rattle.act1_circuit.specs.declared.pairs.FormFault.{FormFault}
use Rattle.act1_circuit.specs.declared.pairs.FormFault.TheVariants as form
use Rattle.act1_circuit.specs.FormFaults.{IsFirstFault}
use Rattle.act1_circuit.specs.PairForm.{IsPairForm}
use Rattle.act1_device.specs.declared.device.Device.{Device}
use Rattle.act1_fuses.specs.Array.{IsCircuitOf, Sound}
use Rattle.act1_fuses.specs.declared.fuses.FuseFile.{FuseFile}
use Rattle.act1_meaning.specs.ArrayNames.{HasArrayNames, IsClash, IsFirstClash, is_own_signal}
use Rattle.act1_meaning.specs.Extracted.{IsArrayNet}
use Rattle.act1_meaning.specs.Meaning.{Means}
use Rattle.act1_extract.specs.declared.fault.ExtractFault.{ExtractFault}
use Rattle.act1_extract.specs.declared.fault.ExtractFault.TheVariants.{Array, Form, ClockOut, Clash, Memory}
use Rattle.act1_extract.specs.declared.fault.FormKind.{FormKind}
use Rattle.act1_extract.specs.declared.fault.FormKind.TheVariants.{Clocked, Ring, Start}

-- an input or a latch has the name
abbrev pub is_signal_name : Circuit → List ℕ → Bool
is_signal_name c name = list_any (λ (input : List ℕ). bytes_eq input name) c.inputs || list_any (λ (s : StartAt). bytes_eq s.name name) c.starts

-- the output has the name of an input or a latch and another source
abbrev pub is_clash : Circuit → Output → Bool
is_clash c o = not (is_own_signal c o) && is_signal_name c o.name

-- the array is sound, and this is its circuit
pub record IsCircuit (dev : Device) (f : FuseFile) (p : Placed) : Type 0 where
  pub sound : Sound dev f
  pub is : IsCircuitOf p dev f

-- the array is sound, its circuit is in pair form and has no clash, and it is extracted to the netlist, which the circuit means
pub record IsExtracted (dev : Device) (f : FuseFile) (b : Blif) : Type 0 where
  pub placed : Placed
  pub circuit : IsCircuit dev f placed
  pub form : IsPairForm placed.circuit
  pub clear : (i : ℕ) → IsClash placed.circuit i → ⊥
  pub net : IsArrayNet placed.circuit b
  pub names : HasArrayNames placed.circuit b
  pub means : Means placed.circuit b

-- a rule of pair form, and the module that breaks it
abbrev pub form_fault : FormKind → ℕ → FormFault
form_fault Clocked m = form.Clocked m
form_fault Ring m = form.Ring m
form_fault Start m = form.Start m

-- the first fault of the circuit is at the module that stands there
pub record IsUnformed (dev : Device) (f : FuseFile) (kind : FormKind) (spot : Spot) : Type 0 where
  pub placed : Placed
  pub circuit : IsCircuit dev f placed
  pub at : ℕ
  pub there : slice_get placed.spots at ≡ Some spot
  pub fault : IsFirstFault placed.circuit (form_fault kind at)

-- the first fault of the circuit is that the output is the clock
pub record IsClockOut (dev : Device) (f : FuseFile) (output : ℕ) : Type 0 where
  pub placed : Placed
  pub circuit : IsCircuit dev f placed
  pub fault : IsFirstFault placed.circuit (form.ClockOut output)

-- the circuit is in pair form, and the output is the first that clashes
pub record IsClashing (dev : Device) (f : FuseFile) (output : ℕ) : Type 0 where
  pub placed : Placed
  pub circuit : IsCircuit dev f placed
  pub form : IsPairForm placed.circuit
  pub clash : IsFirstClash placed.circuit output

-- the extracted netlist, or the first refusal; want of memory is free
abbrev pub ExtractGives : Device → FuseFile → Result Blif ExtractFault → Type 0
ExtractGives dev f (Ok b) = IsExtracted dev f b
ExtractGives dev f (Err (Array fault)) = (fault ≢ array.Memory) × Gives dev f (Err fault)
ExtractGives dev f (Err (Form kind spot)) = IsUnformed dev f kind spot
ExtractGives dev f (Err (ClockOut output)) = IsClockOut dev f output
ExtractGives dev f (Err (Clash output)) = IsClashing dev f output
ExtractGives dev f (Err Memory) = Unit {0}

-- what is answered of an array's circuit
abbrev pub PlacedGives : Placed → Result Blif ExtractFault → Type 0
PlacedGives p (Ok b) = IsPairForm p.circuit × ((i : ℕ) → IsClash p.circuit i → ⊥) × IsArrayNet p.circuit b × HasArrayNames p.circuit b
PlacedGives p (Err (Array fault)) = ⊥
PlacedGives p (Err (Form kind spot)) = (m : ℕ) × (slice_get p.spots m ≡ Some spot) × IsFirstFault p.circuit (form_fault kind m)
PlacedGives p (Err (ClockOut output)) = IsFirstFault p.circuit (form.ClockOut output)
PlacedGives p (Err (Clash output)) = IsPairForm p.circuit × IsFirstClash p.circuit output
PlacedGives p (Err Memory) = Unit {0}
