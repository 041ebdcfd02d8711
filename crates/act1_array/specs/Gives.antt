-- What an array gives: its circuit where it is sound, and else the first condition of a sound array that fails.
use Rattle.std.specs.Prelude.{ℕ, All, Contains, Err, List, Ok, Result, Some, length, slice_get, ◌+◌, ◌<◌, ◌↔◌, ◌≡◌, ◌≢◌, ◌≤◌, ◌⊎◌}
use Rattle.act1_array.specs.declared.fault.ArrayFault.{ArrayFault}
use Rattle.act1_fuses.specs.Wires.{Joined}
use Rattle.act1_base.specs.Rising.{Rises}
use Rattle.act1_circuit.specs.Spots.{SpotIsBefore}
use Rattle.act1_circuit.specs.declared.circuit.Placed.{Placed}
use Rattle.act1_circuit.specs.declared.circuit.Source.{Source}
use Rattle.act1_circuit.specs.declared.circuit.Source.TheVariants.{Clock, Input, Module, One, Zero}
use Rattle.act1_circuit.specs.declared.circuit.Spot.{Spot}
use Rattle.act1_device.specs.declared.device.Device.{Device}
use Rattle.act1_device.specs.declared.device.Site.{Site}
use Rattle.act1_device.specs.declared.device.Wire.{Wire}
use Rattle.act1_fuses.specs.Array.{IsCircuitOf, IsFed, IsSource, IsUsed, IsWireOf, Sound, pad_wire, pin_wire}
use Rattle.act1_fuses.specs.declared.fuses.FuseFile.{FuseFile}
use Rattle.act1_fuses.specs.declared.fuses.Port.{Port}
use Rattle.act1_fuses.specs.declared.fuses.StartAt.{StartAt}
use Rattle.act1_array.specs.declared.fault.ArrayFault.TheVariants as fault

-- no two different sources are joined
abbrev pub Apart : Device → FuseFile → Type 0
Apart dev f = (a b : Wire) → IsSource f a → IsSource f b → Joined dev f.sites a b → a ≡ b

-- each pin of a used module is joined to a source
abbrev pub PinsAreFed : Device → FuseFile → Type 0
PinsAreFed dev f = (s : Spot) (pin : ℕ) → IsUsed f.sites s → pin < 8 → IsFed dev f (pin_wire s pin)

-- each pad of an output is joined to a source
abbrev pub OutputsAreFed : Device → FuseFile → Type 0
OutputsAreFed dev f = All (λ (port : Port). IsFed dev f (pad_wire port.pad)) f.outs

-- the spots rise, and they are those of the used modules
pub record AreUsed (sites : List Site) (spots : List Spot) : Type 0 where
  pub rise : Rises SpotIsBefore spots
  pub used : (s : Spot) → IsUsed sites s ↔ Contains spots s

-- where a source stands in the order of sources: ground, power, the clock, the inputs and the modules
abbrev pub source_place : FuseFile → Source → ℕ
source_place f Zero = 0
source_place f One = 1
source_place f Clock = 2
source_place f (Input i) = 3 + i
source_place f (Module m) = 3 + length f.ins + m

-- two different sources are joined, the first before the second
pub record AreJoined (dev : Device) (f : FuseFile) (spots : List Spot) (s t : Source) : Type 0 where
  pub from : Wire
  pub to : Wire
  pub from_is : IsWireOf f spots s from
  pub to_is : IsWireOf f spots t to
  pub different : from ≢ to
  pub joined : Joined dev f.sites from to
  pub order : source_place f s < source_place f t

-- the one pair of sources is the other, or before it: by the first source, and then by the second
abbrev pub PairIsUpTo : FuseFile → Source → Source → Source → Source → Type 0
PairIsUpTo f first second s t = (source_place f first < source_place f s) ⊎ ((source_place f first ≡ source_place f s) × (source_place f second ≤ source_place f t))

-- these two different sources are joined, and they are the least pair of which that holds
pub record IsLeastPair (dev : Device) (f : FuseFile) (spots : List Spot) (first second : Source) : Type 0 where
  pub joined : AreJoined dev f spots first second
  pub least : (s t : Source) → AreJoined dev f spots s t → PairIsUpTo f first second s t

-- two sources are joined that differ, and these are the least two
pub record IsDriven (dev : Device) (f : FuseFile) (first second : Source) : Type 0 where
  pub fails : ¬ Apart dev f
  pub spots : List Spot
  pub used : AreUsed f.sites spots
  pub pair : IsLeastPair dev f spots first second

-- pins stand in the order of their modules' spots, and then of their numbers
abbrev pub PinIsBefore : Spot → ℕ → Spot → ℕ → Type 0
PinIsBefore s k spot pin = SpotIsBefore s spot ⊎ ((s ≡ spot) × (k < pin))

-- the pin of a used module is joined to no source, and it is the first such pin
pub record IsFirstFloating (dev : Device) (f : FuseFile) (spot : Spot) (pin : ℕ) : Type 0 where
  pub used : IsUsed f.sites spot
  pub low : pin < 8
  pub floats : ¬ IsFed dev f (pin_wire spot pin)
  pub first : (s : Spot) (k : ℕ) → IsUsed f.sites s → k < 8 → PinIsBefore s k spot pin → IsFed dev f (pin_wire s k)

-- the pad of the output is joined to no source, and it is the first such output
pub record IsFirstUnfed (dev : Device) (f : FuseFile) (output : ℕ) : Type 0 where
  pub port : Port
  pub place : slice_get f.outs output ≡ Some port
  pub unfed : ¬ IsFed dev f (pad_wire port.pad)
  pub first : (k : ℕ) (other : Port) → k < output → slice_get f.outs k ≡ Some other → IsFed dev f (pad_wire other.pad)

-- a start stands at the spot, whose module isn't used, and it is the first such start
pub record IsFirstUnused (f : FuseFile) (spot : Spot) : Type 0 where
  pub number : ℕ
  pub start : StartAt
  pub place : slice_get f.starts number ≡ Some start
  pub spot_is : start.spot ≡ spot
  pub unused : ¬ IsUsed f.sites spot
  pub first : (k : ℕ) (other : StartAt) → k < number → slice_get f.starts k ≡ Some other → IsUsed f.sites other.spot

-- the circuit of a sound array, or the first of its conditions that fails; want of memory is free
abbrev pub Gives : Device → FuseFile → Result Placed ArrayFault → Type 0
Gives dev f (Ok p) = Sound dev f × IsCircuitOf p dev f
Gives dev f (Err (fault.Driven first second)) = IsDriven dev f first second
Gives dev f (Err (fault.Floating spot pin)) = Apart dev f × IsFirstFloating dev f spot pin
Gives dev f (Err (fault.Unfed output)) = Apart dev f × PinsAreFed dev f × IsFirstUnfed dev f output
Gives dev f (Err (fault.StartUnused spot)) = Apart dev f × PinsAreFed dev f × OutputsAreFed dev f × IsFirstUnused f spot
Gives dev f (Err fault.Memory) = Unit {0}
