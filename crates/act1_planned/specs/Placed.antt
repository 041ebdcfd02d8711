-- Circuits whose modules stand at spots, and are numbered in the order of these.
use Rattle.std.specs.Prelude.{ℕ, ◌≡◌, ◌≢◌, ◌<◌, ◌≤◌, ◌⊎◌, List, length, slice_get, Some, All, AllPairs}
use Rattle.act1_device.specs.declared.device.Device.{Device}
use Rattle.act1_circuit.specs.declared.circuit.Circuit.{Circuit}
use Rattle.act1_circuit.specs.declared.circuit.Output.{Output}
use Rattle.act1_circuit.specs.declared.circuit.Placed.{Placed}
use Rattle.act1_circuit.specs.declared.circuit.Source.TheVariants.{Clock, Module}
use Rattle.act1_circuit.specs.declared.circuit.Spot.{Spot}
use Rattle.act1_circuit.specs.declared.circuit.Start.{Start}
use Rattle.act1_circuit.specs.PairForm.{pin_of}
use Rattle.act1_circuit.specs.Range.{InRange}
use Rattle.act1_plan.specs.Legal.{HasNames}
use Rattle.act1_plan.specs.Order.{AreSites, IsInSiteOrder}
use Rattle.act1_place.specs.Place.{HasPads, HasSites}
use Rattle.act1_place.specs.Start.{IsPlacement}

-- the modules stand at these spots, one for each and all different, and the placed circuit has them in the order of the spots
pub record IsPlacedAt (c : Circuit) (spots : List Spot) (p : Placed) : Type 0 where
  pub each : length spots ≡ length c.modules
  pub apart : AllPairs (λ (s t : Spot). s ≢ t) spots
  pub order : IsInSiteOrder c spots p

-- the circuit has names, inits of the four that a latch may have, and starts at different modules
pub record IsNamed (c : Circuit) : Type 0 where
  pub names : HasNames c
  pub inits : All (λ (s : Start). s.init ≤ 3) c.starts
  pub starts : AllPairs (λ (s t : Start). s.module ≢ t.module) c.starts

-- a circuit that may be planned on a device, with its modules at these spots, one for each, and with at most so many segments a connection
pub record MayBePlanned (dev : Device) (c : Circuit) (spots : List Spot) (k : ℕ) : Type 0 where
  pub low : 1 ≤ k
  pub high : k ≤ 64
  pub range : InRange c
  pub named : IsNamed c
  pub outputs : All (λ (o : Output). o.source ≢ Clock) c.outputs
  pub pads : HasPads dev c
  pub each : length spots ≡ length c.modules
  pub sites : AreSites dev spots

-- the modules have a numbering under which the spots are those of the seed's placement
pub record IsPlacedBy (dev : Device) (seed : ℕ) (p : Placed) : Type 0 where
  pub circuit : Circuit
  pub spots : List Spot
  pub range : InRange circuit
  pub sites : HasSites dev circuit
  pub placement : IsPlacement dev circuit seed spots
  pub order : IsInSiteOrder circuit spots p

-- the module is the source of some pin or output
abbrev pub IsSourceOf : Circuit → ℕ → Type 0
IsSourceOf c m = ((k : ℕ) × (pin : ℕ) × (pin < 8) × (pin_of c k pin ≡ Module m)) ⊎ ((j : ℕ) × (o : Output) × (slice_get c.outputs j ≡ Some o) × (o.source ≡ Module m))

-- each module is the source of some pin or output
abbrev pub AllAreSources : Circuit → Type 0
AllAreSources c = (m : ℕ) → m < length c.modules → ∥ IsSourceOf c m ∥₁
