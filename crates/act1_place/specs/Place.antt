-- What a call of the placer answers.
use Rattle.std.specs.Prelude.{ℕ, ◌≡◌, ◌+◌, ◌*◌, ◌<◌, ◌≤◌, List, length, Result, Ok, Err}
use Rattle.act1_device.specs.declared.device.Device.{Device}
use Rattle.act1_circuit.specs.declared.circuit.Circuit.{Circuit}
use Rattle.act1_circuit.specs.declared.circuit.Spot.{Spot}
use Rattle.act1_place.specs.declared.placement.Placement.{Placement}
use Rattle.act1_place.specs.declared.placement.PlaceStop.{PlaceStop}
use Rattle.act1_place.specs.declared.placement.PlaceStop.TheVariants as stop
use Rattle.act1_place.specs.Laws.{IsSettled}
use Rattle.act1_place.specs.Passes.{Leaves}
use Rattle.act1_place.specs.Start.{IsPlacement}

-- a pad for each input and each output
abbrev pub pads_needed : Circuit → ℕ
pads_needed c = length c.inputs + length c.outputs

abbrev pub HasPads : Device → Circuit → Type 0
HasPads dev c = pads_needed c ≤ length dev.pads

-- a site for each module
abbrev pub HasSites : Device → Circuit → Type 0
HasSites dev c = length c.modules ≤ dev.rows * dev.columns

-- the placement of the seed, where there are pads and sites enough
pub record IsPlaced (dev : Device) (c : Circuit) (seed : ℕ) (p : Placement) : Type 0 where
  pub pads : HasPads dev c
  pub sites : HasSites dev c
  pub placement : IsPlacement dev c seed p.spots
  pub settled : IsSettled dev c seed p.spots

-- pads or else sites are too few
abbrev pub IsStop : Device → Circuit → PlaceStop → Type 0
IsStop dev c (stop.Pads needed have) = (needed ≡ pads_needed c) × (have ≡ length dev.pads) × (have < needed)
IsStop dev c (stop.Full needed have) = HasPads dev c × (needed ≡ length c.modules) × (have ≡ dev.rows * dev.columns) × (have < needed)
IsStop dev c stop.Memory = ⊥

-- the spots are those that the passes leave from this start
abbrev pub IsLeft : Device → Circuit → List Spot → Placement → Type 0
IsLeft dev c start p = Leaves dev c start p.spots

-- the placement, or that pads or else sites are too few; want of memory alone is free
abbrev pub Places : Device → Circuit → ℕ → Result Placement PlaceStop → Type 0
Places dev c seed (Ok p) = IsPlaced dev c seed p
Places dev c seed (Err (stop.Pads needed have)) = IsStop dev c (stop.Pads needed have)
Places dev c seed (Err (stop.Full needed have)) = IsStop dev c (stop.Full needed have)
Places dev c seed (Err stop.Memory) = Unit {0}
