-- What the passes leave.
use Rattle.std.specs.Prelude.{ℕ, ◌≡◌, ◌≢◌, ◌<◌, ◌≤◌, ◌*◌, List, length}
use Rattle.act1_device.specs.declared.device.Device.{Device}
use Rattle.act1_circuit.specs.declared.circuit.Circuit.{Circuit}
use Rattle.act1_circuit.specs.declared.circuit.Spot.{Spot}
use Rattle.act1_plan.specs.Order.{AreSites}
use Rattle.act1_place.specs.Perimeter.{total}
use Rattle.act1_place.specs.Start.{seeded_start, IsPlacement}
use Rattle.act1_place.specs.Passes.{IsStable, pass, Leaves}

-- what the passes leave is stable, its sum is at most that of the start, and it is spots of the device, all different, where the start is
abbrev pub LeftIsStable : Type 0
LeftIsStable = (dev : Device) (c : Circuit) (start spots : List Spot) → Leaves dev c start spots
    → IsStable dev c spots × (total dev c spots ≤ total dev c start) × (length spots ≡ length start) × (AreSites dev start → AreSites dev spots)

-- the passes leave one list of spots
abbrev pub LeftIsOne : Type 0
LeftIsOne = (dev : Device) (c : Circuit) (start one other : List Spot) → Leaves dev c start one → Leaves dev c start other → one ≡ other

-- a pass that changes anything lessens the sum, so the passes end
abbrev pub PassesEnd : Type 0
PassesEnd = (dev : Device) (c : Circuit) (spots : List Spot) → pass dev c spots ≢ spots → total dev c (pass dev c spots) < total dev c spots

-- where the sites are enough, the seeded start is spots of the device, all different, one for each module
abbrev pub StartsAreSites : Type 0
StartsAreSites = (dev : Device) (c : Circuit) (seed : ℕ) → length c.modules ≤ dev.rows * dev.columns → AreSites dev (seeded_start dev c seed) × (length (seeded_start dev c seed) ≡ length c.modules)

-- what holds of each placement where the sites are enough: one spot of the device for each module, all different, a stable placement, and a sum that is at most that of the seeded start
pub record IsSettled (dev : Device) (c : Circuit) (seed : ℕ) (spots : List Spot) : Type 0 where
  pub one_each : length spots ≡ length c.modules
  pub sites : AreSites dev spots
  pub stable : IsStable dev c spots
  pub less : total dev c spots ≤ total dev c (seeded_start dev c seed)

abbrev pub PlacementsSettle : Type 0
PlacementsSettle = (dev : Device) (c : Circuit) (seed : ℕ) (spots : List Spot) → length c.modules ≤ dev.rows * dev.columns → IsPlacement dev c seed spots → IsSettled dev c seed spots

-- a circuit has one placement on a device for each seed
abbrev pub PlacementsAreOne : Type 0
PlacementsAreOne = (dev : Device) (c : Circuit) (seed : ℕ) (one other : List Spot) → IsPlacement dev c seed one → IsPlacement dev c seed other → one ≡ other
