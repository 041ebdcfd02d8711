-- The laws of plans.
use Rattle.std.specs.Prelude.{ℕ, ◌≡◌, List}
use Rattle.act1_blif.specs.declared.blif.Blif.{Blif}
use Rattle.act1_device.specs.declared.device.Device.{Device}
use Rattle.act1_circuit.specs.declared.circuit.Circuit.{Circuit}
use Rattle.act1_circuit.specs.declared.circuit.Placed.{Placed}
use Rattle.act1_circuit.specs.declared.circuit.Spot.{Spot}
use Rattle.act1_circuit.specs.PairForm.{IsPairForm}
use Rattle.act1_circuit.specs.Range.{InRange}
use Rattle.act1_meaning.specs.ArrayNames.{IsClash}
use Rattle.act1_meaning.specs.Meaning.{Means, Ports}
use Rattle.act1_plan.specs.declared.plan.Plan.{Plan}
use Rattle.act1_plan.specs.Legal.{Legal}
use Rattle.act1_plan.specs.Order.{IsPlanOf}
use Rattle.act1_place.specs.Passes.{IsStable}
use Rattle.act1_place.specs.Perimeter.{total}
use Rattle.act1_planned.specs.Placed.{AllAreSources, IsNamed, IsPlacedAt, IsPlacedBy, MayBePlanned}

-- what a circuit means it means in site order, in every order of firing
abbrev pub OrderKeepsMeaning : Type 0
OrderKeepsMeaning = (c : Circuit) (b : Blif) (spots : List Spot) (p : Placed) → IsPlacedAt c spots p → Means c b → Means p.circuit b

-- in site order a circuit has its sources, and the modules of its starts
abbrev pub OrderKeepsRange : Type 0
OrderKeepsRange = (c : Circuit) (spots : List Spot) (p : Placed) → IsPlacedAt c spots p → InRange c → InRange p.circuit

-- a circuit with the ports of a netlist has names
abbrev pub PortsAreNamed : Type 0
PortsAreNamed = (c : Circuit) (b : Blif) → Ports c b → IsNamed c

-- the plan of a circuit that may be planned is legal
abbrev pub PlansAreLegal : Type 0
PlansAreLegal = (dev : Device) (c : Circuit) (spots : List Spot) (k : ℕ) (plan : Plan) → MayBePlanned dev c spots k → IsPlanOf dev c spots k plan → Legal dev plan

-- site order keeps the sum of the half perimeters, and what is stable stays so
abbrev pub OrderKeepsSums : Type 0
OrderKeepsSums = (dev : Device) (c : Circuit) (spots : List Spot) (p : Placed) → InRange c → IsPlacedAt c spots p
    → (total dev p.circuit p.spots ≡ total dev c spots) × (IsStable dev c spots → IsStable dev p.circuit p.spots)

-- what a seed places is stable
abbrev pub PlacedIsStable : Type 0
PlacedIsStable = (dev : Device) (seed : ℕ) (p : Placed) → IsPlacedBy dev seed p → IsStable dev p.circuit p.spots

-- where each module is the source of some pin or output, each is so in site order
abbrev pub OrderKeepsSources : Type 0
OrderKeepsSources = (c : Circuit) (spots : List Spot) (p : Placed) → InRange c → IsPlacedAt c spots p → AllAreSources c → AllAreSources p.circuit

-- a circuit in pair form is so in site order
abbrev pub OrderKeepsForm : Type 0
OrderKeepsForm = (c : Circuit) (spots : List Spot) (p : Placed) → InRange c → IsPlacedAt c spots p → IsPairForm c → IsPairForm p.circuit

-- where no output has the name of an input or a latch but another source, none has in site order
abbrev pub OrderKeepsClear : Type 0
OrderKeepsClear = (c : Circuit) (spots : List Spot) (p : Placed) → InRange c → IsPlacedAt c spots p → ((i : ℕ) → IsClash c i → ⊥) → (i : ℕ) → IsClash p.circuit i → ⊥
