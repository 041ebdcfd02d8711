-- Which plans a text can say.
use Rattle.std.specs.Prelude.{ℕ, ◌≡◌, ◌<◌, ◌≤◌, IsTrue, List, length, IfSome}
use Rattle.std.specs.List.{AllByRecursion}
use Rattle.act1_base.specs.Names.{is_name}
use Rattle.act1_base.specs.Rising.{Rises}
use Rattle.act1_circuit.specs.declared.circuit.Output.{Output}
use Rattle.act1_circuit.specs.declared.circuit.Source.{Source}
use Rattle.act1_circuit.specs.declared.circuit.Source.TheVariants as source
use Rattle.act1_circuit.specs.declared.circuit.Spot.{Spot}
use Rattle.act1_circuit.specs.declared.circuit.Start.{Start}
use Rattle.act1_circuit.specs.Spots.{SpotIsBefore}
use Rattle.act1_plan.specs.declared.plan.Plan.{Plan}

-- the number of the source fits its field
abbrev pub IsSource : Source → Type 0
IsSource (source.Input i) = i ≤ 65535
IsSource (source.Module m) = m ≤ 65535
IsSource constant = Unit {0}

abbrev pub IsOutput : Output → Type 0
IsOutput output = IsSource output.source × IsTrue (is_name output.name)

abbrev pub IsStart : Start → Type 0
IsStart start = (start.module ≤ 65535) × (start.init ≤ 3) × IsTrue (is_name start.name)

-- eight sources
abbrev pub ArePins : List Source → Type 0
ArePins pins = (length pins ≡ 8) × AllByRecursion IsSource pins

abbrev pub IsSpot : Spot → Type 0
IsSpot spot = (spot.row ≤ 255) × (spot.column ≤ 255)

-- starts rise by their modules
abbrev pub StartIsBefore : Start → Start → Type 0
StartIsBefore a b = a.module < b.module

-- a text can say the plan: names are names, numbers fit their fields, starts rise by their modules, and spots, one for each module, rise
pub record IsPlan (plan : Plan) : Type 0 where
  pub device : IsTrue (is_name plan.device)
  pub k : plan.k ≤ 255
  pub clock : IfSome plan.placed.circuit.clock (λ name. IsTrue (is_name name))
  pub inputs : AllByRecursion (λ (name : List ℕ). IsTrue (is_name name)) plan.placed.circuit.inputs
  pub outputs : AllByRecursion IsOutput plan.placed.circuit.outputs
  pub starts : AllByRecursion IsStart plan.placed.circuit.starts
  pub starts_rise : Rises StartIsBefore plan.placed.circuit.starts
  pub modules : AllByRecursion ArePins plan.placed.circuit.modules
  pub spots : AllByRecursion IsSpot plan.placed.spots
  pub spots_rise : Rises SpotIsBefore plan.placed.spots
  pub one_each : length plan.placed.spots ≡ length plan.placed.circuit.modules
