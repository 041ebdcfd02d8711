-- When a plan is legal for a device. The rules are this project's own.
use Rattle.std.specs.Prelude.{ℕ, ◌≡◌, ◌≢◌, ◌+◌, ◌<◌, ◌≤◌, IsTrue, List, ◌++◌, length, map, All, AllPairs, IfSome}
use Rattle.act1_base.specs.Names.{is_name}
use Rattle.act1_base.specs.Rising.{Rises}
use Rattle.act1_device.specs.declared.device.Device.{Device}
use Rattle.act1_circuit.specs.declared.circuit.Circuit.{Circuit}
use Rattle.act1_circuit.specs.declared.circuit.Output.{Output}
use Rattle.act1_circuit.specs.declared.circuit.Start.{Start}
use Rattle.act1_circuit.specs.declared.circuit.Source.TheVariants.{Clock}
use Rattle.act1_circuit.specs.declared.circuit.Spot.{Spot}
use Rattle.act1_circuit.specs.Range.{InRange}
use Rattle.act1_circuit.specs.Spots.{SpotIsBefore}
use Rattle.act1_plan.specs.Plans.{StartIsBefore}
use Rattle.act1_plan.specs.declared.plan.Plan.{Plan}

-- the names of the outputs
abbrev pub output_names : Circuit → List (List ℕ)
output_names c = map (λ (o : Output). o.name) c.outputs

-- the names of the latches
abbrev pub start_names : Circuit → List (List ℕ)
start_names c = map (λ (s : Start). s.name) c.starts

-- names are names; inputs differ, outputs differ, and a latch differs from the other latches and from the inputs; none of them is the clock's
pub record HasNames (c : Circuit) : Type 0 where
  pub each : All (λ name. IsTrue (is_name name)) (c.inputs ++ output_names c ++ start_names c)
  pub inputs : AllPairs (λ (a b : List ℕ). a ≢ b) (c.inputs ++ start_names c)
  pub outputs : AllPairs (λ (a b : List ℕ). a ≢ b) (output_names c)
  pub clock : IfSome c.clock (λ name. IsTrue (is_name name) × All (λ other. other ≢ name) (c.inputs ++ output_names c ++ start_names c))

-- the spot is one of the device
abbrev pub IsOnDevice : Device → Spot → Type 0
IsOnDevice dev s = (s.row < dev.rows) × (s.column < dev.columns)

-- the plan is legal for the device
pub record Legal (dev : Device) (plan : Plan) : Type 0 where
  pub device : plan.device ≡ dev.name
  pub low : 1 ≤ plan.k
  pub high : plan.k ≤ 64
  -- a spot of the device for each module, in site order
  pub spots : length plan.placed.spots ≡ length plan.placed.circuit.modules
  pub on_device : All (IsOnDevice dev) plan.placed.spots
  pub rise : Rises SpotIsBefore plan.placed.spots
  -- the circuit has its sources, and its starts rise by their modules
  pub range : InRange plan.placed.circuit
  pub inits : All (λ (s : Start). s.init ≤ 3) plan.placed.circuit.starts
  pub starts_rise : Rises StartIsBefore plan.placed.circuit.starts
  -- no output is the clock
  pub outputs : All (λ (o : Output). o.source ≢ Clock) plan.placed.circuit.outputs
  pub names : HasNames plan.placed.circuit
  -- a pad for each input and each output
  pub pads : length plan.placed.circuit.inputs + length plan.placed.circuit.outputs ≤ length dev.pads
