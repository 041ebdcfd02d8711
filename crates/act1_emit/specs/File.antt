-- The antifuse file of a plan whose connections have tracks.
use Rattle.std.specs.Prelude.{ℕ, ◌≡◌, ◌+◌, List, [], ◌∷◌, length, map, slice_index_or, Ok}
use Rattle.act1_device.specs.declared.device.Device.{Device}
use Rattle.act1_circuit.specs.declared.circuit.Start.{Start}
use Rattle.act1_circuit.specs.declared.circuit.Spot.{Spot}
use Rattle.act1_fuses.specs.declared.fuses.FuseFile.{FuseFile}
use Rattle.act1_fuses.specs.declared.fuses.Port.{Port}
use Rattle.act1_fuses.specs.declared.fuses.StartAt.{StartAt}
use Rattle.act1_fuses.specs.Array.{Sound, IsCircuitOf}
use Rattle.act1_fuses.specs.Rules.{KeepsRules}
use Rattle.act1_plan.specs.declared.plan.Plan.{Plan}
use Rattle.act1_plan.specs.Legal.{Legal, output_names}
use Rattle.act1_groute.specs.declared.wiring.Wiring.{Wiring}
use Rattle.act1_groute.specs.Emitted.{Emitted, AreAssigned}
use Rattle.act1_groute.specs.Routes.{routes}
use Rattle.act1_emit.specs.Drivers.{AllDrive}

-- the plan has tracks: it is legal, each of its modules is the source of some pin or output, these are its connections, and the tracks assign the problem of each channel
pub record HasTracks (dev : Device) (plan : Plan) (channels : List (List Wiring)) (tracks : List (List ℕ)) : Type 0 where
  pub legal : Legal dev plan
  pub drive : AllDrive plan.placed.circuit
  pub routed : routes dev plan ≡ Ok channels
  pub assigned : AreAssigned dev plan.k channels tracks

-- the names have the pads from this number on
abbrev pub ports_from : ℕ → List (List ℕ) → List Port
ports_from pad [] = []
ports_from pad (name ∷ names) = (record { pad = pad; name = name }) ∷ ports_from (pad + 1) names

-- the start of a latch at the spot of its module
abbrev pub start_at : List Spot → Start → StartAt
start_at spots s = record { spot = slice_index_or spots s.module (record { row = 0; column = 0 }); init = s.init; name = s.name }

-- all but the sites is the plan's: the inputs and then the outputs have the first pads, and the starts stand at the spots of their modules
pub record IsHeadOf (dev : Device) (plan : Plan) (f : FuseFile) : Type 0 where
  pub device : f.device ≡ dev.name
  pub clock : f.clock ≡ plan.placed.circuit.clock
  pub ins : f.ins ≡ ports_from 0 plan.placed.circuit.inputs
  pub outs : f.outs ≡ ports_from (length plan.placed.circuit.inputs) (output_names plan.placed.circuit)
  pub starts : f.starts ≡ map (start_at plan.placed.spots) plan.placed.circuit.starts

-- the file of the plan: its sites are those of the constants, of the clock and of the connections on their tracks
pub record IsFileOf (dev : Device) (plan : Plan) (channels : List (List Wiring)) (tracks : List (List ℕ)) (f : FuseFile) : Type 0 where
  pub head : IsHeadOf dev plan f
  pub sites : Emitted dev plan channels tracks f.sites

-- the file is the plan's and keeps the rules of its device; its array is sound, and its circuit is the plan's
pub record Realizes (dev : Device) (plan : Plan) (channels : List (List Wiring)) (tracks : List (List ℕ)) (f : FuseFile) : Type 0 where
  pub file : IsFileOf dev plan channels tracks f
  pub rules : KeepsRules dev f
  pub sound : Sound dev f
  pub circuit : IsCircuitOf plan.placed dev f

-- the file of a plan that has tracks does
abbrev pub FilesRealize : Type 0
FilesRealize = (dev : Device) (plan : Plan) (channels : List (List Wiring)) (tracks : List (List ℕ)) (f : FuseFile) → HasTracks dev plan channels tracks → IsFileOf dev plan channels tracks f → Realizes dev plan channels tracks f
