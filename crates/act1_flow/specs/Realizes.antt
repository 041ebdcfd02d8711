-- When an antifuse file realizes a netlist on a device, and what its plan is.
use Rattle.std.specs.Prelude.{ℕ, ◌≡◌, ◌≤◌, List, length, Ok}
use Rattle.act1_blif.specs.declared.blif.Blif.{Blif}
use Rattle.act1_blif.specs.Need.{need}
use Rattle.act1_map.specs.Least.{IsLeast}
use Rattle.act1_device.specs.declared.device.Device.{Device}
use Rattle.act1_device.specs.declared.device.Site.{Site}
use Rattle.act1_circuit.specs.declared.circuit.Placed.{Placed}
use Rattle.act1_circuit.specs.PairForm.{IsPairForm}
use Rattle.act1_meaning.specs.ArrayNames.{IsClash}
use Rattle.act1_meaning.specs.Meaning.{Means}
use Rattle.act1_plan.specs.declared.plan.Plan.{Plan}
use Rattle.act1_plan.specs.Legal.{Legal}
use Rattle.act1_place.specs.Passes.{IsStable}
use Rattle.act1_planned.specs.Placed.{AllAreSources, IsPlacedBy}
use Rattle.act1_groute.specs.declared.wiring.Wiring.{Wiring}
use Rattle.act1_groute.specs.Emitted.{Emitted, AreAssigned}
use Rattle.act1_groute.specs.Routes.{routes}
use Rattle.act1_fuses.specs.declared.fuses.FuseFile.{FuseFile}
use Rattle.act1_fuses.specs.Rules.{KeepsRules}
use Rattle.act1_fuses.specs.Array.{Sound, IsCircuitOf}
use Rattle.act1_flow.specs.declared.answer.Settings.{Settings}

-- at most the least count of the netlist, which is never more than its need
pub record IsFew (net : Blif) (count : ℕ) : Type 0 where
  pub least : ℕ
  pub is : IsLeast net least
  pub few : count ≤ least
  pub needed : least ≤ need net

-- a plan of the netlist. It is legal for the device and has the k of the settings. Its circuit is in pair form and means the netlist, in every order of firing, with at most the least count of modules, each of which is the source of some pin or output; no output has the name of an input or a latch but another source. The modules have a numbering under which they stand where the passes from the seeded start leave them, and the placement is stable
pub record IsPlanFor (dev : Device) (net : Blif) (settings : Settings) (plan : Plan) : Type 0 where
  pub legal : Legal dev plan
  pub k_is : plan.k ≡ settings.k
  pub form : IsPairForm plan.placed.circuit
  pub means : Means plan.placed.circuit net
  pub few : IsFew net (length plan.placed.circuit.modules)
  pub read : AllAreSources plan.placed.circuit
  pub clear : (i : ℕ) → IsClash plan.placed.circuit i → ⊥
  pub placed : IsPlacedBy dev settings.seed plan.placed
  pub stable : IsStable dev plan.placed.circuit plan.placed.spots

-- the sites are those of the plan's routes, on tracks that assign the problem of each channel
pub record IsEmission (dev : Device) (plan : Plan) (sites : List Site) : Type 0 where
  pub channels : List (List Wiring)
  pub tracks : List (List ℕ)
  pub routed : routes dev plan ≡ Ok channels
  pub assigned : AreAssigned dev plan.k channels tracks
  pub emitted : Emitted dev plan channels tracks sites

-- the plan of a placed circuit with these settings
abbrev pub plan_with : Device → Settings → Placed → Plan
plan_with dev settings placed = record { device = dev.name; k = settings.k; placed = placed }

-- the antifuse file alone makes a circuit of the device that drives no wire twice and means the netlist
pub record Realizes (dev : Device) (net : Blif) (settings : Settings) (f : FuseFile) (modules : ℕ) : Type 0 where
  -- it is a file of the device
  pub keeps : KeepsRules dev f
  -- its array drives no wire twice and leaves nothing open
  pub sound : Sound dev f
  -- its array is this circuit
  pub array : Placed
  pub is : IsCircuitOf array dev f
  -- the plan of this circuit is one of the netlist, and the antifuses are those of its routes
  pub plan : IsPlanFor dev net settings (plan_with dev settings array)
  pub emission : IsEmission dev (plan_with dev settings array) f.sites
  -- the array uses so many modules
  pub count : modules ≡ length array.circuit.modules
