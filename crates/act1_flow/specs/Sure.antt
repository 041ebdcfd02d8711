-- What is sure of the flow: where its searches aren't spent, that it succeeds on an ample device, and that what it gives can be extracted.
use Rattle.std.specs.Prelude.{ℕ, ◌≡◌, ◌+◌, ◌^◌, ◌≤◌, ◌⊎◌, List, length, Result, Ok, Err}
use Rattle.act1_blif.specs.declared.blif.Blif.{Blif}
use Rattle.act1_device.specs.declared.device.Device.{Device}
use Rattle.act1_channel.specs.declared.problem.Problem.{Problem}
use Rattle.act1_plan.specs.declared.plan.Plan.{Plan}
use Rattle.act1_groute.specs.declared.wiring.Wiring.{Wiring}
use Rattle.act1_groute.specs.Routes.{routes}
use Rattle.act1_ample.specs.Ample.{IsAmple}
use Rattle.act1_extract.specs.declared.fault.ExtractFault.{ExtractFault}
use Rattle.act1_extract.specs.Gives.{ExtractGives}
use Rattle.act1_extract.specs.Laws.{IsNetOrMemory}
use Rattle.act1_flow.specs.declared.answer.FlowStop.{FlowStop}
use Rattle.act1_flow.specs.declared.answer.FlowStop.TheVariants as stop
use Rattle.act1_flow.specs.declared.answer.Routed.{Routed}
use Rattle.act1_flow.specs.declared.answer.Settings.{Settings}
use Rattle.act1_flow.specs.Flow.{FlowGives, IsProblemAt}
use Rattle.act1_flow.specs.Helping.{Helping}

-- an antifuse file, or want of memory
abbrev pub IsRoutedOrMemory : Result Routed FlowStop → Type 0
IsRoutedOrMemory r = ((routed : Routed) × (r ≡ Ok routed)) ⊎ (r ≡ Err stop.Memory)

-- the budget is at least (1 + T)^n for each channel of the plan, T the number of its tracks and n that of its connections
abbrev pub IsEnoughFor : Device → Plan → ℕ → Type 0
IsEnoughFor dev plan budget = (channels : List (List Wiring)) (h : ℕ) (p : Problem) → routes dev plan ≡ Ok channels → IsProblemAt dev plan channels h p → (1 + length p.tracks) ^ length p.connections ≤ budget

-- the answer isn't that a search is spent though the budget is enough for its plan
abbrev pub IsUnspent : Device → ℕ → Result Routed FlowStop → Type 0
IsUnspent dev budget (Err (stop.Spent plan channel conflicts tracks connections tally)) = IsEnoughFor dev plan budget → ⊥
IsUnspent dev budget _ = Unit {0}

-- the extraction of the antifuse file answers a netlist, or finds no memory
abbrev pub IsExtractable : Device → Result Routed FlowStop → Type 0
IsExtractable dev (Ok routed) = (answer : Result Blif ExtractFault) → ExtractGives dev routed.fuses answer → IsNetOrMemory answer
IsExtractable dev (Err why) = Unit {0}

-- on a device that is ample for the netlist the flow gives an antifuse file or finds no memory, whatever its settings and helpers
abbrev pub FlowSucceeds : Type 0
FlowSucceeds = (dev : Device) (net : Blif) (settings : Settings) (helping : Helping) (r : Result Routed FlowStop) → IsAmple dev net → FlowGives dev net settings helping r → IsRoutedOrMemory r

-- where the budget is enough for a plan, the flow doesn't answer that a search of it is spent
abbrev pub FlowIsNotSpent : Type 0
FlowIsNotSpent = (dev : Device) (net : Blif) (settings : Settings) (helping : Helping) (r : Result Routed FlowStop) → FlowGives dev net settings helping r → IsUnspent dev settings.budget r

-- each antifuse file that the flow gives is extracted
abbrev pub FlowIsExtracted : Type 0
FlowIsExtracted = (dev : Device) (net : Blif) (settings : Settings) (helping : Helping) (r : Result Routed FlowStop) → FlowGives dev net settings helping r → IsExtractable dev r
