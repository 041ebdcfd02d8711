-- What is sure of the command `flow`: to which ends it comes, where its searches aren't spent, and where it succeeds.
use Rattle.std.specs.Prelude.{ℕ, ◌≡◌, ◌≢◌, ◌⊎◌, IsTrue}
use Rattle.act1_device.specs.declared.device.Device.{Device}
use Rattle.act1_devread.specs.Text.{DeviceText}
use Rattle.act1_blif.specs.declared.blif.Blif.{Blif}
use Rattle.act1_blifread.specs.Text.{BlifText}
use Rattle.act1_plan.specs.declared.plan.Plan.{Plan}
use Rattle.act1_ample.specs.Ample.{IsAmple}
use Rattle.act1_flow.specs.Realizes.{IsPlanFor}
use Rattle.act1_flow.specs.Sure.{IsEnoughFor}
use Rattle.act1_frame.specs.Clauses.{HasReadFault, HasWriteFault}
use Rattle.act1_frame.specs.Reading.{Found}
use Rattle.act1_frame.specs.World.{World}
use Rattle.act1_words.specs.declared.command.FlowWords.{FlowWords}
use Rattle.act1_top.specs.Files.{file_of}
use Rattle.act1_top.specs.FlowCommand.{flow_reads, flow_writes, settings_of}

-- an antifuse file, or a cause that there is none: pads or sites, long wires, a channel without an assignment, a search that is spent; or want of memory
abbrev pub IsFlowStatus : ℕ → Type 0
IsFlowStatus result = (result ≡ 0) ⊎ ((result ≡ 8) ⊎ ((result ≡ 9) ⊎ ((result ≡ 10) ⊎ ((result ≡ 11) ⊎ (result ≡ 15)))))

-- No search is spent where the budget is at least `(1 + T)^n` for each channel of each plan of the netlist, T the number of its tracks and n that of its connections. On a device that is ample for the netlist the flow is done, or no memory is found, whatever the words and the helpers.
pub record FlowIsSure (words : FlowWords) (dev : Device) (net : Blif) (result : ℕ) : Type 0 where
  pub status : IsFlowStatus result
  pub unspent : ((plan : Plan) → IsPlanFor dev net (settings_of words) plan → IsEnoughFor dev plan words.budget) → result ≢ 11
  pub ample : IsAmple dev net → (result ≡ 0) ⊎ (result ≡ 15)

-- nothing outside stands in the way: the object tells its content, and no fault of files or print was counted
pub record IsUndisturbed (words : FlowWords) (before after : World) : Type 0 where
  pub tells : IsTrue before.shelf.tells
  pub reads : HasReadFault (flow_reads words) before.shelf after.shelf → ⊥
  pub writes : HasWriteFault (flow_writes words) before after → ⊥

-- the bytes under DEVICE and BLIF, within their limits, are the texts of this device and this netlist
pub record AreAccepted (words : FlowWords) (before : World) (dev : Device) (net : Blif) : Type 0 where
  pub device : Found DeviceText before.shelf (file_of words.device) dev
  pub netlist : Found BlifText before.shelf (file_of words.blif) net

-- where both texts are accepted and nothing stands in the way, whatever the helpers
abbrev pub FlowIsComplete : FlowWords → World → ℕ → World → Type 0
FlowIsComplete words before result after = IsUndisturbed words before after → (dev : Device) (net : Blif) → AreAccepted words before dev net → FlowIsSure words dev net result
