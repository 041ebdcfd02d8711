-- What the check of a report answers: whether the channel of its plan has no assignment, by its log.
use Rattle.std.specs.Prelude.{ℕ, ◌≡◌, List, slice_get, Some, Result, Ok, Err}
use Rattle.act1_base.specs.FirstFault.{IsFirstFaultyLine}
use Rattle.act1_channel.specs.Acceptance.{AreAccepted, IsAccepted, IsFinished}
use Rattle.act1_channel.specs.declared.problem.Problem.{Problem}
use Rattle.act1_device.specs.declared.device.Device.{Device}
use Rattle.act1_groute.specs.Routes.{routes, IsProblemOf}
use Rattle.act1_groute.specs.declared.wiring.Wiring.{Wiring}
use Rattle.act1_plan.specs.Legal.{Legal}
use Rattle.act1_refute.specs.Verdict.{IsFirstFault, HasNoAssignment}
use Rattle.act1_report.specs.Texts.{IsTextOf, IsReportText}
use Rattle.act1_report.specs.declared.fault.ReportFault.{ReportFault}
use Rattle.act1_report.specs.declared.fault.ReportFault.TheVariants as fault
use Rattle.act1_report.specs.declared.report.Report.{Report}

-- the plan is legal for the device and has routes, and these are the connections of the report's channel
pub record HasConnections (dev : Device) (r : Report) (ws : List Wiring) : Type 0 where
  pub legal : Legal dev r.plan
  pub channels : List (List Wiring)
  pub routed : routes dev r.plan ≡ Ok channels
  pub at : slice_get channels r.channel ≡ Some ws

-- .. and this is the problem of that channel, with the k of the plan
pub record Sets (dev : Device) (r : Report) (p : Problem) : Type 0 where
  pub wirings : List Wiring
  pub has : HasConnections dev r wirings
  pub is : IsProblemOf dev r.plan.k r.channel wirings p

-- there are no such connections: the plan isn't legal, its routes fail, or there is no such channel
abbrev pub HasNone : Device → Report → Type 0
HasNone dev r = (ws : List Wiring) → HasConnections dev r ws → ⊥

-- the report's log is accepted for its problem
abbrev pub IsAcceptedReport : Device → Report → Type 0
IsAcceptedReport dev r = (p : Problem) × Sets dev r p × IsAccepted p r.log.steps

-- the first step of its log that isn't accepted
abbrev pub HasFirstFault : Device → Report → ℕ → Type 0
HasFirstFault dev r n = (p : Problem) × Sets dev r p × IsFirstFault p r.log.steps n

-- all steps of its log are accepted, and no last empty one stands
abbrev pub IsUnfinished : Device → Report → Type 0
IsUnfinished dev r = (p : Problem) × Sets dev r p × AreAccepted p r.log.steps × (IsFinished r.log.steps → ⊥)

-- the bytes are the text of a report of which the property holds
abbrev pub IsTextWith : List ℕ → (Report → Type 0) → Type 0
IsTextWith bytes Has = (r : Report) × IsTextOf bytes r × Has r

-- the bytes are the text of a report that is accepted, or this is why they aren't
abbrev pub ReportChecks : Device → List ℕ → Result (Unit {0}) ReportFault → Type 0
ReportChecks dev bytes (Ok _) = IsTextWith bytes (IsAcceptedReport dev)
ReportChecks dev bytes (Err (fault.Line number)) = IsFirstFaultyLine IsReportText bytes number
ReportChecks dev bytes (Err fault.Plan) = IsTextWith bytes (HasNone dev)
ReportChecks dev bytes (Err (fault.Step n)) = IsTextWith bytes (λ r. HasFirstFault dev r n)
ReportChecks dev bytes (Err fault.Unfinished) = IsTextWith bytes (IsUnfinished dev)
ReportChecks dev bytes (Err fault.Memory) = Unit {0}

-- the problem that a report sets whose text the bytes are has no assignment
abbrev pub Refutes : Device → List ℕ → Type 0
Refutes dev bytes = (r : Report) (p : Problem) → IsTextOf bytes r → Sets dev r p → HasNoAssignment p
