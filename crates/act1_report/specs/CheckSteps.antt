-- What the steps of the check of a report answer.
use Rattle.std.specs.Prelude.{List, Result, Ok, Err}
use Rattle.act1_channel.specs.Acceptance.{AreAccepted, IsAccepted, IsFinished}
use Rattle.act1_channel.specs.declared.problem.Problem.{Problem}
use Rattle.act1_channel.specs.declared.problem.Step.{Step}
use Rattle.act1_device.specs.declared.device.Device.{Device}
use Rattle.act1_refute.specs.Verdict.{IsFirstFault}
use Rattle.act1_report.specs.Checks.{Sets, HasNone, IsAcceptedReport, HasFirstFault, IsUnfinished}
use Rattle.act1_report.specs.declared.fault.ReportFault.{ReportFault}
use Rattle.act1_report.specs.declared.fault.ReportFault.TheVariants as fault
use Rattle.act1_report.specs.declared.report.Report.{Report}

-- the problem that the report sets, or that there is none
abbrev pub GivesProblem : Device → Report → Result Problem ReportFault → Type 0
GivesProblem dev r (Ok p) = Sets dev r p
GivesProblem dev r (Err fault.Plan) = HasNone dev r
GivesProblem dev r (Err fault.Memory) = Unit {0}
GivesProblem dev r (Err _) = ⊥

-- the log is accepted for the problem, or this is why it isn't
abbrev pub IsVerdictFor : Problem → List Step → Result (Unit {0}) ReportFault → Type 0
IsVerdictFor p log (Ok _) = IsAccepted p log
IsVerdictFor p log (Err (fault.Step n)) = IsFirstFault p log n
IsVerdictFor p log (Err fault.Unfinished) = AreAccepted p log × (IsFinished log → ⊥)
IsVerdictFor p log (Err fault.Memory) = Unit {0}
IsVerdictFor p log (Err _) = ⊥

-- the report is accepted, or this is why it isn't; want of memory alone is free
abbrev pub IsVerdictOn : Device → Report → Result (Unit {0}) ReportFault → Type 0
IsVerdictOn dev r (Ok _) = IsAcceptedReport dev r
IsVerdictOn dev r (Err (fault.Line number)) = ⊥
IsVerdictOn dev r (Err fault.Plan) = HasNone dev r
IsVerdictOn dev r (Err (fault.Step n)) = HasFirstFault dev r n
IsVerdictOn dev r (Err fault.Unfinished) = IsUnfinished dev r
IsVerdictOn dev r (Err fault.Memory) = Unit {0}
