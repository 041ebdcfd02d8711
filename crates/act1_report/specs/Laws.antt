-- The laws of the texts of reports, and of their check.
use Rattle.std.specs.Prelude.{ℕ, ◌≡◌, ◌≢◌, List, Result, Err}
use Rattle.act1_base.specs.FirstFault.{IsFirstFaultyLine}
use Rattle.act1_device.specs.declared.device.Device.{Device}
use Rattle.act1_report.specs.Checks.{ReportChecks}
use Rattle.act1_report.specs.Texts.{IsTextOf, IsReportText}
use Rattle.act1_report.specs.declared.fault.ReportFault.{ReportFault}
use Rattle.act1_report.specs.declared.fault.ReportFault.TheVariants.{Memory}
use Rattle.act1_report.specs.declared.report.Report.{Report}

-- the bytes are the text of one report at most
abbrev pub OneReport : Type 0
OneReport = (bytes : List ℕ) (one other : Report) → IsTextOf bytes one → IsTextOf bytes other → one ≡ other

-- the text of a report has no faulty line
abbrev pub NeverBoth : Type 0
NeverBoth = (bytes : List ℕ) (report : Report) (number : ℕ) → IsTextOf bytes report → IsFirstFaultyLine IsReportText bytes number → ⊥

-- bytes have one answer for a device, but for want of memory
abbrev pub OneAnswer : Type 0
OneAnswer = (dev : Device) (bytes : List ℕ) (answer other : Result (Unit {0}) ReportFault)
    → answer ≢ Err Memory → other ≢ Err Memory → ReportChecks dev bytes answer → ReportChecks dev bytes other → answer ≡ other
