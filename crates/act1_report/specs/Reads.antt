-- What the reader of reports answers.
use Rattle.std.specs.Prelude.{ℕ, List, Result, Ok, Err}
use Rattle.act1_base.specs.FirstFault.{IsFirstFaultyLine}
use Rattle.act1_report.specs.Texts.{IsTextOf, IsReportText}
use Rattle.act1_report.specs.declared.fault.ReportFault.{ReportFault}
use Rattle.act1_report.specs.declared.fault.ReportFault.TheVariants.{Line, Memory}
use Rattle.act1_report.specs.declared.report.Report.{Report}

-- the report whose text the bytes are, or their first faulty line; want of memory alone is free
abbrev pub ReportReads : List ℕ → Result Report ReportFault → Type 0
ReportReads bytes (Ok report) = IsTextOf bytes report
ReportReads bytes (Err (Line number)) = IsFirstFaultyLine IsReportText bytes number
ReportReads bytes (Err Memory) = Unit {0}
ReportReads bytes (Err _) = ⊥
