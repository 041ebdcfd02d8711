-- A line of a step in a report, as the code reads it.
use Rattle.std.specs.Prelude.{ℕ, List, Option, Some}
use Rattle.act1_channel.specs.declared.problem.Step.{Step}
use Rattle.act1_logtext.specs.ReadSteps.{step_on}
use Rattle.act1_report.specs.declared.line.ReportLine.{ReportLine}
use Rattle.act1_report.specs.declared.line.ReportLine.TheVariants as line
use Rattle.act1_table.specs.Reads.{and_then}

-- the line of a report that says the step of a line, if the line says one
abbrev pub report_step_on : List ℕ → Option ReportLine
report_step_on bytes = and_then (step_on bytes) (λ (step : Step). Some (line.Step step))
