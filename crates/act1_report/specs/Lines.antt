-- The lines of the text of a report, as a table: those of a plan, of a log, and its own. The format is this project's own.
use Rattle.std.specs.Prelude.{◌==◌, if◌then◌else◌, List, [], ◌∷◌, ◌++◌, map, Option, Some, codes}
use Rattle.act1_base.specs.Capped.{at_most}
use Rattle.act1_channel.specs.declared.problem.Step.{Step}
use Rattle.act1_logtext.specs.StepLines.{step_form, step_line, step_of}
use Rattle.act1_plan.specs.Lines as plan
use Rattle.act1_plan.specs.Lines.{device_form, k_form, clock_form, input_form, output_form, start_form, module_form, plan_lines}
use Rattle.act1_plan.specs.declared.line.PlanLine.{PlanLine}
use Rattle.act1_report.specs.declared.line.Draft.{Draft}
use Rattle.act1_report.specs.declared.line.ReportLine.{ReportLine}
use Rattle.act1_report.specs.declared.line.ReportLine.TheVariants as line
use Rattle.act1_table.specs.Formats.{LineFormat}
use Rattle.act1_table.specs.Reads.{and_then}
use Rattle.act1_table.specs.Table.{Form, word, up_to, nothing}
use Rattle.act1_table.specs.Values.{fixed, number, number_at}
use Rattle.act1_table.specs.declared.forms.Given.{Given}
use Rattle.act1_table.specs.declared.forms.LineGiven.{LineGiven}

-- `act1 report 1`
abbrev pub header_form : Form
header_form = record { fields = word (codes "act1") ∷ word (codes "report") ∷ word (codes "1") ∷ []; rest = nothing }

-- `channel N`
abbrev pub channel_form : Form
channel_form = record { fields = word (codes "channel") ∷ up_to 255 ∷ []; rest = nothing }

-- `end`
abbrev pub end_form : Form
end_form = record { fields = word (codes "end") ∷ []; rest = nothing }

-- the forms of a plan, the header, `channel`, the form of a step, and `end`
abbrev pub report_table : List Form
report_table =
    device_form ∷ k_form ∷ clock_form ∷ input_form ∷ output_form ∷ start_form ∷ module_form
    ∷ header_form ∷ channel_form ∷ step_form ∷ end_form ∷ []

-- the line of the table that says it
abbrev pub given_of : ReportLine → LineGiven
given_of line.Header = record { form = 7; words = fixed ∷ fixed ∷ fixed ∷ [] }
given_of (line.Plan l) = plan.given_of l
given_of (line.Channel channel) = record { form = 8; words = fixed ∷ number channel ∷ [] }
given_of (line.Step step) = step_line 9 step
given_of line.End = record { form = 10; words = fixed ∷ [] }

-- the line of a step, if there is one
abbrev pub as_step : List Given → Option ReportLine
as_step words = and_then (step_of words) (λ (step : Step). Some (line.Step step))

-- the line of the plan, if there is one
abbrev pub as_plan : LineGiven → Option ReportLine
as_plan given = and_then (plan.line_of given) (λ (l : PlanLine). Some (line.Plan l))

-- what a line of the table says
abbrev pub line_of : LineGiven → Option ReportLine
line_of given =
    if given.form == 7 then Some line.Header
    else if given.form == 8 then Some (line.Channel (at_most 255 (number_at given.words 1)))
    else if given.form == 9 then as_step given.words
    else if given.form == 10 then Some line.End
    else as_plan given

abbrev pub report_format : LineFormat ReportLine
report_format = record { table = report_table; given_of = given_of; line_of = line_of }

abbrev pub plan_part : List PlanLine → List ReportLine
plan_part lines = map (λ (l : PlanLine). line.Plan l) lines

abbrev pub step_part : List Step → List ReportLine
step_part steps = map (λ (step : Step). line.Step step) steps

-- the lines of a report but for the last
abbrev pub open_lines : Draft → List ReportLine
open_lines d = line.Header ∷ (plan_part (plan_lines d.plan) ++ line.Channel d.channel ∷ step_part d.steps)

-- all its lines
abbrev pub draft_lines : Draft → List ReportLine
draft_lines d = open_lines d ++ line.End ∷ []
