-- What the lines of a report's text do, one after the other.
use Rattle.std.specs.Prelude.{ℕ, List, [], Result, Ok, Err}
use Rattle.act1_base.specs.Texts.{LineRules}
use Rattle.act1_channel.specs.declared.problem.Step.{Step}
use Rattle.act1_logtext.specs.Logs.{add_step}
use Rattle.act1_plan.specs.Steps as plan
use Rattle.act1_plan.specs.declared.line.PlanLine.{PlanLine}
use Rattle.act1_plan.specs.declared.line.PlanState.{PlanState}
use Rattle.act1_plan.specs.declared.line.PlanState.TheVariants as plan_state
use Rattle.act1_report.specs.Lines.{report_format}
use Rattle.act1_report.specs.declared.line.Draft.{Draft}
use Rattle.act1_report.specs.declared.line.ReportLine.{ReportLine}
use Rattle.act1_report.specs.declared.line.ReportLine.TheVariants as line
use Rattle.act1_report.specs.declared.line.ReportState.{ReportState}
use Rattle.act1_report.specs.declared.line.ReportState.TheVariants as state
use Rattle.act1_table.specs.Formats.{LineSteps, rules_of}

-- what is wrong with a line: all faults are one
abbrev pub Fault : Type 0
Fault = Unit {0}

-- the state in which the lines of the plan are so, or what is wrong
abbrev pub as_plan : Result PlanState Fault → Result ReportState Fault
as_plan (Ok s) = Ok (state.Plan s)
as_plan (Err fault) = Err fault

-- what a line of the plan does behind those before it
abbrev pub plan_more : PlanState → PlanLine → Result ReportState Fault
plan_more s l = as_plan (plan.step s l)

-- `channel` comes where the text of a plan may end
abbrev pub with_channel : PlanState → ℕ → Result ReportState Fault
with_channel (plan_state.Body p) channel = Ok (state.Log (record { plan = p; channel = channel; steps = [] }))
with_channel _ _ = Err tt

-- what a line does behind the header or a line of the plan
abbrev pub behind_plan : PlanState → ReportLine → Result ReportState Fault
behind_plan s (line.Plan l) = plan_more s l
behind_plan s (line.Channel channel) = with_channel s channel
behind_plan _ _ = Err tt

-- the report with these steps, or what is wrong
abbrev pub as_log : Draft → Result (List Step) Fault → Result ReportState Fault
as_log d (Ok steps) = Ok (state.Log (record { plan = d.plan; channel = d.channel; steps = steps }))
as_log d (Err fault) = Err fault

-- the steps and one more, which has a hint
abbrev pub with_step : Draft → Step → Result ReportState Fault
with_step d s = as_log d (add_step d.steps s)

-- what a line does behind `channel` or a step
abbrev pub behind_channel : Draft → ReportLine → Result ReportState Fault
behind_channel d (line.Step s) = with_step d s
behind_channel d line.End = Ok (state.End d)
behind_channel _ _ = Err tt

-- what a line does: none comes behind `end`
abbrev pub step : ReportState → ReportLine → Result ReportState Fault
step state.Start line.Header = Ok (state.Plan plan_state.Start)
step (state.Plan s) line = behind_plan s line
step (state.Log d) line = behind_channel d line
step _ _ = Err tt

-- a text ends behind `end`
abbrev pub end : ReportState → Result ReportState Fault
end (state.End d) = Ok (state.End d)
end _ = Err tt

abbrev pub report_steps : LineSteps ReportLine ReportState Fault
report_steps = record { start = state.Start; step = step; unread = λ s. tt; unended = λ s. tt; end = end }

-- the rules by which the text of a report is read
abbrev pub report_rules : LineRules ReportState Fault
report_rules = rules_of report_format report_steps
