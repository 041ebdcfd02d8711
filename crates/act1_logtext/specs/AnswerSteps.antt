-- What the lines of an answer's text do, one after the other.
use Rattle.std.specs.Prelude.{ℕ, ◌<◌, ◌^◌, List, [], ◌∷◌, ◌++◌, length, Result, Ok, Err}
use Rattle.act1_base.specs.Texts.{LineRules}
use Rattle.act1_channel.specs.declared.problem.Step.{Step}
use Rattle.act1_table.specs.Formats.{LineSteps, rules_of}
use Rattle.act1_logtext.specs.Answers.{answer_format}
use Rattle.act1_logtext.specs.Logs.{Fault, add_step}
use Rattle.act1_logtext.specs.declared.draft.Draft.{Draft}
use Rattle.act1_logtext.specs.declared.draft.Draft.TheVariants as draft
use Rattle.act1_logtext.specs.declared.draft.AnswerLine.{AnswerLine}
use Rattle.act1_logtext.specs.declared.draft.AnswerLine.TheVariants as line
use Rattle.act1_logtext.specs.declared.draft.AnswerState.{AnswerState}
use Rattle.act1_logtext.specs.declared.draft.AnswerState.TheVariants as state

-- what a line does behind the header
abbrev pub header_step : AnswerLine → Result AnswerState Fault
header_step line.Assigned = Ok (state.Body (draft.Assigned []))
header_step line.Refuted = Ok (state.Body (draft.Refuted []))
header_step (line.Spent conflicts) = Ok (state.Body (draft.Spent conflicts))
header_step _ = Err tt

-- the tracks and one more
abbrev pub with_track : Draft → ℕ → Result AnswerState Fault
with_track (draft.Assigned tracks) track = Ok (state.Body (draft.Assigned (tracks ++ track ∷ [])))
with_track _ _ = Err tt

-- these steps, or what is wrong
abbrev pub as_refuted : Result (List Step) Fault → Result AnswerState Fault
as_refuted (Ok steps) = Ok (state.Body (draft.Refuted steps))
as_refuted (Err fault) = Err fault

-- the steps and one more, which has a hint
abbrev pub with_step : Draft → Step → Result AnswerState Fault
with_step (draft.Refuted steps) s = as_refuted (add_step steps s)
with_step _ _ = Err tt

-- what a line does behind those
abbrev pub body_step : Draft → AnswerLine → Result AnswerState Fault
body_step d (line.Take track) = with_track d track
body_step d (line.Step s) = with_step d s
body_step d line.End = Ok (state.End d)
body_step _ _ = Err tt

-- what a line does: none comes behind `end`
abbrev pub step : AnswerState → AnswerLine → Result AnswerState Fault
step state.Start line.Header = Ok state.Header
step state.Header line = header_step line
step (state.Body d) line = body_step d line
step _ _ = Err tt

-- a text ends behind `end`
abbrev pub end : AnswerState → Result AnswerState Fault
end (state.End d) = Ok (state.End d)
end _ = Err tt

abbrev pub answer_steps : LineSteps AnswerLine AnswerState Fault
answer_steps = record { start = state.Start; step = step; unread = λ s. tt; unended = λ s. tt; end = end }

-- the rules by which the text of an answer is read
abbrev pub answer_rules : LineRules AnswerState Fault
answer_rules = rules_of answer_format answer_steps

-- its steps are those of a log
abbrev pub IsFew : Draft → Type 0
IsFew (draft.Assigned tracks) = Unit {0}
IsFew (draft.Refuted steps) = length steps < 2 ^ 32
IsFew (draft.Spent conflicts) = Unit {0}
