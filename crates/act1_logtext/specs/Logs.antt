-- The text of a log: the lines of its steps. The format is this project's own.
use Rattle.std.specs.Prelude.{ℕ, nat_lt, Bool, ◌&&◌, if◌then◌else◌, List, [], ◌∷◌, ◌++◌, length, Option, Result, Ok, Err}
use Rattle.std.specs.List.{AllByRecursion}
use Rattle.act1_base.specs.Texts.{LineRules}
use Rattle.act1_channel.specs.declared.problem.Step.{Step}
use Rattle.act1_table.specs.Formats.{LineFormat, LineSteps, text_of, rules_of}
use Rattle.act1_table.specs.Table.{Form}
use Rattle.act1_table.specs.declared.forms.LineGiven.{LineGiven}
use Rattle.act1_logtext.specs.StepLines.{step_form, step_line, step_of, has_hint, IsStep}

-- what is wrong with a line: all faults are one
abbrev pub Fault : Type 0
Fault = Unit {0}

abbrev pub log_table : List Form
log_table = step_form ∷ []

-- the step that a line of the table says
abbrev pub step_said : LineGiven → Option Step
step_said line = step_of line.words

abbrev pub log_format : LineFormat Step
log_format = record { table = log_table; given_of = step_line 0; line_of = step_said }

-- the one text of a log with these steps
unfoldable pub log_text : List Step → List ℕ
log_text steps = text_of log_format steps

-- each of the steps can be said
abbrev pub AreSteps : List Step → Type 0
AreSteps steps = AllByRecursion IsStep steps

-- with one step more there are fewer than 2^32
abbrev pub has_room : List Step → Bool
has_room steps = nat_lt (length steps) 4294967295

-- a line adds its step, which has a hint, where a log has room for it
abbrev pub add_step : List Step → Step → Result (List Step) Fault
add_step steps s = if has_hint s && has_room steps then Ok (steps ++ s ∷ []) else Err tt

-- a text may end behind each line, and before the first
abbrev pub log_steps : LineSteps Step (List Step) Fault
log_steps = record { start = []; step = add_step; unread = λ steps. tt; unended = λ steps. tt; end = λ steps. Ok steps }

-- the rules by which the text of a log is read
abbrev pub log_rules : LineRules (List Step) Fault
log_rules = rules_of log_format log_steps
