-- What the lines of a job's text do, one after the other.
use Rattle.std.specs.Prelude.{ℕ, Bool, true, false, ◌&&◌, nat_lt, List, [], ◌∷◌, ◌++◌, length, Result, Ok, Err}
use Rattle.act1_base.specs.Texts.{LineRules}
use Rattle.act1_table.specs.Formats.{LineSteps, rules_of}
use Rattle.act1_channel.specs.Ranges.{is_within, is_connection}
use Rattle.act1_channel.specs.declared.problem.Connection.{Connection}
use Rattle.act1_job.specs.Jobs.{are_breaks, is_budget}
use Rattle.act1_job.specs.Lines.{job_format}
use Rattle.act1_job.specs.declared.draft.Draft.{Draft}
use Rattle.act1_job.specs.declared.line.JobLine.{JobLine}
use Rattle.act1_job.specs.declared.line.JobLine.TheVariants as line
use Rattle.act1_job.specs.declared.line.JobState.{JobState}
use Rattle.act1_job.specs.declared.line.JobState.TheVariants as state

-- what is wrong with a line: all faults are one
abbrev pub Fault : Type 0
Fault = Unit {0}

-- the state, if the test was passed
abbrev pub if_so : Bool → JobState → Result JobState Fault
if_so true s = Ok s
if_so false s = Err tt

-- a draft without tracks and connections
abbrev pub empty_draft : ℕ → ℕ → ℕ → Draft
empty_draft columns k budget = record { columns = columns; k = k; budget = budget; tracks = []; connections = [] }

abbrev pub with_track : Draft → List ℕ → Draft
with_track d breaks = record d { tracks = d.tracks ++ breaks ∷ [] }

abbrev pub with_connection : Draft → Connection → Draft
with_connection d connection = record d { connections = d.connections ++ connection ∷ [] }

abbrev pub is_empty : {A : Type 0} → List A → Bool
is_empty [] = true
is_empty (x ∷ xs) = false

-- tracks come before all connections, and there are at most 64
abbrev pub takes_track : Draft → List ℕ → Bool
takes_track d breaks = is_empty d.connections && (nat_lt (length d.tracks) 64 && are_breaks d.columns breaks)

-- connections come behind a track, and there are at most 8,192
abbrev pub takes_connection : Draft → Connection → Bool
takes_connection d connection = nat_lt 0 (length d.tracks) && (nat_lt (length d.connections) 8192 && is_connection d.columns connection)

-- what a line does behind `budget`
abbrev pub body_step : Draft → JobLine → Result JobState Fault
body_step d (line.Track breaks) = if_so (takes_track d breaks) (state.Body (with_track d breaks))
body_step d (line.Connection connection) = if_so (takes_connection d connection) (state.Body (with_connection d connection))
body_step d line.End = if_so (nat_lt 0 (length d.tracks)) (state.End d)
body_step d _ = Err tt

-- what a line does: those up to `budget` come in their order, and none comes behind `end`
abbrev pub step : JobState → JobLine → Result JobState Fault
step state.Start line.Header = Ok state.Header
step state.Header (line.Columns columns) = if_so (is_within 2 64 columns) (state.Columns columns)
step (state.Columns columns) (line.K k) = if_so (is_within 1 64 k) (state.K columns k)
step (state.K columns k) (line.Budget budget) = if_so (is_budget budget) (state.Body (empty_draft columns k budget))
step (state.Body d) line = body_step d line
step _ _ = Err tt

-- a text ends behind `end`
abbrev pub end : JobState → Result JobState Fault
end (state.End d) = Ok (state.End d)
end _ = Err tt

abbrev pub job_steps : LineSteps JobLine JobState Fault
job_steps = record { start = state.Start; step = step; unread = λ s. tt; unended = λ s. tt; end = end }

-- the rules by which the text of a job is read
abbrev pub job_rules : LineRules JobState Fault
job_rules = rules_of job_format job_steps
