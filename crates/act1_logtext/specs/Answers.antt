-- The text of an answer of a search: a track for each connection, a refutation, or the number of conflicts at which the search stopped. The format is this project's own.
use Rattle.std.specs.Prelude.{ℕ, ◌≤◌, ◌==◌, if◌then◌else◌, List, [], ◌∷◌, ◌++◌, map, Option, Some, None, codes}
use Rattle.std.specs.List.{AllByRecursion}
use Rattle.act1_base.specs.Capped.{at_most}
use Rattle.act1_channel.specs.declared.problem.Step.{Step}
use Rattle.act1_table.specs.Formats.{LineFormat, text_of}
use Rattle.act1_table.specs.Reads.{and_then}
use Rattle.act1_table.specs.Table.{Form, word, up_to, nothing}
use Rattle.act1_table.specs.Values.{fixed, number, number_at}
use Rattle.act1_table.specs.declared.forms.Given.{Given}
use Rattle.act1_table.specs.declared.forms.LineGiven.{LineGiven}
use Rattle.act1_logtext.specs.Logs.{AreSteps}
use Rattle.act1_logtext.specs.StepLines.{step_form, step_line, step_of}
use Rattle.act1_logtext.specs.declared.answer.Answer.{Answer}
use Rattle.act1_logtext.specs.declared.answer.Answer.TheVariants as answer
use Rattle.act1_logtext.specs.declared.draft.Draft.{Draft}
use Rattle.act1_logtext.specs.declared.draft.Draft.TheVariants as draft
use Rattle.act1_logtext.specs.declared.draft.AnswerLine.{AnswerLine}
use Rattle.act1_logtext.specs.declared.draft.AnswerLine.TheVariants as line

-- `act1 answer 1`
abbrev pub header_form : Form
header_form = record { fields = word (codes "act1") ∷ word (codes "answer") ∷ word (codes "1") ∷ []; rest = nothing }

-- `assigned`
abbrev pub assigned_form : Form
assigned_form = record { fields = word (codes "assigned") ∷ []; rest = nothing }

-- `take TRACK`
abbrev pub take_form : Form
take_form = record { fields = word (codes "take") ∷ up_to 65535 ∷ []; rest = nothing }

-- `refuted`
abbrev pub refuted_form : Form
refuted_form = record { fields = word (codes "refuted") ∷ []; rest = nothing }

-- `spent CONFLICTS`
abbrev pub spent_form : Form
spent_form = record { fields = word (codes "spent") ∷ up_to 18446744073709551615 ∷ []; rest = nothing }

-- `end`
abbrev pub end_form : Form
end_form = record { fields = word (codes "end") ∷ []; rest = nothing }

abbrev pub answer_table : List Form
answer_table = header_form ∷ assigned_form ∷ take_form ∷ refuted_form ∷ step_form ∷ spent_form ∷ end_form ∷ []

-- a fixed word and these numbers
abbrev pub numbers_line : ℕ → List ℕ → LineGiven
numbers_line form numbers = record { form = form; words = fixed ∷ map number numbers }

-- the line of the table that says it
abbrev pub given_of : AnswerLine → LineGiven
given_of line.Header = record { form = 0; words = fixed ∷ fixed ∷ fixed ∷ [] }
given_of line.Assigned = numbers_line 1 []
given_of (line.Take track) = numbers_line 2 (track ∷ [])
given_of line.Refuted = numbers_line 3 []
given_of (line.Step step) = step_line 4 step
given_of (line.Spent conflicts) = numbers_line 5 (conflicts ∷ [])
given_of line.End = numbers_line 6 []

-- the line of a step, if there is one
abbrev pub as_step : List Given → Option AnswerLine
as_step words = and_then (step_of words) (λ (step : Step). Some (line.Step step))

-- what a line of the table says
abbrev pub line_of : LineGiven → Option AnswerLine
line_of given =
    if given.form == 0 then Some line.Header
    else if given.form == 1 then Some line.Assigned
    else if given.form == 2 then Some (line.Take (at_most 65535 (number_at given.words 1)))
    else if given.form == 3 then Some line.Refuted
    else if given.form == 4 then as_step given.words
    else if given.form == 5 then Some (line.Spent (number_at given.words 1))
    else if given.form == 6 then Some line.End
    else None

abbrev pub answer_format : LineFormat AnswerLine
answer_format = record { table = answer_table; given_of = given_of; line_of = line_of }

-- the answer, of whose log only the steps are kept
abbrev pub draft_of : Answer → Draft
draft_of (answer.Assigned tracks) = draft.Assigned tracks
draft_of (answer.Refuted log) = draft.Refuted log.steps
draft_of (answer.Spent conflicts) = draft.Spent conflicts

-- its lines between the first and the last
abbrev pub body_lines : Draft → List AnswerLine
body_lines (draft.Assigned tracks) = line.Assigned ∷ map (λ (track : ℕ). line.Take track) tracks
body_lines (draft.Refuted steps) = line.Refuted ∷ map (λ (step : Step). line.Step step) steps
body_lines (draft.Spent conflicts) = line.Spent conflicts ∷ []

-- all its lines
abbrev pub draft_lines : Draft → List AnswerLine
draft_lines d = line.Header ∷ (body_lines d ++ line.End ∷ [])

-- its one text
unfoldable pub draft_text : Draft → List ℕ
draft_text d = text_of answer_format (draft_lines d)

abbrev pub answer_text : Answer → List ℕ
answer_text a = draft_text (draft_of a)

-- the tracks fit their field
abbrev pub AreTracks : List ℕ → Type 0
AreTracks tracks = AllByRecursion (λ (track : ℕ). track ≤ 65535) tracks

-- a text can say it: all its numbers fit their fields, and each step of its log has a hint
abbrev pub IsAnswer : Answer → Type 0
IsAnswer (answer.Assigned tracks) = AreTracks tracks
IsAnswer (answer.Refuted log) = AreSteps log.steps
IsAnswer (answer.Spent conflicts) = conflicts ≤ 18446744073709551615
