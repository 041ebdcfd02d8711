-- A line of a step as the code reads it: a word at a time, each of which is taken as soon as it is read.
use Rattle.std.specs.Prelude.{ℕ, ◌==◌, Bool, false, if◌then◌else◌, List, [], ◌∷◌, ◌++◌, Option, Some, None, codes}
use Rattle.std.specs.Str.{bytes_eq}
use Rattle.act1_base.specs.Words.{words_of}
use Rattle.act1_channel.specs.declared.problem.Choice.{Choice}
use Rattle.act1_channel.specs.declared.problem.Hint.{Hint}
use Rattle.act1_channel.specs.declared.problem.Step.{Step}
use Rattle.act1_table.specs.Reads.{and_then, read_word, read_fields}
use Rattle.act1_table.specs.declared.forms.Given.{Given}
use Rattle.act1_table.specs.declared.forms.Given.TheVariants as given
use Rattle.act1_logtext.specs.StepLines.{step_words, step_form, choice_of, hint_said, step_of}
use Rattle.act1_logtext.specs.declared.draft.AnswerLine.{AnswerLine}
use Rattle.act1_logtext.specs.declared.draft.AnswerLine.TheVariants as line

-- the step that a line of the form of a step says, if it is of that form and says one
abbrev pub step_on : List ℕ → Option Step
step_on bytes = and_then (read_fields [] step_form.fields step_form.rest (words_of bytes)) step_of

-- the line of an answer that says it
abbrev pub answer_step_on : List ℕ → Option AnswerLine
answer_step_on bytes = and_then (step_on bytes) (λ (step : Step). Some (line.Step step))

-- the word is `step`
abbrev pub is_step : List ℕ → Bool
is_step w = bytes_eq w (codes "step")

-- the first of the words is `step`
abbrev pub begins_step : List (List ℕ) → Bool
begins_step [] = false
begins_step (w ∷ words) = is_step w

-- what a word behind `step` says
unfoldable pub step_word : List ℕ → Option Given
step_word w = read_word step_words w

-- the hint that such a word says, if it says one
abbrev pub hint_in : List ℕ → Option Hint
hint_in w = and_then (step_word w) hint_said

-- the step of these choices, these hints and those that the words say, if each says one
abbrev pub hints_in : List Choice → List Hint → List (List ℕ) → Option Step
hints_in choices hints [] = Some (record { choices = choices; hints = hints })
hints_in choices hints (w ∷ words) = and_then (hint_in w) (λ h. hints_in choices (hints ++ h ∷ []) words)

-- goes on with one choice more, or with the hints behind `:`
abbrev pub with_choice : List Choice → Given → (List Choice → Option Step) → Option Step → Option Step
with_choice choices (given.Name name) more hints = None
with_choice choices (given.Way way numbers) more hints =
    if way == 0 then more (choices ++ choice_of numbers ∷ [])
    else if way == 1 then hints
    else None

-- the step of these choices and what the words say: choices, `:` and hints
abbrev pub choices_in : List Choice → List (List ℕ) → Option Step
choices_in choices [] = None
choices_in choices (w ∷ words) = and_then (step_word w) (λ g. with_choice choices g (λ cs. choices_in cs words) (hints_in choices [] words))
