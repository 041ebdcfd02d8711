-- A line of a log: `step`, the choices, `:` and the hints. Logs, answers and reports have such lines. The format is this project's own.
use Rattle.std.specs.Prelude.{ℕ, ◌≢◌, ◌≤◌, ◌==◌, Bool, true, false, if◌then◌else◌, List, [], ◌∷◌, ◌++◌, map, Option, Some, None, codes, slice_get}
use Rattle.std.specs.List.{AllByRecursion}
use Rattle.act1_base.specs.Capped.{at_most}
use Rattle.act1_channel.specs.declared.problem.Choice.{Choice}
use Rattle.act1_channel.specs.declared.problem.Hint.{Hint}
use Rattle.act1_channel.specs.declared.problem.Hint.TheVariants as hint
use Rattle.act1_channel.specs.declared.problem.Step.{Step}
use Rattle.act1_table.specs.Reads.{and_then}
use Rattle.act1_table.specs.Table.{Text, Number, Field, OneOf, Form, word}
use Rattle.act1_table.specs.Values.{fixed}
use Rattle.act1_table.specs.declared.forms.Given.{Given}
use Rattle.act1_table.specs.declared.forms.Given.TheVariants as given
use Rattle.act1_table.specs.declared.forms.Limit.TheVariants.{Most}
use Rattle.act1_table.specs.declared.forms.LineGiven.{LineGiven}

-- `C@T`, `:`, `aC`, `xC,D@T` and `sN`
abbrev pub step_words : Field
step_words =
    OneOf (
    (Number (Most 65535) ∷ Text (codes "@") ∷ Number (Most 255) ∷ [])
    ∷ (Text (codes ":") ∷ [])
    ∷ (Text (codes "a") ∷ Number (Most 65535) ∷ [])
    ∷ (Text (codes "x") ∷ Number (Most 65535) ∷ Text (codes ",") ∷ Number (Most 65535) ∷ Text (codes "@") ∷ Number (Most 255) ∷ [])
    ∷ (Text (codes "s") ∷ Number (Most 4294967295) ∷ [])
    ∷ [])

-- `step` and such words
abbrev pub step_form : Form
step_form = record { fields = word (codes "step") ∷ []; rest = step_words }

-- the word of a choice, of `:` and of a hint
abbrev pub choice_given : Choice → Given
choice_given c = given.Way 0 (c.connection ∷ c.track ∷ [])

abbrev pub colon_given : Given
colon_given = given.Way 1 []

abbrev pub hint_given : Hint → Given
hint_given (hint.AtLeast c) = given.Way 2 (c ∷ [])
hint_given (hint.Clash c d t) = given.Way 3 (c ∷ d ∷ t ∷ [])
hint_given (hint.Step n) = given.Way 4 (n ∷ [])

-- the words of the line that says a step
abbrev pub step_given : Step → List Given
step_given s = fixed ∷ (map choice_given s.choices ++ colon_given ∷ map hint_given s.hints)

-- and the line, where its form has this number
abbrev pub step_line : ℕ → Step → LineGiven
step_line form s = record { form = form; words = step_given s }

-- the numbers of a choice, and of a hint, fit their fields
abbrev pub IsChoice : Choice → Type 0
IsChoice c = (c.connection ≤ 65535) × (c.track ≤ 255)

abbrev pub IsHint : Hint → Type 0
IsHint (hint.AtLeast c) = c ≤ 65535
IsHint (hint.Clash c d t) = (c ≤ 65535) × (d ≤ 65535) × (t ≤ 255)
IsHint (hint.Step n) = n ≤ 4294967295

abbrev pub is_some : List Hint → Bool
is_some [] = false
is_some (h ∷ hints) = true

-- there is a hint
abbrev pub has_hint : Step → Bool
has_hint s = is_some s.hints

-- a line of a log can say the step: all its numbers fit, and it has a hint
pub record IsStep (s : Step) : Type 0 where
  pub choices : AllByRecursion IsChoice s.choices
  pub hints : AllByRecursion IsHint s.hints
  pub some : s.hints ≢ []

-- the number at a place, or the most where it is greater
abbrev pub number_or : ℕ → Option ℕ → ℕ
number_or most None = 0
number_or most (Some n) = at_most most n

abbrev pub most_at : ℕ → List ℕ → ℕ → ℕ
most_at most numbers i = number_or most (slice_get numbers i)

-- the choice of these numbers
abbrev pub choice_of : List ℕ → Choice
choice_of numbers = record { connection = most_at 65535 numbers 0; track = most_at 255 numbers 1 }

-- the clash of these numbers
abbrev pub clash_of : List ℕ → Hint
clash_of numbers = hint.Clash (most_at 65535 numbers 0) (most_at 65535 numbers 1) (most_at 255 numbers 2)

-- the hint of the way of this number, with these numbers
abbrev pub hint_of : ℕ → List ℕ → Option Hint
hint_of way numbers =
    if way == 2 then Some (hint.AtLeast (most_at 65535 numbers 0))
    else if way == 3 then Some (clash_of numbers)
    else if way == 4 then Some (hint.Step (most_at 4294967295 numbers 0))
    else None

-- the hint that a word says, if it says one
abbrev pub hint_said : Given → Option Hint
hint_said (given.Name name) = None
hint_said (given.Way way numbers) = hint_of way numbers

-- the step of these choices, these hints and those that the words say, if each says one
abbrev pub hints_on : List Choice → List Hint → List Given → Option Step
hints_on choices hints [] = Some (record { choices = choices; hints = hints })
hints_on choices hints (w ∷ words) = and_then (hint_said w) (λ h. hints_on choices (hints ++ h ∷ []) words)

-- the step of these choices and what the words say: choices, `:` and hints
abbrev pub choices_on : List Choice → List Given → Option Step
choices_on choices [] = None
choices_on choices (given.Name name ∷ words) = None
choices_on choices (given.Way way numbers ∷ words) =
    if way == 0 then choices_on (choices ++ choice_of numbers ∷ []) words
    else if way == 1 then hints_on choices [] words
    else None

-- the step that the words of a line say, if they say one
abbrev pub step_of : List Given → Option Step
step_of [] = None
step_of (first ∷ words) = choices_on [] words
