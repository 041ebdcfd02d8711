-- A line of a step that is read a word at a time says the step that its words say together.
use Rattle.std.proofs.Common.{ℕ, ◌≡◌, ◌==◌, Bool, true, false, cond, List, [], ◌∷◌, ◌++◌, Option, Some, None, codes, refl, sym, ap, ◌∙◌, append_assoc, append-nil}
use Rattle.std.proofs.lemmas.Slice.Eq.{bytes_eq-Decides}
use Rattle.act1_base.specs.Words.{words_of}
use Rattle.act1_channel.specs.declared.problem.Choice.{Choice}
use Rattle.act1_channel.specs.declared.problem.Hint.{Hint}
use Rattle.act1_channel.specs.declared.problem.Step.{Step}
use Rattle.act1_table.specs.Reads.{and_then, or_else, as_way, behind, read_parts, read_word, read_fields}
use Rattle.act1_table.specs.Table.{Field, word}
use Rattle.act1_table.specs.declared.forms.Given.{Given}
use Rattle.act1_table.specs.declared.forms.Given.TheVariants as given
use Rattle.act1_table.proofs.PartLaws.{behind_is}
use Rattle.act1_logtext.specs.StepLines.{step_words, step_form, choice_of, hint_said, hints_on, choices_on, step_of}
use Rattle.act1_logtext.specs.ReadSteps.{step_on, is_step, step_word, hints_in, with_choice, choices_in}

-- what a function of all words gives that were read says, where the words behind these are taken one after the other
module _ (take_all : List Given → Option Step) where
  -- where nothing can come of what was said so far, nothing comes of more words
  nothing_by : (rest : Field) (said : List Given) (words : List (List ℕ)) (found : Option Given) → ((g : Given) → and_then (read_fields (said ++ g ∷ []) [] rest words) take_all ≡ None)
      → and_then (and_then found (λ g. read_fields (said ++ g ∷ []) [] rest words)) take_all ≡ None
  nothing_by rest said words None h = refl
  nothing_by rest said words (Some g) h = h g

  nothing_more : (rest : Field) (said : List Given) (words : List (List ℕ)) → ((more : List Given) → take_all (said ++ more) ≡ None) → and_then (read_fields said [] rest words) take_all ≡ None
  nothing_more rest said [] none = ap take_all (sym (append-nil said)) ∙ none []
  nothing_more rest said (w ∷ words) none =
      nothing_by rest said words (read_word rest w)
      (λ g. nothing_more rest (said ++ g ∷ []) words (λ more. ap take_all (append_assoc said (g ∷ []) more) ∙ none (g ∷ more)))

  -- hints

  abbrev AreHints : List Choice → List Hint → List Given → Type 0
  AreHints choices hints said = (more : List Given) → take_all (said ++ more) ≡ hints_on choices hints more

  hint_by : (choices : List Choice) (hints : List Hint) (said : List Given) (words : List (List ℕ)) (found : Option Hint)
      → ((more : List Given) → take_all (said ++ more) ≡ and_then found (λ h. hints_on choices (hints ++ h ∷ []) more))
      → ((h : Hint) → AreHints choices (hints ++ h ∷ []) said → and_then (read_fields said [] step_words words) take_all ≡ hints_in choices (hints ++ h ∷ []) words)
      → and_then (read_fields said [] step_words words) take_all ≡ and_then found (λ h. hints_in choices (hints ++ h ∷ []) words)
  hint_by choices hints said words None behind next = nothing_more step_words said words behind
  hint_by choices hints said words (Some h) behind next = next h behind

  hint_word : (choices : List Choice) (hints : List Hint) (said : List Given) (words : List (List ℕ)) (found : Option Given)
      → ((g : Given) → and_then (read_fields (said ++ g ∷ []) [] step_words words) take_all ≡ and_then (hint_said g) (λ h. hints_in choices (hints ++ h ∷ []) words))
      → and_then (and_then found (λ g. read_fields (said ++ g ∷ []) [] step_words words)) take_all ≡ and_then (and_then found hint_said) (λ h. hints_in choices (hints ++ h ∷ []) words)
  hint_word choices hints said words None h = refl
  hint_word choices hints said words (Some g) h = h g

  hints_read : (choices : List Choice) (hints : List Hint) (said : List Given) (words : List (List ℕ)) → AreHints choices hints said
      → and_then (read_fields said [] step_words words) take_all ≡ hints_in choices hints words
  unfolding step_word
  hints_read choices hints said [] are = ap take_all (sym (append-nil said)) ∙ are []
  hints_read choices hints said (w ∷ words) are =
      hint_word choices hints said words (step_word w)
      (λ g. hint_by choices hints (said ++ g ∷ []) words (hint_said g)
      (λ more. ap take_all (append_assoc said (g ∷ []) more) ∙ are (g ∷ more))
      (λ h next. hints_read choices (hints ++ h ∷ []) (said ++ g ∷ []) words next))

  -- choices, and the hints behind `:`

  abbrev AreChoices : List Choice → List Given → Type 0
  AreChoices choices said = (more : List Given) → take_all (said ++ more) ≡ choices_on choices more

  choice_by : (choices more_choices : List Choice) (said : List Given) (words : List (List ℕ)) (is_choice is_colon : Bool)
      → ((more : List Given) → take_all (said ++ more) ≡ cond is_choice (choices_on more_choices more) (cond is_colon (hints_on choices [] more) None))
      → (AreChoices more_choices said → and_then (read_fields said [] step_words words) take_all ≡ choices_in more_choices words)
      → and_then (read_fields said [] step_words words) take_all ≡ cond is_choice (choices_in more_choices words) (cond is_colon (hints_in choices [] words) None)
  choice_by choices more_choices said words true is_colon behind next = next behind
  choice_by choices more_choices said words false true behind next = hints_read choices [] said words behind
  choice_by choices more_choices said words false false behind next = nothing_more step_words said words behind

  choice_said : (choices : List Choice) (said : List Given) (words : List (List ℕ)) (g : Given)
      → ((more : List Given) → take_all (said ++ more) ≡ choices_on choices (g ∷ more))
      → ((cs : List Choice) → AreChoices cs said → and_then (read_fields said [] step_words words) take_all ≡ choices_in cs words)
      → and_then (read_fields said [] step_words words) take_all ≡ with_choice choices g (λ cs. choices_in cs words) (hints_in choices [] words)
  choice_said choices said words (given.Name name) behind next = nothing_more step_words said words behind
  choice_said choices said words (given.Way way numbers) behind next =
      choice_by choices (choices ++ choice_of numbers ∷ []) said words (way == 0) (way == 1) behind (next (choices ++ choice_of numbers ∷ []))

  choice_word : (choices : List Choice) (said : List Given) (words : List (List ℕ)) (found : Option Given)
      → ((g : Given) → and_then (read_fields (said ++ g ∷ []) [] step_words words) take_all ≡ with_choice choices g (λ cs. choices_in cs words) (hints_in choices [] words))
      → and_then (and_then found (λ g. read_fields (said ++ g ∷ []) [] step_words words)) take_all
      ≡ and_then found (λ g. with_choice choices g (λ cs. choices_in cs words) (hints_in choices [] words))
  choice_word choices said words None h = refl
  choice_word choices said words (Some g) h = h g

  choices_read : (choices : List Choice) (said : List Given) (words : List (List ℕ)) → AreChoices choices said
      → and_then (read_fields said [] step_words words) take_all ≡ choices_in choices words
  unfolding step_word
  choices_read choices said [] are = ap take_all (sym (append-nil said)) ∙ are []
  choices_read choices said (w ∷ words) are =
      choice_word choices said words (step_word w)
      (λ g. choice_said choices (said ++ g ∷ []) words g
      (λ more. ap take_all (append_assoc said (g ∷ []) more) ∙ are (g ∷ more))
      (λ cs next. choices_read cs (said ++ g ∷ []) words next))

-- the line

abbrev step_said : List (List ℕ) → Option Step
step_said words = and_then (read_fields [] step_form.fields step_form.rest words) step_of

-- behind `step` the words are taken one after the other
pub is_first : (w : List ℕ) → is_step w ≡ true → w ≡ codes "step"
is_first w h = (bytes_eq-Decides w (codes "step")).0 h

step_taken : (words : List (List ℕ)) → step_said (codes "step" ∷ words) ≡ choices_in [] words
step_taken words = choices_read step_of [] (given.Way 0 [] ∷ []) words (λ more. refl)

pub step_first : (bytes w : List ℕ) (words : List (List ℕ)) → words_of bytes ≡ w ∷ words → is_step w ≡ true → choices_in [] words ≡ step_on bytes
step_first bytes w words is first =
    sym (ap step_said is ∙ ap (λ (v : List ℕ). step_said (v ∷ words)) (is_first w first) ∙ step_taken words)

-- no other word begins a line of a step

not_by : (found : Option (List ℕ)) → (found ≡ Some [] → ⊥) → or_else (as_way 0 (and_then found (λ rest. read_parts [] [] rest))) None ≡ None
not_by None h = refl
not_by (Some []) h = absurd (h refl)
not_by (Some (b ∷ bytes)) h = refl

other_first : (w : List ℕ) → is_step w ≡ false → read_word (word (codes "step")) w ≡ None
other_first w h = not_by (behind (codes "step") w) (λ e. let same = ap is_step (behind_is (codes "step") w [] e) in cc)

pub step_form_read : (w : List ℕ) (words : List (List ℕ)) → is_step w ≡ false → read_fields [] step_form.fields step_form.rest (w ∷ words) ≡ None
step_form_read w words h = ap (λ (found : Option Given). and_then found (λ g. read_fields (g ∷ []) [] step_words words)) (other_first w h)

pub step_not_first : (bytes w : List ℕ) (words : List (List ℕ)) → words_of bytes ≡ w ∷ words → is_step w ≡ false → None ≡ step_on bytes
step_not_first bytes w words is first = sym (ap step_said is ∙ ap (λ (said : Option (List Given)). and_then said step_of) (step_form_read w words first))

pub step_no_word : (bytes : List ℕ) → words_of bytes ≡ [] → None ≡ step_on bytes
step_no_word bytes is = sym (ap step_said is)
