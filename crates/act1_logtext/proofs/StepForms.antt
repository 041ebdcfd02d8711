-- In the tables of logs and of answers a line is of the form of a step where its first word is `step`, and there alone.
use Rattle.std.proofs.Common.{ℕ, ◌≡◌, ◌==◌, true, false, List, [], ◌∷◌, Option, Some, None, codes, refl, sym, ap, subst, ◌∙◌}
use Rattle.act1_base.specs.Words.{words_of}
use Rattle.act1_channel.specs.declared.problem.Step.{Step}
use Rattle.act1_table.specs.Formats.{read_own}
use Rattle.act1_table.specs.Lines.{read_line}
use Rattle.act1_table.specs.Reads.{and_then, or_else, as_line, read_fields, read_forms}
use Rattle.act1_table.specs.declared.forms.Given.{Given}
use Rattle.act1_table.specs.declared.forms.LineGiven.{LineGiven}
use Rattle.act1_table.proofs.NumberLaws.{some_is}
use Rattle.act1_logtext.specs.Answers.{answer_table, line_of, answer_format, header_form, assigned_form, take_form, refuted_form, spent_form, end_form}
use Rattle.act1_logtext.specs.Logs.{log_format, step_said}
use Rattle.act1_logtext.specs.ReadSteps.{step_on, begins_step, answer_step_on}
use Rattle.act1_logtext.specs.StepLines.{step_form, step_of}
use Rattle.act1_logtext.specs.declared.draft.AnswerLine.TheVariants as line
use Rattle.act1_logtext.proofs.StepReads.{is_first, step_form_read}

-- what is read of a line of the form of a step
abbrev form_said : List (List ℕ) → Option (List Given)
form_said words = read_fields [] step_form.fields step_form.rest words

-- a log has no other form

only_form : (said : Option (List Given)) → and_then said step_of ≡ and_then (or_else (as_line 0 said) None) step_said
only_form None = refl
only_form (Some words) = refl

pub log_line_read : (bytes : List ℕ) → step_on bytes ≡ read_own log_format bytes
log_line_read bytes = only_form (form_said (words_of bytes))

-- of an answer's forms no other begins by `step`

fifth_form : (said : Option (List Given)) → and_then (and_then said step_of) (λ (s : Step). Some (line.Step s)) ≡ and_then (or_else (as_line 4 said) None) line_of
fifth_form None = refl
fifth_form (Some words) = refl

step_there : (words : List (List ℕ)) → begins_step words ≡ true → and_then (and_then (form_said words) step_of) (λ (s : Step). Some (line.Step s)) ≡ and_then (read_forms 0 answer_table words) line_of
step_there [] h = cc
step_there (w ∷ words) h =
    subst (λ (v : List ℕ). and_then (and_then (form_said (v ∷ words)) step_of) (λ (s : Step). Some (line.Step s)) ≡ and_then (read_forms 0 answer_table (v ∷ words)) line_of)
    (sym (is_first w h)) (fifth_form (form_said (codes "step" ∷ words)))

pub answer_step_read : (bytes : List ℕ) → begins_step (words_of bytes) ≡ true → answer_step_on bytes ≡ read_own answer_format bytes
answer_step_read bytes h = step_there (words_of bytes) h

-- a line is of another form than that of the number, where it isn't read as that one
pub other_form : (number k : ℕ) (said : Option (List Given)) (others : Option LineGiven) (given : LineGiven) → (k == number) ≡ false → (others ≡ Some given → (given.form == number) ≡ false)
    → or_else (as_line k said) others ≡ Some given → (given.form == number) ≡ false
other_form number k None others given other rest h = rest h
other_form number k (Some words) others given other rest h = subst (λ (l : LineGiven). (l.form == number) ≡ false) (some_is _ given h) other

step_elsewhere : (words : List (List ℕ)) (given : LineGiven) → begins_step words ≡ false → read_forms 0 answer_table words ≡ Some given → (given.form == 4) ≡ false
step_elsewhere [] given h read = cc
step_elsewhere (w ∷ words) given h read =
    let all = w ∷ words in
    let others : Option LineGiven = read_forms 5 (spent_form ∷ end_form ∷ []) all in
    other_form 4 0 (read_fields [] header_form.fields header_form.rest all) _ given refl
    (other_form 4 1 (read_fields [] assigned_form.fields assigned_form.rest all) _ given refl
    (other_form 4 2 (read_fields [] take_form.fields take_form.rest all) _ given refl
    (other_form 4 3 (read_fields [] refuted_form.fields refuted_form.rest all) _ given refl
    (λ e. other_form 4 5 (read_fields [] spent_form.fields spent_form.rest all) _ given refl
    (other_form 4 6 (read_fields [] end_form.fields end_form.rest all) None given refl (λ n. cc))
    (ap (λ (said : Option (List Given)). or_else (as_line 4 said) others) (sym (step_form_read w words h)) ∙ e)))))
    read

pub no_step_read : (bytes : List ℕ) (given : LineGiven) → begins_step (words_of bytes) ≡ false → read_line answer_table bytes ≡ Some given → (given.form == 4) ≡ false
no_step_read bytes given h read = step_elsewhere (words_of bytes) given h read
