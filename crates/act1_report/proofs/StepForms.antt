-- In the table of reports a line is of the form of a step where its first word is `step`, and there alone.
use Rattle.std.proofs.Common.{ℕ, ◌≡◌, ◌==◌, true, false, List, [], ◌∷◌, Option, Some, None, codes, refl, sym, ap, subst, ◌∙◌}
use Rattle.act1_base.specs.Words.{words_of}
use Rattle.act1_channel.specs.declared.problem.Step.{Step}
use Rattle.act1_logtext.specs.ReadSteps.{begins_step}
use Rattle.act1_logtext.specs.StepLines.{step_form, step_of}
use Rattle.act1_logtext.proofs.StepForms.{other_form}
use Rattle.act1_logtext.proofs.StepReads.{is_first, step_form_read}
use Rattle.act1_plan.specs.Lines.{device_form, k_form, clock_form, input_form, output_form, start_form, module_form}
use Rattle.act1_report.specs.Lines.{header_form, channel_form, end_form, report_table, line_of, report_format}
use Rattle.act1_report.specs.ReadSteps.{report_step_on}
use Rattle.act1_report.specs.declared.line.ReportLine.TheVariants as line
use Rattle.act1_table.specs.Formats.{read_own}
use Rattle.act1_table.specs.Lines.{read_line}
use Rattle.act1_table.specs.Reads.{and_then, or_else, as_line, read_fields, read_forms}
use Rattle.act1_table.specs.Table.{Form}
use Rattle.act1_table.specs.declared.forms.Given.{Given}
use Rattle.act1_table.specs.declared.forms.LineGiven.{LineGiven}

-- what is read of a line of a form
abbrev form_said : Form → List (List ℕ) → Option (List Given)
form_said form words = read_fields [] form.fields form.rest words

-- no other form of a report begins by `step`

tenth_form : (said : Option (List Given)) → and_then (and_then said step_of) (λ (s : Step). Some (line.Step s)) ≡ and_then (or_else (as_line 9 said) None) line_of
tenth_form None = refl
tenth_form (Some words) = refl

step_there : (words : List (List ℕ)) → begins_step words ≡ true → and_then (and_then (form_said step_form words) step_of) (λ (s : Step). Some (line.Step s)) ≡ and_then (read_forms 0 report_table words) line_of
step_there [] h = cc
step_there (w ∷ words) h =
    subst (λ (v : List ℕ). and_then (and_then (form_said step_form (v ∷ words)) step_of) (λ (s : Step). Some (line.Step s)) ≡ and_then (read_forms 0 report_table (v ∷ words)) line_of)
    (sym (is_first w h)) (tenth_form (form_said step_form (codes "step" ∷ words)))

pub report_step_read : (bytes : List ℕ) → begins_step (words_of bytes) ≡ true → report_step_on bytes ≡ read_own report_format bytes
report_step_read bytes h = step_there (words_of bytes) h

-- and a line that begins by another word isn't of that form

step_elsewhere : (words : List (List ℕ)) (given : LineGiven) → begins_step words ≡ false → read_forms 0 report_table words ≡ Some given → (given.form == 9) ≡ false
step_elsewhere [] given h read = cc
step_elsewhere (w ∷ words) given h read =
    let all = w ∷ words in
    let behind : Option LineGiven = read_forms 10 (end_form ∷ []) all in
    let other = other_form 9 in
    other 0 (form_said device_form all) _ given refl
    (other 1 (form_said k_form all) _ given refl
    (other 2 (form_said clock_form all) _ given refl
    (other 3 (form_said input_form all) _ given refl
    (other 4 (form_said output_form all) _ given refl
    (other 5 (form_said start_form all) _ given refl
    (other 6 (form_said module_form all) _ given refl
    (other 7 (form_said header_form all) _ given refl
    (other 8 (form_said channel_form all) _ given refl
    (λ e. other 10 (form_said end_form all) None given refl (λ n. cc)
    (ap (λ (said : Option (List Given)). or_else (as_line 9 said) behind) (sym (step_form_read w words h)) ∙ e))))))))))
    read

pub no_step_read : (bytes : List ℕ) (given : LineGiven) → begins_step (words_of bytes) ≡ false → read_line report_table bytes ≡ Some given → (given.form == 9) ≡ false
no_step_read bytes given h read = step_elsewhere (words_of bytes) given h read
