-- A line of a report and the line of the table that says it belong to each other alone.
use Rattle.std.proofs.Common.{ℕ, suc, zero, ◌≡◌, List, Option, Some, None, refl, ap, subst, ◌∙◌}
use Rattle.act1_base.proofs.NumberWords.{low_at_most}
use Rattle.act1_channel.specs.declared.problem.Step.{Step}
use Rattle.act1_logtext.specs.StepLines.{step_of}
use Rattle.act1_logtext.proofs.StepWords.{FitsStep, step_only, step_back}
use Rattle.act1_plan.specs.Lines as plan
use Rattle.act1_plan.specs.Lines.{plan_format}
use Rattle.act1_plan.specs.declared.line.PlanLine.{PlanLine}
use Rattle.act1_plan.specs.declared.line.PlanLine.TheVariants as plan_line
use Rattle.act1_plan.proofs.PlanLines.{plan_lines_are}
use Rattle.act1_report.specs.Lines.{header_form, channel_form, end_form, report_table, given_of, as_plan, line_of, report_format}
use Rattle.act1_report.specs.declared.line.ReportLine.{ReportLine}
use Rattle.act1_report.specs.declared.line.ReportLine.TheVariants as line
use Rattle.act1_table.specs.Formats.{IsLineFormat, IsFine, own_words}
use Rattle.act1_table.specs.Forms.{FitForms, FitsTable}
use Rattle.act1_table.specs.Reads.{and_then}
use Rattle.act1_table.specs.declared.forms.Given.{Given}
use Rattle.act1_table.specs.declared.forms.LineGiven.{LineGiven}
use Rattle.act1_table.proofs.NumberLaws.{some_is}
use Rattle.act1_table.proofs.PlainLaws.{words_plain}

-- a line of a plan is fine in a report where it is so in a plan, and has the same words

pub plan_fine_in : (l : PlanLine) → IsFine plan_format l → IsFine report_format (line.Plan l)
plan_fine_in (plan_line.Device name) h = h
plan_fine_in (plan_line.K k) h = h
plan_fine_in (plan_line.Clock name) h = h
plan_fine_in (plan_line.Input name) h = h
plan_fine_in (plan_line.Output output) h = h
plan_fine_in (plan_line.Start start) h = h
plan_fine_in (plan_line.Module spot pins) h = h

pub plan_fine_of : (l : PlanLine) → IsFine report_format (line.Plan l) → IsFine plan_format l
plan_fine_of (plan_line.Device name) h = h
plan_fine_of (plan_line.K k) h = h
plan_fine_of (plan_line.Clock name) h = h
plan_fine_of (plan_line.Input name) h = h
plan_fine_of (plan_line.Output output) h = h
plan_fine_of (plan_line.Start start) h = h
plan_fine_of (plan_line.Module spot pins) h = h

pub plan_words_in : (l : PlanLine) → own_words report_format (line.Plan l) ≡ own_words plan_format l
plan_words_in (plan_line.Device name) = refl
plan_words_in (plan_line.K k) = refl
plan_words_in (plan_line.Clock name) = refl
plan_words_in (plan_line.Input name) = refl
plan_words_in (plan_line.Output output) = refl
plan_words_in (plan_line.Start start) = refl
plan_words_in (plan_line.Module spot pins) = refl

-- what a line of the table says

abbrev line_at : ℕ → List Given → LineGiven
line_at k words = record { form = k; words = words }

step_by : (words : List Given) (l : ReportLine) (found : Option Step) → FitsStep words → step_of words ≡ found → and_then found (λ (s : Step). Some (line.Step s)) ≡ Some l → line_at 9 words ≡ given_of l
step_by words l None fit e h = cc
step_by words l (Some s) fit e h = subst (λ (x : ReportLine). line_at 9 words ≡ given_of x) (some_is (line.Step s) l h) (ap (line_at 9) (step_only words s fit e))

plan_by : (given : LineGiven) (l : ReportLine) (found : Option PlanLine) → FitsTable plan_format.table given → plan.line_of given ≡ found → and_then found (λ (p : PlanLine). Some (line.Plan p)) ≡ Some l → given ≡ given_of l
plan_by given l None fit e h = cc
plan_by given l (Some p) fit e h = subst (λ (x : ReportLine). given ≡ given_of x) (some_is (line.Plan p) l h) (plan_lines_are.only given p fit e)

plan_only : (given : LineGiven) (l : ReportLine) → FitsTable plan_format.table given → as_plan given ≡ Some l → given ≡ given_of l
plan_only given l fit h = plan_by given l (plan.line_of given) fit refl h

only_at : (k : ℕ) (words : List Given) (l : ReportLine) → FitForms report_table k words → line_of (line_at k words) ≡ Some l → line_at k words ≡ given_of l
only_at zero words l fit h = plan_only (line_at 0 words) l fit h
only_at (suc zero) words l fit h = plan_only (line_at 1 words) l fit h
only_at (suc (suc zero)) words l fit h = plan_only (line_at 2 words) l fit h
only_at (suc (suc (suc zero))) words l fit h = plan_only (line_at 3 words) l fit h
only_at (suc (suc (suc (suc zero)))) words l fit h = plan_only (line_at 4 words) l fit h
only_at (suc (suc (suc (suc (suc zero))))) words l fit h = plan_only (line_at 5 words) l fit h
only_at (suc (suc (suc (suc (suc (suc zero)))))) words l fit h = plan_only (line_at 6 words) l fit h
only_at (suc (suc (suc (suc (suc (suc (suc zero))))))) words l fit h = subst (λ (x : ReportLine). line_at 7 words ≡ given_of x) (some_is _ l h) (ap (line_at 7) (words_plain header_form words fit))
only_at (suc (suc (suc (suc (suc (suc (suc (suc zero)))))))) words l fit h = subst (λ (x : ReportLine). line_at 8 words ≡ given_of x) (some_is _ l h) (ap (line_at 8) (words_plain channel_form words fit))
only_at (suc (suc (suc (suc (suc (suc (suc (suc (suc zero))))))))) words l fit h = step_by words l (step_of words) fit refl h
only_at (suc (suc (suc (suc (suc (suc (suc (suc (suc (suc zero)))))))))) words l fit h = subst (λ (x : ReportLine). line_at 10 words ≡ given_of x) (some_is _ l h) (ap (line_at 10) (words_plain end_form words fit))
only_at (suc (suc (suc (suc (suc (suc (suc (suc (suc (suc (suc k))))))))))) words l fit h = absurd fit

-- the line of a plan is read as that line in a report

plan_again : (l : PlanLine) → plan.line_of (plan.given_of l) ≡ Some l → as_plan (plan.given_of l) ≡ Some (line.Plan l)
plan_again l e = ap (λ (found : Option PlanLine). and_then found (λ (p : PlanLine). Some (line.Plan p))) e

not_own : (l : PlanLine) → line_of (plan.given_of l) ≡ as_plan (plan.given_of l)
not_own (plan_line.Device name) = refl
not_own (plan_line.K k) = refl
not_own (plan_line.Clock name) = refl
not_own (plan_line.Input name) = refl
not_own (plan_line.Output output) = refl
not_own (plan_line.Start start) = refl
not_own (plan_line.Module spot pins) = refl

back : (l : ReportLine) → IsFine report_format l → line_of (given_of l) ≡ Some l
back line.Header h = refl
back (line.Plan l) h = not_own l ∙ plan_again l (plan_lines_are.back l (plan_fine_of l h))
back (line.Channel channel) h = ap (λ (n : ℕ). Some (line.Channel n)) (low_at_most 255 channel h.1.0.0)
back (line.Step s) h = ap (λ (found : Option Step). and_then found (λ (x : Step). Some (line.Step x))) (step_back s h)
back line.End h = refl

pub report_lines_are : IsLineFormat report_format
report_lines_are = record { clear = refl; back = back; only = λ given l fit h. only_at given.form given.words l fit h }
