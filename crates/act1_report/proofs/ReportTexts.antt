-- The texts of reports are those that the lines of reports make, and they are read line by line.
use Rattle.std.proofs.Common.{ℕ, ◌≡◌, ◌<◌, ◌^◌, length, List, Ok, Err, refl, sym, ap, subst, ◌∙◌}
use Rattle.act1_base.specs.FirstFault.{IsFormatOf}
use Rattle.act1_base.specs.Texts.{reading}
use Rattle.act1_base.specs.declared.texts.TextFault.{TextFault}
use Rattle.act1_base.proofs.FirstFaults.{first_is_fault}
use Rattle.act1_logtext.proofs.LogTexts.{ok_is, AreFew}
use Rattle.act1_logtext.proofs.SameLogs.{same_log}
use Rattle.act1_report.specs.Laws.{OneReport, NeverBoth}
use Rattle.act1_report.specs.Lines.{report_table, given_of, report_format, draft_lines}
use Rattle.act1_report.specs.Steps.{Fault, end, report_steps, report_rules}
use Rattle.act1_report.specs.Texts.{draft_of, IsTextOf, IsReportText}
use Rattle.act1_report.specs.declared.line.Draft.{Draft}
use Rattle.act1_report.specs.declared.line.ReportState.{ReportState}
use Rattle.act1_report.specs.declared.line.ReportState.TheVariants as state
use Rattle.act1_report.specs.declared.report.Report.{Report}
use Rattle.act1_report.proofs.ReportLines.{report_lines_are}
use Rattle.act1_report.proofs.ReportSteps.{AreFine, IsDraft, IsGoodDraft, IsGood, said, draft_leads, draft_fine, draft_is, leads_said, can_end}
use Rattle.act1_report.proofs.ReportWrites.{text_of_report}
use Rattle.act1_table.specs.Formats.{IsLinesTo, OwesTexts, text_of}
use Rattle.act1_table.proofs.ExactLaws.{plain_exact}
use Rattle.act1_table.proofs.FormatLaws.{is_format, lines_are_read, read_is_lines}

-- the report that a draft is
abbrev report_by : (d : Draft) → AreFew d.steps → Report
report_by d few = record { plan = d.plan; channel = d.channel; log = record { steps = d.steps; few = few } }

text_lines : (bytes : List ℕ) (r : Report) → IsTextOf bytes r → IsLinesTo report_format report_steps bytes (state.End (draft_of r))
text_lines bytes r is =
    let d = draft_of r in
    let draft : IsDraft d = record { plan = is.0.plan; channel = is.0.channel; steps = is.0.steps; few = r.log.few } in
    record { lines = draft_lines d; last = state.End d; fine = draft_fine d draft; leads = draft_leads d draft; ends = refl; text = is.1 ∙ text_of_report r is.0.plan }

-- the report whose text the bytes are that are read to a state
pub record IsOf (bytes : List ℕ) (ended : ReportState) : Type 0 where
  pub draft : Draft
  pub ended_is : ended ≡ state.End draft
  pub few : AreFew draft.steps
  pub text : IsTextOf bytes (report_by draft few)

-- what a state is in which a text may end
record IsWhole (last ended : ReportState) : Type 0 where
  draft : Draft
  last_is : last ≡ state.End draft
  ended_is : ended ≡ state.End draft
  good : IsGoodDraft draft

whole_by : (last ended : ReportState) → IsGood last → end last ≡ Ok ended → IsWhole last ended
whole_by (state.End d) ended good h = record { draft = d; last_is = refl; ended_is = sym (ok_is (state.End d) ended h); good = good }
whole_by state.Start ended good h = cc
whole_by (state.Plan s) ended good h = cc
whole_by (state.Log d) ended good h = cc

lines_text : (bytes : List ℕ) (ended : ReportState) → IsLinesTo report_format report_steps bytes ended → IsOf bytes ended
lines_text bytes ended lines =
    let r = leads_said lines.lines state.Start lines.last tt lines.fine lines.leads in
    let whole = whole_by lines.last ended r.0 lines.ends in
    let d = whole.draft in
    let same : lines.lines ≡ draft_lines d = sym r.1 ∙ ap said whole.last_is in
    let draft = draft_is d whole.good (subst AreFine same lines.fine) in
    let report : Report = report_by d draft.few in
    record {
      draft = d;
      ended_is = whole.ended_is;
      few = draft.few;
      text = (record { plan = draft.plan; channel = draft.channel; steps = draft.steps }, lines.text ∙ ap (text_of report_format) same ∙ sym (text_of_report report draft.plan));
    }

owes : OwesTexts report_format report_steps IsReportText
owes = record {
  own = report_lines_are;
  exact = λ s t l fine h. plain_exact report_table (given_of l) refl;
  spelled = λ bytes is. (state.End (draft_of is.0), text_lines bytes is.0 is.1);
  said = λ bytes ended lines. let r = lines_text bytes ended lines in (report_by r.draft r.few, r.text);
  completes = λ lines s fine leads. can_end s;
}

-- the rules are those of the texts of reports
pub report_rules_are : IsFormatOf report_rules IsReportText
report_rules_are = is_format report_format report_steps IsReportText owes

pub read_of : (bytes : List ℕ) (s : ReportState) → reading report_rules bytes ≡ Ok s → IsOf bytes s
read_of bytes s h = lines_text bytes s (read_is_lines report_format report_lines_are report_steps owes.exact bytes s h)

-- the text of a report is read as that report
text_read : (bytes : List ℕ) (r : Report) → IsTextOf bytes r → reading report_rules bytes ≡ Ok (state.End (draft_of r))
text_read bytes r is = lines_are_read report_format report_lines_are report_steps bytes (state.End (draft_of r)) (text_lines bytes r is)

-- reports with one draft are the same
same_report : (a b : Report) → draft_of a ≡ draft_of b → a ≡ b
same_report a b h =
    let logs : a.log ≡ b.log = same_log a.log b.log (λ i. (h i).steps) in
    λ i. record { plan = (h i).plan; channel = (h i).channel; log = logs i }

same_draft : (a b : Draft) → state.End a ≡ state.End b → a ≡ b
same_draft a b h = cc

pub read_few : (bytes : List ℕ) (s : ReportState) (d : Draft) → reading report_rules bytes ≡ Ok s → s ≡ state.End d → length d.steps < 2 ^ 32
read_few bytes s d h is = let r = read_of bytes s h in subst (λ (x : Draft). AreFew x.steps) (same_draft r.draft d (sym r.ended_is ∙ is)) r.few

pub first_read : (bytes : List ℕ) (s : ReportState) (d : Draft) (report : Report) → reading report_rules bytes ≡ Ok s → s ≡ state.End d → draft_of report ≡ d → IsTextOf bytes report
first_read bytes s d report h is of =
    let r = read_of bytes s h in
    subst (IsTextOf bytes) (same_report (report_by r.draft r.few) report (same_draft r.draft d (sym r.ended_is ∙ is) ∙ sym of)) r.text

-- bytes are the text of one report at most
pub one_report : OneReport
one_report bytes one other h k =
    let same = sym (text_read bytes one h) ∙ text_read bytes other k in
    same_report one other (same_draft (draft_of one) (draft_of other) (ok_is (state.End (draft_of one)) (state.End (draft_of other)) same))

refused_never : (bytes : List ℕ) (fault : TextFault Fault) (r : Report) → reading report_rules bytes ≡ Err fault → IsTextOf bytes r → ⊥
refused_never bytes fault r h text = let read = text_read bytes r text in cc

-- the text of a report has no faulty line
pub never_both : NeverBoth
never_both bytes report number is faulty =
    let refused = first_is_fault report_rules IsReportText report_rules_are.reads report_rules_are.completes bytes number faulty in
    refused_never bytes (record { line = number; kind = refused.0 }) report refused.1 is
