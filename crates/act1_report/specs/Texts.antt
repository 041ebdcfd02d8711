-- The text of a report: its header, the text of its plan, its channel, the text of its log, and `end`. The format is this project's own.
use Rattle.std.specs.Prelude.{ℕ, ◌≡◌, ◌≤◌, List, [], ◌∷◌, ◌++◌, codes}
use Rattle.std.specs.Fmt.{decimal}
use Rattle.act1_base.specs.Words.{text_line}
use Rattle.act1_logtext.specs.Logs.{log_text, AreSteps}
use Rattle.act1_plan.specs.Plans.{IsPlan}
use Rattle.act1_plan.specs.Texts.{plan_text}
use Rattle.act1_report.specs.declared.line.Draft.{Draft}
use Rattle.act1_report.specs.declared.report.Report.{Report}

abbrev pub header_words : List (List ℕ)
header_words = codes "act1" ∷ codes "report" ∷ codes "1" ∷ []

abbrev pub channel_words : ℕ → List (List ℕ)
channel_words channel = codes "channel" ∷ decimal channel ∷ []

abbrev pub end_words : List (List ℕ)
end_words = codes "end" ∷ []

-- its one text
unfoldable pub report_text : Report → List ℕ
report_text r = (((text_line header_words ++ plan_text r.plan) ++ text_line (channel_words r.channel)) ++ log_text r.log.steps) ++ text_line end_words

-- the report, of whose log only the steps are kept
abbrev pub draft_of : Report → Draft
draft_of r = record { plan = r.plan; channel = r.channel; steps = r.log.steps }

-- a text can say it: a text can say its plan and each of its steps, and its channel fits its field
pub record IsReport (r : Report) : Type 0 where
  pub plan : IsPlan r.plan
  pub channel : r.channel ≤ 255
  pub steps : AreSteps r.log.steps

-- the bytes are the text of this report
abbrev pub IsTextOf : List ℕ → Report → Type 0
IsTextOf bytes r = IsReport r × (bytes ≡ report_text r)

-- the bytes are the text of some report
abbrev pub IsReportText : List ℕ → Type 0
IsReportText bytes = (r : Report) × IsTextOf bytes r
