-- The text of a report is that of its lines, and it is written piece by piece.
use Rattle.std.proofs.Common.{ℕ, ◌≡◌, List, [], ◌∷◌, ◌++◌, map, codes, refl, sym, ap, ◌∙◌, append_assoc, append-nil}
use Rattle.std.proofs.lemmas.List.{map-append}
use Rattle.std.proofs.lemmas.List.Concat.{flat_map-append}
use Rattle.std.specs.Fmt.{decimal}
use Rattle.act1_base.specs.Words.{text_line, text_of_lines}
use Rattle.act1_channel.specs.declared.problem.Step.{Step}
use Rattle.act1_logtext.specs.Logs.{log_format, log_text}
use Rattle.act1_logtext.specs.WriteSteps.{step_line_words}
use Rattle.act1_plan.specs.Lines.{plan_format, plan_lines}
use Rattle.act1_plan.specs.Texts.{plan_text}
use Rattle.act1_plan.specs.Plans.{IsPlan}
use Rattle.act1_plan.specs.declared.line.PlanLine.{PlanLine}
use Rattle.act1_plan.proofs.PlanWrites.{text_of_plan}
use Rattle.act1_report.specs.Lines.{report_table, report_format, plan_part, step_part, open_lines, draft_lines}
use Rattle.act1_report.specs.Texts.{header_words, channel_words, end_words, draft_of, report_text}
use Rattle.act1_report.specs.declared.line.ReportLine.{ReportLine}
use Rattle.act1_report.specs.declared.line.ReportLine.TheVariants as line
use Rattle.act1_report.specs.declared.report.Report.{Report}
use Rattle.act1_report.proofs.ReportLines.{plan_words_in}
use Rattle.act1_table.specs.Formats.{own_words, text_of}
use Rattle.act1_table.specs.Table.{Form}

abbrev own : ReportLine → List (List ℕ)
own l = own_words report_format l

steps_same : (steps : List Step) → map (step_line_words report_table 9) steps ≡ map (own_words log_format) steps
steps_same [] = refl
steps_same (s ∷ steps) = ap (λ (ws : List (List (List ℕ))). own_words log_format s ∷ ws) (steps_same steps)

-- the lines of the steps are the text of the log
pub log_written : (table : List Form) (some steps : List Step) → table ≡ report_table → some ≡ steps → text_of_lines (map (step_line_words table 9) some) ≡ log_text steps
unfolding log_text
log_written table some steps of same =
    ap (λ (forms : List Form). text_of_lines (map (step_line_words forms 9) some)) of
    ∙ ap (λ (ss : List Step). text_of_lines (map (step_line_words report_table 9) ss)) same
    ∙ ap text_of_lines (steps_same steps)

-- the words of each part

plan_part_words : (lines : List PlanLine) → map own (plan_part lines) ≡ map (own_words plan_format) lines
plan_part_words [] = refl
plan_part_words (l ∷ lines) = λ i. plan_words_in l i ∷ plan_part_words lines i

step_part_words : (steps : List Step) → map own (step_part steps) ≡ map (own_words log_format) steps
step_part_words [] = refl
step_part_words (s ∷ steps) = ap (λ (ws : List (List (List ℕ))). own_words log_format s ∷ ws) (step_part_words steps)

log_is : (steps : List Step) → text_of report_format (step_part steps) ≡ log_text steps
unfolding log_text
log_is steps = ap text_of_lines (step_part_words steps)

plan_is : (lines : List PlanLine) → text_of report_format (plan_part lines) ≡ text_of plan_format lines
plan_is lines = ap text_of_lines (plan_part_words lines)

channel_spelled : (channel : ℕ) → own (line.Channel channel) ≡ channel_words channel
channel_spelled channel = ap (λ (bytes : List ℕ). codes "channel" ∷ bytes ∷ []) (append-nil (decimal channel))

texts : (xs ys : List ReportLine) → text_of report_format (xs ++ ys) ≡ text_of report_format xs ++ text_of report_format ys
texts xs ys = ap text_of_lines (map-append own xs ys) ∙ flat_map-append text_line (map own xs) (map own ys)

-- the five parts of a text
parts : (a b c d e : List ℕ) → (a ++ (b ++ (c ++ d))) ++ e ≡ (((a ++ b) ++ c) ++ d) ++ e
parts a b c d e = ap (λ (bytes : List ℕ). bytes ++ e) (ap (λ (bytes : List ℕ). a ++ bytes) (sym (append_assoc b c d)) ∙ sym (append_assoc a (b ++ c) d) ∙ ap (λ (bytes : List ℕ). bytes ++ d) (sym (append_assoc a b c)))

-- the text of a report that a text can say is that of its lines
pub text_of_report : (r : Report) → IsPlan r.plan → report_text r ≡ text_of report_format (draft_lines (draft_of r))
unfolding report_text
text_of_report r is =
    let header = text_line header_words in
    let channel = text_line (channel_words r.channel) in
    let log = log_text r.log.steps in
    let tail = text_line end_words in
    let lines = plan_part (plan_lines r.plan) in
    let behind = line.Channel r.channel ∷ step_part r.log.steps in
    sym (
    texts (open_lines (draft_of r)) (line.End ∷ [])
    ∙ ap (λ (bytes : List ℕ). text_of report_format (open_lines (draft_of r)) ++ bytes) (append-nil tail)
    ∙ ap (λ (bytes : List ℕ). (header ++ bytes) ++ tail) (texts lines behind)
    ∙ (λ i. (header ++ ((plan_is (plan_lines r.plan) ∙ sym (text_of_plan r.plan is)) i ++ (text_line (channel_spelled r.channel i) ++ log_is r.log.steps i))) ++ tail)
    ∙ parts header (plan_text r.plan) channel log tail)

-- the pieces that are written make the text
pub report_written : (r : Report) (start header plan channel log whole : List ℕ) → start ≡ [] → header ≡ start ++ text_line header_words → plan ≡ header ++ plan_text r.plan
    → channel ≡ plan ++ text_line (channel_words r.channel) → log ≡ channel ++ log_text r.log.steps → whole ≡ log ++ text_line end_words → whole ≡ report_text r
unfolding report_text
report_written r start header plan channel log whole none h p c l w =
    w ∙ ap (λ (bytes : List ℕ). bytes ++ text_line end_words) (l ∙ ap (λ (bytes : List ℕ). bytes ++ log_text r.log.steps) (c ∙ ap (λ (bytes : List ℕ). bytes ++ text_line (channel_words r.channel)) (p
    ∙ ap (λ (bytes : List ℕ). bytes ++ plan_text r.plan) (h ∙ ap (λ (bytes : List ℕ). bytes ++ text_line header_words) none))))
