-- The texts of jobs are those that the lines of jobs make, and they are read line by line.
use Rattle.std.proofs.Common.{ℕ, ◌≡◌, ◌≤◌, nat_le, nat_lt, true, ◌&&◌, IsTrue, List, [], ◌∷◌, ◌++◌, map, Result, Ok, Err, refl, sym, ap, subst, ◌∙◌, arith}
use Rattle.std.specs.List.{list_all, AllByRecursion}
use Rattle.act1_base.specs.FirstFault.{IsFirstFaultyLine, IsFormatOf}
use Rattle.act1_base.specs.Texts.{reading}
use Rattle.act1_base.specs.declared.texts.TextFault.{TextFault}
use Rattle.act1_base.proofs.FirstFaults.{first_is_fault}
use Rattle.act1_table.specs.Formats.{IsFine, IsLinesTo, OwesTexts, text_of}
use Rattle.act1_table.specs.Forms.{FitFields}
use Rattle.act1_table.specs.Table.{up_to}
use Rattle.act1_table.specs.Values.{number}
use Rattle.act1_table.specs.declared.forms.Given.{Given}
use Rattle.act1_table.proofs.ExactLaws.{plain_exact}
use Rattle.act1_table.proofs.FormatLaws.{is_format, lines_are_read, read_is_lines}
use Rattle.act1_table.proofs.NumberLaws.{both}
use Rattle.act1_channel.specs.Ranges.{is_connection, is_problem}
use Rattle.act1_channel.specs.declared.problem.Connection.{Connection}
use Rattle.act1_channel.specs.declared.problem.Problem.{Problem}
use Rattle.act1_job.specs.Jobs.{are_breaks, breaks_rise, is_budget, is_draft}
use Rattle.act1_job.specs.Lines.{job_table, given_of, job_format, body_lines, draft_lines, draft_text, draft_of}
use Rattle.act1_job.specs.Laws.{NeverBoth, OneJob}
use Rattle.act1_job.specs.Reads.{IsTextOf, IsJobText}
use Rattle.act1_job.specs.Steps.{Fault, job_steps, job_rules}
use Rattle.std.proofs.Math.Bool.{Bool-set}
use mathlib.Core.HLevel.{is_prop→PathP}
use Rattle.act1_job.specs.declared.draft.Draft.{Draft}
use Rattle.act1_job.specs.declared.job.Job.{Job}
use Rattle.act1_job.specs.declared.line.JobLine.{JobLine}
use Rattle.act1_job.specs.declared.line.JobLine.TheVariants as line
use Rattle.act1_job.specs.declared.line.JobState.{JobState}
use Rattle.act1_job.specs.declared.line.JobState.TheVariants as state
use Rattle.act1_job.proofs.JobLines.{job_lines_are}
use Rattle.act1_job.proofs.JobSteps.{two, draft_is_fit, test_le, test_lt, within_high, track_lines, connection_lines, draft_leads, lines_are_draft, good_after, can_end}

-- the lines of a job are fine

abbrev AreFine : List JobLine → Type 0
AreFine lines = AllByRecursion (IsFine job_format) lines

fine_append : (xs ys : List JobLine) → AreFine xs → AreFine ys → AreFine (xs ++ ys)
fine_append [] ys h k = k
fine_append (x ∷ xs) ys h k = (h.0, fine_append xs ys h.1 k)

breaks_fine : (columns before : ℕ) (breaks : List ℕ) → columns ≤ 64 → IsTrue (breaks_rise columns before breaks) → FitFields [] (up_to 64) (map {B = Given} number breaks)
breaks_fine columns before [] low h = tt
breaks_fine columns before (b ∷ breaks) low h =
    let p = both (nat_lt before b && nat_lt b columns) (breaks_rise columns b breaks) h in
    let high = test_lt b columns (both (nat_lt before b) (nat_lt b columns) p.0).1 in
    ((omega arith, tt), breaks_fine columns b breaks low p.1)

tracks_fine : (columns : ℕ) (tracks : List (List ℕ)) → columns ≤ 64 → IsTrue (list_all (are_breaks columns) tracks) → AreFine (track_lines tracks)
tracks_fine columns [] low h = tt
tracks_fine columns (breaks ∷ tracks) low h =
    let p = both (are_breaks columns breaks) (list_all (are_breaks columns) tracks) h in
    ((tt, breaks_fine columns 0 breaks low p.0), tracks_fine columns tracks low p.1)

connections_fine : (columns : ℕ) (connections : List Connection) → columns ≤ 64 → IsTrue (list_all (is_connection columns) connections) → AreFine (connection_lines connections)
connections_fine columns [] low h = tt
connections_fine columns (c ∷ connections) low h =
    let p = both (is_connection columns c) (list_all (is_connection columns) connections) h in
    let q = both (nat_le c.left c.right) (nat_lt c.right columns) p.0 in
    let left = test_le c.left c.right q.0 in
    let right = test_lt c.right columns q.1 in
    ((tt, ((omega arith, tt), ((omega arith, tt), tt))), connections_fine columns connections low p.1)

draft_fine : (d : Draft) → IsTrue (is_draft d) → AreFine (draft_lines d)
draft_fine d h =
    let fit = (draft_is_fit d h).0 in
    let columns = within_high 2 64 d.columns fit.columns in
    let k = within_high 1 64 d.k fit.k in
    let budget = within_high 1 1000000000000 d.budget fit.budget in
    fine_append (body_lines d) (line.End ∷ []) (
      (tt, (tt, (tt, tt))),
      (
        (tt, ((columns, tt), tt)),
        (
          (tt, ((k, tt), tt)),
          (
            (tt, ((budget, tt), tt)),
            fine_append (track_lines d.tracks) (connection_lines d.connections) (tracks_fine d.columns d.tracks columns fit.tracks) (connections_fine d.columns d.connections columns fit.connections),
          ),
        ),
      ),
    )
    ((tt, tt), tt)

-- the bytes are the text of this draft, which is a job
abbrev IsTextOfDraft : List ℕ → Draft → Type 0
IsTextOfDraft bytes d = IsTrue (is_draft d) × (bytes ≡ draft_text d)

text_lines : (bytes : List ℕ) (d : Draft) → IsTextOfDraft bytes d → IsLinesTo job_format job_steps bytes (state.End d)
unfolding draft_text
text_lines bytes d is = record { lines = draft_lines d; last = state.End d; fine = draft_fine d is.0; leads = draft_leads d is.0; ends = refl; text = is.1 }

-- what a job says is a draft that is a job
said_fits : (bytes : List ℕ) (job : Job) → IsTextOf bytes job → IsTextOfDraft bytes (draft_of job)
said_fits bytes job is =
    let p = job.problem in
    (two (is_problem p.columns p.k p.tracks p.connections) (is_budget job.budget) p.valid is.0, is.1)

-- the job that a draft is
abbrev job_by : (d : Draft) → IsTrue (is_problem d.columns d.k d.tracks d.connections) → Job
job_by d valid = record { problem = record { columns = d.columns; k = d.k; tracks = d.tracks; connections = d.connections; valid = valid }; budget = d.budget }

-- the draft whose text the bytes are that are read to a state
pub record IsOf (bytes : List ℕ) (ended : JobState) : Type 0 where
  pub draft : Draft
  pub ended_is : ended ≡ state.End draft
  pub valid : IsTrue (is_problem draft.columns draft.k draft.tracks draft.connections)
  pub text : IsTextOfDraft bytes draft

lines_text : (bytes : List ℕ) (ended : JobState) → IsLinesTo job_format job_steps bytes ended → IsOf bytes ended
unfolding draft_text
lines_text bytes ended lines =
    let r = lines_are_draft lines.lines lines.last ended lines.leads lines.ends in
    let d = r.0 in
    record { draft = d; ended_is = r.1; valid = (both (is_problem d.columns d.k d.tracks d.connections) (is_budget d.budget) r.2).0; text = (r.2, lines.text ∙ ap (text_of job_format) r.3) }

job_text_by : (bytes : List ℕ) (d : Draft) → IsTrue (is_problem d.columns d.k d.tracks d.connections) → IsTextOfDraft bytes d → IsJobText bytes
job_text_by bytes d valid text = (job_by d valid, ((both (is_problem d.columns d.k d.tracks d.connections) (is_budget d.budget) text.0).1, text.1))

owes : OwesTexts job_format job_steps IsJobText
owes = record {
  own = job_lines_are;
  exact = λ s t l fine h. plain_exact job_table (given_of l) refl;
  spelled = λ bytes is. let text = said_fits bytes is.0 is.1 in (state.End (draft_of is.0), text_lines bytes (draft_of is.0) text);
  said = λ bytes ended lines. let r = lines_text bytes ended lines in job_text_by bytes r.draft r.valid r.text;
  completes = λ lines s fine leads. can_end s (good_after lines s leads);
}

-- the rules are those of the texts of jobs
pub job_rules_are : IsFormatOf job_rules IsJobText
job_rules_are = is_format job_format job_steps IsJobText owes

-- what is read is the draft whose text the bytes are
pub read_of : (bytes : List ℕ) (s : JobState) → reading job_rules bytes ≡ Ok s → IsOf bytes s
read_of bytes s h = lines_text bytes s (read_is_lines job_format job_lines_are job_steps owes.exact bytes s h)

-- and the text of a draft is read as that draft
text_read : (bytes : List ℕ) (d : Draft) → IsTextOfDraft bytes d → reading job_rules bytes ≡ Ok (state.End d)
text_read bytes d is = lines_are_read job_format job_lines_are job_steps bytes (state.End d) (text_lines bytes d is)

same_draft : (a b : Draft) → state.End a ≡ state.End b → a ≡ b
same_draft a b h = cc

ok_is : {A B : Type 0} (a b : A) → let r : Result A B = Ok a in r ≡ Ok b → a ≡ b
ok_is a b h = cc

-- the draft that was read keeps the ranges of a problem
pub read_fits : (bytes : List ℕ) (s : JobState) (d : Draft) → reading job_rules bytes ≡ Ok s → s ≡ state.End d → IsTrue (is_problem d.columns d.k d.tracks d.connections)
read_fits bytes s d h is =
    let r = read_of bytes s h in
    subst (λ (x : Draft). IsTrue (is_problem x.columns x.k x.tracks x.connections)) (same_draft r.draft d (sym r.ended_is ∙ is)) r.valid

pub first_read : (bytes : List ℕ) (s : JobState) (d : Draft) (job : Job) → reading job_rules bytes ≡ Ok s → s ≡ state.End d → draft_of job ≡ d → IsTextOf bytes job
first_read bytes s d job h is of =
    let r = read_of bytes s h in
    let text = subst (IsTextOfDraft bytes) (same_draft r.draft d (sym r.ended_is ∙ is) ∙ sym of) r.text in
    let p = job.problem in
    ((both (is_problem p.columns p.k p.tracks p.connections) (is_budget job.budget) text.0).1, text.1)

-- problems with the same parts are the same, since what they keep has one proof
same_problem : (a b : Problem) → a.columns ≡ b.columns → a.k ≡ b.k → a.tracks ≡ b.tracks → a.connections ≡ b.connections → a ≡ b
same_problem a b columns k tracks connections = λ i. record {
  columns = columns i;
  k = k i;
  tracks = tracks i;
  connections = connections i;
  valid = is_prop→PathP
      (λ j. IsTrue (is_problem (columns j) (k j) (tracks j) (connections j)))
      (λ j. Bool-set (is_problem (columns j) (k j) (tracks j) (connections j)) true)
      a.valid b.valid i;
}

same_job : (a b : Job) → draft_of a ≡ draft_of b → a ≡ b
same_job a b h =
    let problem = same_problem a.problem b.problem (ap (λ (d : Draft). d.columns) h) (ap (λ (d : Draft). d.k) h) (ap (λ (d : Draft). d.tracks) h) (ap (λ (d : Draft). d.connections) h) in
    let budget : a.budget ≡ b.budget = ap (λ (d : Draft). d.budget) h in
    λ i. record { problem = problem i; budget = budget i }

pub again_read : (bytes : List ℕ) (s : JobState) (d : Draft) (job other : Job) → reading job_rules bytes ≡ Ok s → s ≡ state.End d → draft_of job ≡ d → IsTextOf bytes other → job ≡ other
again_read bytes s d job other h is of text =
    same_job job other (of ∙ same_draft d (draft_of other) (sym is ∙ ok_is s (state.End (draft_of other)) (sym h ∙ text_read bytes (draft_of other) (said_fits bytes other text))))

-- the text of a job has no faulty line
pub never_refused : (bytes : List ℕ) (fault : TextFault Fault) (job : Job) → reading job_rules bytes ≡ Err fault → IsTextOf bytes job → ⊥
never_refused bytes fault job h text = let read = text_read bytes (draft_of job) (said_fits bytes job text) in cc

-- one text is of one job
pub one_job : OneJob
one_job bytes one other h k =
    let same = sym (text_read bytes (draft_of one) (said_fits bytes one h)) ∙ text_read bytes (draft_of other) (said_fits bytes other k) in
    same_job one other (same_draft (draft_of one) (draft_of other) (ok_is (state.End (draft_of one)) (state.End (draft_of other)) same))

pub never_both : NeverBoth
never_both bytes job number is faulty =
    let refused = first_is_fault job_rules IsJobText job_rules_are.reads job_rules_are.completes bytes number faulty in
    never_refused bytes (record { line = number; kind = refused.0 }) job refused.1 is
