-- What the command `search` owes, and what its statuses 0, 10 and 11 say.
use Rattle.std.proofs.Common.{ℕ, ◌≡◌, ◌≢◌, ◌==◌, ◌||◌, Bool, true, false, cond, List, [], ◌∷◌, Some, Contains, inl, inr, refl, sym, ap, subst, ◌∙◌, arith, Ok, Err}
use Rattle.act1_outside.specs.Outside.{Shelf}
use Rattle.act1_base.proofs.ListGets.{some_is}
use Rattle.act1_channel.specs.declared.problem.Log.{Log}
use Rattle.act1_job.specs.declared.job.Job.{Job}
use Rattle.act1_logtext.specs.declared.answer.Answer.{Answer}
use Rattle.act1_logtext.specs.declared.answer.Answer.TheVariants as answer
use Rattle.act1_logtext.specs.Answers.{answer_text}
use Rattle.act1_search.specs.declared.verdict.Verdict.{Verdict}
use Rattle.act1_search.specs.declared.verdict.Verdict.TheVariants as verdict
use Rattle.act1_search.specs.declared.verdict.SearchStop.TheVariants as stop
use Rattle.act1_search.specs.Answers.{IsAnswer}
use Rattle.act1_frame.specs.declared.ending.Ending.{Ending}
use Rattle.act1_frame.specs.declared.ending.FileText.{FileText}
use Rattle.act1_frame.specs.Leaving.{Leaves, PrintsAll}
use Rattle.act1_frame.specs.Reading.{Found}
use Rattle.act1_frame.specs.World.{World}
use Rattle.act1_frame.proofs.Fine.{IsFine, IsOfContent, content, done_content, reads_fine, went_on}
use Rattle.act1_frame.proofs.One.{one_of}
use Rattle.act1_frame.proofs.Runs.{IsLawful, IsSaid, done_said, file_written, said_at}
use Rattle.act1_frame.proofs.Stages.{reads_after}
use Rattle.act1_words.specs.declared.command.SearchWords.{SearchWords}
use Rattle.act1_top.specs.Files.{file_of, JobText, JobRefused}
use Rattle.act1_top.specs.SearchCommand.{search_reads, search_writes, search_writes_at, assigned_text, refuted_text, spent_text, answer_ending, verdict_ending, spent_ending, SearchEnds, SearchMayEnd, IsAnswered, SearchIsDone, SearchIsRefuted, SearchIsSpent}
use Rattle.act1_top.specs.Laws.{TextsAreOne}
use Rattle.act1_top.proofs.Places.{first_of}
use Rattle.act1_top.proofs.TextsRead.{job_exact, job_fine, job_apart}

ten_content : IsOfContent 10
ten_content = content 10 (omega arith) (λ n. absurd (omega (arith, n)))

eleven_content : IsOfContent 11
eleven_content = content 11 (omega arith) (λ n. absurd (omega (arith, n)))

-- the answer is the one file that is written
file_is : (name : List ℕ) (status : ℕ) (text : List ℕ) (a : Answer) (f : FileText) → (answer_ending name status text a).file ≡ Some f → record { name = name; bytes = answer_text a } ≡ f
file_is name status text a f h = some_is (record { name = name; bytes = answer_text a }) f h

module _ (Usage : Type 0) (words : SearchWords) (before after : Shelf) where
  answer_fine : (status : ℕ) (text : List ℕ) (a : Answer) → IsOfContent status → search_writes_at words status ≡ words.answer ∷ []
      → IsFine Usage (search_reads words) (search_writes_at words) before after (answer_ending words.answer status text a)
  answer_fine status text a of at = record {
    words = λ n. absurd (of.one n);
    three = of.three;
    read = λ n. absurd (of.two n);
    long = λ n. absurd (of.sixteen n);
    file = λ f h. subst (λ (names : List (List ℕ)). Contains names f.name) (sym at)
        (subst (λ (g : FileText). Contains (words.answer ∷ []) g.name) (file_is words.answer status text a f h) (first_of words.answer []));
  }

  verdict_fine : (v : Verdict) → IsFine Usage (search_reads words) (search_writes_at words) before after (verdict_ending words.answer v)
  verdict_fine (verdict.Assigned tracks) = answer_fine 0 assigned_text (answer.Assigned tracks) done_content refl
  verdict_fine (verdict.Refuted log) = answer_fine 10 refuted_text (answer.Refuted log) ten_content refl

  ends_fine : (job : Job) (e : Ending) → SearchEnds words.answer job e → IsFine Usage (search_reads words) (search_writes_at words) before after e
  ends_fine job e (inl (v, h, is)) = subst (λ (p : Ending). IsFine Usage (search_reads words) (search_writes_at words) before after p) (sym is) (verdict_fine v)
  ends_fine job e (inr (h, is)) =
      subst (λ (p : Ending). IsFine Usage (search_reads words) (search_writes_at words) before after p) (sym is) (answer_fine 11 (spent_text job.budget) (answer.Spent job.budget) eleven_content refl)

  fine : (e : Ending) → SearchMayEnd words before after e → IsFine Usage (search_reads words) (search_writes_at words) before after e
  fine =
      reads_fine Usage (search_reads words) (search_writes_at words) before after JobText JobRefused (file_of words.job) (SearchEnds words.answer) (first_of (file_of words.job) [])
      (job_fine Usage (search_reads words) (search_writes_at words) before after) ends_fine

-- the status of an ending
status_of : (e p : Ending) → e ≡ p → e.status ≡ p.status
status_of e p h = ap (λ (x : Ending). x.status) h

-- a search has one end
module _ (laws : TextsAreOne) (job : Job) where
  apart : (tracks : List ℕ) (log : Log) → IsAnswer job.problem job.budget (Ok (verdict.Assigned tracks)) → IsAnswer job.problem job.budget (Ok (verdict.Refuted log)) → ⊥
  apart tracks log (steps, ends, few) (refuted, short, accepted) = laws.logs_refute job.problem log.steps accepted tracks (laws.fit job.problem steps tracks ends)

  same_verdict : (name : List ℕ) (v w : Verdict) → IsAnswer job.problem job.budget (Ok v) → IsAnswer job.problem job.budget (Ok w) → (verdict_ending name v).status ≡ (verdict_ending name w).status
  same_verdict name (verdict.Assigned tracks) (verdict.Assigned others) h k = refl
  same_verdict name (verdict.Assigned tracks) (verdict.Refuted log) h k = absurd (apart tracks log h k)
  same_verdict name (verdict.Refuted log) (verdict.Assigned tracks) h k = absurd (apart tracks log k h)
  same_verdict name (verdict.Refuted log) (verdict.Refuted other) h k = refl

  unspent : (v : Verdict) → IsAnswer job.problem job.budget (Ok v) → IsAnswer job.problem job.budget (Err (stop.Spent job.budget)) → ⊥
  unspent v h (same, short, (chosen, conflict, some)) = laws.spent job.problem job.budget chosen v conflict some h

  same_status : (name : List ℕ) (e p : Ending) → SearchEnds name job e → SearchEnds name job p → e.status ≡ p.status
  same_status name e p (inl (v, h, is)) (inl (w, k, are)) = status_of e (verdict_ending name v) is ∙ same_verdict name v w h k ∙ sym (status_of p (verdict_ending name w) are)
  same_status name e p (inl (v, h, is)) (inr (k, are)) = absurd (unspent v h k)
  same_status name e p (inr (h, is)) (inl (w, k, are)) = absurd (unspent w k h)
  same_status name e p (inr (h, is)) (inr (k, are)) = status_of e (spent_ending name job.budget) is ∙ sym (status_of p (spent_ending name job.budget) are)

pub search_lawful : TextsAreOne → (Usage : Type 0) (words : SearchWords) → IsLawful Usage (search_reads words) (search_writes words) (search_writes_at words) (λ e. ⊥) (SearchMayEnd words)
search_lawful laws Usage words = record {
  fine = λ before after e h. fine Usage words before after e h;
  later = λ before mid after same. reads_after before mid after same JobText JobRefused (file_of words.job) (SearchEnds words.answer) (SearchEnds words.answer) (λ job e k. k);
  one = λ before after told no_fault e p h k. inl (
      one_of before after told (file_of words.job) (λ f. no_fault (file_of words.job, first_of (file_of words.job) [], f)) JobText JobRefused (job_exact laws) (SearchEnds words.answer)
      (λ job j. same_status laws job words.answer) e p h k);
  named = λ status name h. named_by (status == 0 || status == 10 || status == 11) name h;
}
  where
    named_by : (written : Bool) (name : List ℕ) → Contains (cond written (words.answer ∷ []) []) name → Contains (words.answer ∷ []) name
    named_by true name h = h
    named_by false name h = absurd (omega (arith, h.1))

module _ (laws : TextsAreOne) (words : SearchWords) (before : World) (result : ℕ) (after : World) (e : Ending) (leaves : Leaves e before.shelf before.paper result after.shelf after.paper) where
  -- an answer is left under its name
  answered : (n : ℕ) → IsSaid n → (job : Job) (a : Answer) (text : List ℕ) (status : ℕ) → Found JobText before.shelf (file_of words.job) job → e ≡ answer_ending words.answer status text a → result ≡ n → IsAnswered words before after job a text
  answered n said job a text status j is r =
      let w = file_written n said e (record { name = words.answer; bytes = answer_text a }) before.shelf before.paper result after.shelf after.paper (ap (λ (p : Ending). p.file) is) leaves r in
      record {
        bytes = j.bytes;
        held = j.read.held;
        text_of = j.text;
        written = w.holds;
        printed = subst (λ (t : List ℕ). PrintsAll t before.paper after.paper) (ap (λ (p : Ending). p.text) is) w.printed;
      }

  -- the job that was found
  found : (status : ℕ) → status ≢ 2 → status ≢ 16 → status ≢ 17 → SearchMayEnd words before.shelf after.shelf e → e.status ≡ status → (job : Job) × Found JobText before.shelf (file_of words.job) job × SearchEnds words.answer job e
  found status two sixteen seventeen may is = went_on JobText JobRefused before.shelf after.shelf (file_of words.job) (SearchEnds words.answer) status two sixteen (job_apart status seventeen) e may is

  done_by : (job : Job) → Found JobText before.shelf (file_of words.job) job → SearchEnds words.answer job e → e.status ≡ 0 → result ≡ 0 → SearchIsDone words before after
  done_by job j (inl (verdict.Assigned tracks, (steps, ends, few), is)) zero r = record {
    job = job;
    steps = steps;
    tracks = tracks;
    answered = answered 0 done_said job (answer.Assigned tracks) assigned_text 0 j is r;
    ends = ends;
    few = few;
    assigns = laws.fit job.problem steps tracks ends;
  }
  done_by job j (inl (verdict.Refuted log, h, is)) zero r = let ten = status_of e (verdict_ending words.answer (verdict.Refuted log)) is in absurd (omega (arith, zero))
  done_by job j (inr (h, is)) zero r = let eleven = status_of e (spent_ending words.answer job.budget) is in absurd (omega (arith, zero))

  refuted_by : (job : Job) → Found JobText before.shelf (file_of words.job) job → SearchEnds words.answer job e → e.status ≡ 10 → result ≡ 10 → SearchIsRefuted words before after
  refuted_by job j (inl (verdict.Assigned tracks, h, is)) ten r = let zero = status_of e (verdict_ending words.answer (verdict.Assigned tracks)) is in absurd (omega (arith, ten))
  refuted_by job j (inl (verdict.Refuted log, (ends, few, accepted), is)) ten r = record {
    job = job;
    log = log;
    answered = answered 10 (said_at 10 (λ n. absurd (omega (arith, n))) (λ n. absurd (omega (arith, n)))) job (answer.Refuted log) refuted_text 10 j is r;
    accepted = accepted;
    ends = ends;
    none = laws.logs_refute job.problem log.steps accepted;
  }
  refuted_by job j (inr (h, is)) ten r = let eleven = status_of e (spent_ending words.answer job.budget) is in absurd (omega (arith, ten))

  spent_by : (job : Job) → Found JobText before.shelf (file_of words.job) job → SearchEnds words.answer job e → e.status ≡ 11 → result ≡ 11 → SearchIsSpent words before after
  spent_by job j (inl (verdict.Assigned tracks, h, is)) eleven r = let zero = status_of e (verdict_ending words.answer (verdict.Assigned tracks)) is in absurd (omega (arith, eleven))
  spent_by job j (inl (verdict.Refuted log, h, is)) eleven r = let ten = status_of e (verdict_ending words.answer (verdict.Refuted log)) is in absurd (omega (arith, eleven))
  spent_by job j (inr ((same, short, (chosen, conflict, some)), is)) eleven r = record {
    job = job;
    chosen = chosen;
    answered = answered 11 (said_at 11 (λ n. absurd (omega (arith, n))) (λ n. absurd (omega (arith, n)))) job (answer.Spent job.budget) (spent_text job.budget) 11 j is r;
    conflict = conflict;
    unfinished = some;
    short = short;
  }

  pub search_done : SearchMayEnd words before.shelf after.shelf e → e.status ≡ 0 → result ≡ 0 → SearchIsDone words before after
  search_done may zero r =
      let f = found 0 (λ n. absurd (omega (arith, n))) (λ n. absurd (omega (arith, n))) (λ n. absurd (omega (arith, n))) may zero in
      done_by f.0 f.1 f.2 zero r

  pub search_refuted : SearchMayEnd words before.shelf after.shelf e → e.status ≡ 10 → result ≡ 10 → SearchIsRefuted words before after
  search_refuted may ten r =
      let f = found 10 (λ n. absurd (omega (arith, n))) (λ n. absurd (omega (arith, n))) (λ n. absurd (omega (arith, n))) may ten in
      refuted_by f.0 f.1 f.2 ten r

  pub search_spent : SearchMayEnd words before.shelf after.shelf e → e.status ≡ 11 → result ≡ 11 → SearchIsSpent words before after
  search_spent may eleven r =
      let f = found 11 (λ n. absurd (omega (arith, n))) (λ n. absurd (omega (arith, n))) (λ n. absurd (omega (arith, n))) may eleven in
      spent_by f.0 f.1 f.2 eleven r

-- it never has the answer of routes
pub search_never : (words : SearchWords) (before after : Shelf) (e : Ending) → SearchMayEnd words before after e → e.status ≡ 9 → ⊥
search_never words before after e may nine = by f.2
  where
    f : (job : Job) × Found JobText before (file_of words.job) job × SearchEnds words.answer job e
    f = went_on JobText JobRefused before after (file_of words.job) (SearchEnds words.answer) 9 (λ n. absurd (omega (arith, n))) (λ n. absurd (omega (arith, n))) (job_apart 9 (λ n. absurd (omega (arith, n)))) e may nine

    by : SearchEnds words.answer f.0 e → ⊥
    by (inl (verdict.Assigned tracks, h, is)) = let zero = status_of e (verdict_ending words.answer (verdict.Assigned tracks)) is in absurd (omega (arith, nine))
    by (inl (verdict.Refuted log, h, is)) = let ten = status_of e (verdict_ending words.answer (verdict.Refuted log)) is in absurd (omega (arith, nine))
    by (inr (h, is)) = let eleven = status_of e (spent_ending words.answer f.0.budget) is in absurd (omega (arith, nine))
