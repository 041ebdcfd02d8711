-- The command `search`.
use Rattle.std.specs.Prelude.{ℕ, ◌≡◌, ◌≢◌, ◌<◌, ◌⊎◌, ◌==◌, ◌||◌, ◌+◌, ◌^◌, if◌then◌else◌, List, [], ◌∷◌, length, codes, Some, Ok, Err}
use Rattle.std.specs.Fmt.{decimal}
use Rattle.act1_base.specs.Words.{text_line}
use Rattle.act1_outside.specs.Outside.{Shelf}
use Rattle.act1_channel.specs.declared.problem.Choice.{Choice}
use Rattle.act1_channel.specs.declared.problem.Log.{Log}
use Rattle.act1_channel.specs.Acceptance.{IsAccepted, choices_of}
use Rattle.act1_channel.specs.Assignment.{Assigns}
use Rattle.act1_job.specs.declared.job.Job.{Job}
use Rattle.act1_job.specs.Reads.{IsTextOf}
use Rattle.act1_logtext.specs.declared.answer.Answer.{Answer}
use Rattle.act1_logtext.specs.declared.answer.Answer.TheVariants as answer
use Rattle.act1_logtext.specs.Answers.{answer_text}
use Rattle.act1_search.specs.declared.verdict.Verdict.{Verdict}
use Rattle.act1_search.specs.declared.verdict.Verdict.TheVariants as verdict
use Rattle.act1_search.specs.declared.verdict.SearchStop.TheVariants as stop
use Rattle.act1_search.specs.Answers.{IsAnswer}
use Rattle.act1_search.specs.Search.{EndsAssigned, EndsRefuted, HasConflict}
use Rattle.act1_frame.specs.declared.ending.Ending.{Ending}
use Rattle.act1_frame.specs.Leaving.{NowHolds, PrintsAll}
use Rattle.act1_frame.specs.Reading.{Wanted, Holds}
use Rattle.act1_frame.specs.Stages.{Reads}
use Rattle.act1_frame.specs.World.{World}
use Rattle.act1_words.specs.declared.command.SearchWords.{SearchWords}
use Rattle.act1_top.specs.Files.{file_of, JobText, JobRefused}

-- the files that it reads and writes, and those that it writes at a status
abbrev pub search_reads : SearchWords → List Wanted
search_reads words = file_of words.job ∷ []

abbrev pub search_writes : SearchWords → List (List ℕ)
search_writes words = words.answer ∷ []

abbrev pub search_writes_at : SearchWords → ℕ → List (List ℕ)
search_writes_at words status = if status == 0 || status == 10 || status == 11 then words.answer ∷ [] else []

-- what is printed of each answer
abbrev pub assigned_text : List ℕ
assigned_text = text_line (codes "assigned" ∷ [])

abbrev pub refuted_text : List ℕ
refuted_text = text_line (codes "refuted" ∷ [])

abbrev pub spent_text : ℕ → List ℕ
spent_text conflicts = text_line (codes "spent" ∷ decimal conflicts ∷ [])

-- the text of an answer is written under the name, and this is printed
abbrev pub answer_ending : List ℕ → ℕ → List ℕ → Answer → Ending
answer_ending name status text a = record { status = status; text = text; file = Some (record { name = name; bytes = answer_text a }) }

abbrev pub verdict_ending : List ℕ → Verdict → Ending
verdict_ending name (verdict.Assigned tracks) = answer_ending name 0 assigned_text (answer.Assigned tracks)
verdict_ending name (verdict.Refuted log) = answer_ending name 10 refuted_text (answer.Refuted log)

abbrev pub spent_ending : List ℕ → ℕ → Ending
spent_ending name conflicts = answer_ending name 11 (spent_text conflicts) (answer.Spent conflicts)

-- what the search for a job ends with: its assignment or an accepted log; or that its conflict of the budget's number has choices
abbrev pub SearchEnds : List ℕ → Job → Ending → Type 0
SearchEnds name job e =
    ((v : Verdict) × IsAnswer job.problem job.budget (Ok v) × (e ≡ verdict_ending name v))
    ⊎ (IsAnswer job.problem job.budget (Err (stop.Spent job.budget)) × (e ≡ spent_ending name job.budget))

-- its endings, by the stage that they come from
abbrev pub SearchMayEnd : SearchWords → Shelf → Shelf → Ending → Type 0
SearchMayEnd words before after e = Reads JobText JobRefused before after (file_of words.job) (SearchEnds words.answer) e

-- The bytes under JOB are the one text of a job, whose answer has this text, which ANSWER now holds; and this is printed.
pub record IsAnswered (words : SearchWords) (before after : World) (job : Job) (a : Answer) (text : List ℕ) : Type 0 where
  pub bytes : List ℕ
  pub held : Holds before.shelf words.job bytes
  pub text_of : IsTextOf bytes job
  pub written : NowHolds words.answer (answer_text a) before.shelf after.shelf
  pub printed : PrintsAll text before.paper after.paper

-- A search that is done. The answer is the assignment at which the ordered clause search of the job's channel ends: each connection is on a track on which its interval overlaps few enough segments, and no two connections share a segment.
pub record SearchIsDone (words : SearchWords) (before after : World) : Type 0 where
  pub job : Job
  pub steps : List (List Choice)
  pub tracks : List ℕ
  pub answered : IsAnswered words before after job (answer.Assigned tracks) assigned_text
  pub ends : EndsAssigned job.problem steps tracks
  pub few : length steps < job.budget
  pub assigns : Assigns job.problem tracks

-- A search that is refuted. The answer is an accepted log, whose steps are the conflicts of the search, the last one without choices; and so the channel has no assignment.
pub record SearchIsRefuted (words : SearchWords) (before after : World) : Type 0 where
  pub job : Job
  pub log : Log
  pub answered : IsAnswered words before after job (answer.Refuted log) refuted_text
  pub accepted : IsAccepted job.problem log.steps
  pub ends : EndsRefuted job.problem (choices_of log.steps)
  pub none : (tracks : List ℕ) → Assigns job.problem tracks → ⊥

-- A search that is spent. The answer is the budget: the conflict of that number has choices, and so the budget is below `(1 + T)^n`, T the number of tracks and n that of connections.
pub record SearchIsSpent (words : SearchWords) (before after : World) : Type 0 where
  pub job : Job
  pub chosen : List Choice
  pub answered : IsAnswered words before after job (answer.Spent job.budget) (spent_text job.budget)
  pub conflict : HasConflict job.problem job.budget chosen
  pub unfinished : chosen ≢ []
  pub short : job.budget < (1 + length job.problem.tracks) ^ length job.problem.connections
