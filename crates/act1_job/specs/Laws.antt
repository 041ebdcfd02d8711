-- The law of the texts of jobs.
use Rattle.std.specs.Prelude.{ℕ, ◌≡◌, List}
use Rattle.act1_base.specs.FirstFault.{IsFirstFaultyLine}
use Rattle.act1_job.specs.Reads.{IsTextOf, IsJobText}
use Rattle.act1_job.specs.declared.job.Job.{Job}

-- the bytes are the text of one job at most
abbrev pub OneJob : Type 0
OneJob = (bytes : List ℕ) (one other : Job) → IsTextOf bytes one → IsTextOf bytes other → one ≡ other

-- the text of a job has no faulty line
abbrev pub NeverBoth : Type 0
NeverBoth = (bytes : List ℕ) (job : Job) (number : ℕ) → IsTextOf bytes job → IsFirstFaultyLine IsJobText bytes number → ⊥
