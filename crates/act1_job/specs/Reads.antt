-- What the reader of jobs answers.
use Rattle.std.specs.Prelude.{ℕ, ◌≡◌, IsTrue, List, Result, Ok, Err}
use Rattle.act1_base.specs.FirstFault.{IsFirstFaultyLine}
use Rattle.act1_job.specs.Jobs.{is_job}
use Rattle.act1_job.specs.Lines.{job_text}
use Rattle.act1_job.specs.declared.fault.JobFault.{JobFault}
use Rattle.act1_job.specs.declared.fault.JobFault.TheVariants.{Line, Memory}
use Rattle.act1_job.specs.declared.job.Job.{Job}

-- the bytes are the text of this job
abbrev pub IsTextOf : List ℕ → Job → Type 0
IsTextOf bytes job = IsTrue (is_job job) × (bytes ≡ job_text job)

-- the bytes are the text of some job
abbrev pub IsJobText : List ℕ → Type 0
IsJobText bytes = (job : Job) × IsTextOf bytes job

-- the job whose text the bytes are, or their first faulty line; want of memory alone is free
abbrev pub JobReads : List ℕ → Result Job JobFault → Type 0
JobReads bytes (Ok job) = IsTextOf bytes job
JobReads bytes (Err (Line number)) = IsFirstFaultyLine IsJobText bytes number
JobReads bytes (Err Memory) = Unit {0}

-- this job is read, unless memory is short
abbrev pub IsReadAs : Job → Result Job JobFault → Type 0
IsReadAs job (Ok read) = read ≡ job
IsReadAs job (Err fault) = fault ≡ Memory

-- the text of a job is read as that job
abbrev pub ReadsAgain : List ℕ → Result Job JobFault → Type 0
ReadsAgain bytes result = (job : Job) → IsTextOf bytes job → IsReadAs job result
