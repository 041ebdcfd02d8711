use Rattle.act1_job.proofs.JobTexts.{never_both, one_job}
use Rattle.act1_job.proofs.laws.job_texts_are_exact.Goals as goal

pub returns : goal.returns
returns c = record { one = one_job; never = never_both }
