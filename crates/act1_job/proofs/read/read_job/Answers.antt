use Rattle.act1_job.proofs.JobTexts.{job_rules_are, read_of, read_fits, first_read, again_read, never_refused}
use Rattle.act1_job.proofs.read.read_job.Goals as goal

pub unreachable-requires : goal.unreachable-requires
unreachable-requires c = let r = read_of c.args.bytes.now c.in-Ok.state c.in-Ok.ensures.reads in c.in_default.not-End r.draft r.ended_is

pub job_of-requires : goal.job_of-requires
job_of-requires c = read_fits c.args.bytes.now c.in-Ok.state c.in-End.draft c.in-Ok.ensures.reads c.in-End.is

pub returns-in-End-clause-first : goal.returns-in-End-clause-first
returns-in-End-clause-first c = first_read c.args.bytes.now c.in-Ok.state c.in-End.draft c.job_of.result c.in-Ok.ensures.reads c.in-End.is c.job_of.ensures

pub returns-in-End-clause-again : goal.returns-in-End-clause-again
returns-in-End-clause-again c = λ job is. again_read c.args.bytes.now c.in-Ok.state c.in-End.draft c.job_of.result job c.in-Ok.ensures.reads c.in-End.is c.job_of.ensures is

pub returns-in-Err-Fault-clause-first : goal.returns-in-Err-Fault-clause-first
returns-in-Err-Fault-clause-first c = rw c.in-Err-Fault.field-0-is at (c.in-Err-Fault.ensures.texts job_rules_are)

pub returns-in-Err-Fault-clause-again : goal.returns-in-Err-Fault-clause-again
returns-in-Err-Fault-clause-again c = λ job is. absurd (never_refused c.args.bytes.now c.in-Err-Fault.field-0-0 job (rw c.in-Err-Fault.field-0-is at c.in-Err-Fault.ensures.reads) is)
