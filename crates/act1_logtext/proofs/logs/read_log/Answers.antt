use Rattle.act1_logtext.proofs.LogTexts.{log_rules_are, read_few, first_read, again_read, never_refused}
use Rattle.act1_logtext.proofs.logs.read_log.Goals as goal

pub log_of-requires : goal.log_of-requires
log_of-requires c = read_few c.args.bytes.now c.in-Ok.steps c.in-Ok.ensures.reads

pub returns-in-Ok-clause-first : goal.returns-in-Ok-clause-first
returns-in-Ok-clause-first c = first_read c.args.bytes.now c.in-Ok.steps c.log_of.result c.in-Ok.ensures.reads c.log_of.ensures

pub returns-in-Ok-clause-again : goal.returns-in-Ok-clause-again
returns-in-Ok-clause-again c = λ log is. again_read c.args.bytes.now c.in-Ok.steps c.log_of.result log c.in-Ok.ensures.reads c.log_of.ensures is

pub returns-in-Err-Fault-clause-first : goal.returns-in-Err-Fault-clause-first
returns-in-Err-Fault-clause-first c = rw c.in-Err-Fault.field-0-is at (c.in-Err-Fault.ensures.texts log_rules_are)

pub returns-in-Err-Fault-clause-again : goal.returns-in-Err-Fault-clause-again
returns-in-Err-Fault-clause-again c = λ log is. absurd (never_refused c.args.bytes.now c.in-Err-Fault.field-0-0 log (rw c.in-Err-Fault.field-0-is at c.in-Err-Fault.ensures.reads) is)
