use Rattle.act1_logtext.proofs.AnswerTexts.{answer_rules_are, read_of, read_few, first_read, again_read, never_refused}
use Rattle.act1_logtext.proofs.answer_read.read_answer.Goals as goal

pub unreachable-requires : goal.unreachable-requires
unreachable-requires c = let r = read_of c.args.bytes.now c.in-Ok.state c.in-Ok.ensures.reads in c.in_default.not-End r.draft r.ended_is

pub answer_of-requires : goal.answer_of-requires
answer_of-requires c = read_few c.args.bytes.now c.in-Ok.state c.in-End.draft c.in-Ok.ensures.reads c.in-End.is

pub returns-in-End-clause-first : goal.returns-in-End-clause-first
returns-in-End-clause-first c = first_read c.args.bytes.now c.in-Ok.state c.in-End.draft c.answer_of.result c.in-Ok.ensures.reads c.in-End.is c.answer_of.ensures

pub returns-in-End-clause-again : goal.returns-in-End-clause-again
returns-in-End-clause-again c = λ a is. again_read c.args.bytes.now c.in-Ok.state c.in-End.draft c.answer_of.result a c.in-Ok.ensures.reads c.in-End.is c.answer_of.ensures is

pub returns-in-Err-Fault-clause-first : goal.returns-in-Err-Fault-clause-first
returns-in-Err-Fault-clause-first c = rw c.in-Err-Fault.field-0-is at (c.in-Err-Fault.ensures.texts answer_rules_are)

pub returns-in-Err-Fault-clause-again : goal.returns-in-Err-Fault-clause-again
returns-in-Err-Fault-clause-again c = λ a is. absurd (never_refused c.args.bytes.now c.in-Err-Fault.field-0-0 a (rw c.in-Err-Fault.field-0-is at c.in-Err-Fault.ensures.reads) is)
