use Rattle.act1_plan.proofs.PlanTexts.{plan_rules_are, ends_at_plan, first_read, again_read, never_refused}
use Rattle.act1_plan.proofs.read.read_plan.Goals as goal

pub unreachable-requires : goal.unreachable-requires
unreachable-requires c = let r = ends_at_plan c.args.bytes.now c.in-Ok.state c.in-Ok.ensures.reads in c.in_default.not-Body r.0 r.1

pub returns-in-Body-clause-first : goal.returns-in-Body-clause-first
returns-in-Body-clause-first c = first_read c.args.bytes.now c.in-Ok.state c.in-Body.plan c.in-Ok.ensures.reads c.in-Body.is

pub returns-in-Body-clause-again : goal.returns-in-Body-clause-again
returns-in-Body-clause-again c = λ plan is. again_read c.args.bytes.now c.in-Ok.state c.in-Body.plan plan c.in-Ok.ensures.reads c.in-Body.is is

pub returns-in-Err-Fault-clause-first : goal.returns-in-Err-Fault-clause-first
returns-in-Err-Fault-clause-first c = rw c.in-Err-Fault.field-0-is at (c.in-Err-Fault.ensures.texts plan_rules_are)

pub returns-in-Err-Fault-clause-again : goal.returns-in-Err-Fault-clause-again
returns-in-Err-Fault-clause-again c = λ plan is. absurd (never_refused c.args.bytes.now c.in-Err-Fault.field-0-0 plan (rw c.in-Err-Fault.field-0-is at c.in-Err-Fault.ensures.reads) is)
