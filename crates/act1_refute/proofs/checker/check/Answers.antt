use Rattle.std.proofs.Common.{List, sym, subst, ◌∙◌, true≢false, arith}
use Rattle.act1_channel.specs.declared.problem.Step.{Step}
use Rattle.act1_channel.specs.Acceptance.{IsFinished}
use Rattle.act1_channel.proofs.Breaks.{sizes}
use Rattle.act1_channel.proofs.Refutes.{refutes}
use Rattle.act1_refute.specs.Verdict.{IsFirstFault}
use Rattle.act1_refute.proofs.VerdictLemmas.{accepted_all, accepted_more, first_fault, steps_in_order}
use Rattle.act1_refute.proofs.checker.check.Goals as goal

pub new-requires-clause-connections : goal.new-requires-clause-connections
new-requires-clause-connections c = let few = sizes c.args.problem.now in omega (arith, few.2)

pub new-requires-clause-tracks : goal.new-requires-clause-tracks
new-requires-clause-tracks c = let few = sizes c.args.problem.now in omega (arith, few.1)

pub is_accepted-requires-clause-steps : goal.is_accepted-requires-clause-steps
is_accepted-requires-clause-steps c = steps_in_order c.args.problem.now c.as_slice-steps.result.now c.loop-number.number c.loop-number.invariant.2

pub returns-then-not-is_accepted-clause-verdict : goal.returns-then-not-is_accepted-clause-verdict
returns-then-not-is_accepted-clause-verdict c =
    let p = c.args.problem.now in
    subst (λ (log : List Step). IsFirstFault p log c.loop-number.number) c.as_slice-steps.ensures
    (first_fault p c.as_slice-steps.result.now c.loop-number.number c.index-steps-number.result c.loop-number-test.true c.index-steps-number.is
    (λ ok. true≢false (sym (c.is_accepted.ensures.answer.1 ok) ∙ c.if-not-is_accepted.true)) c.loop-number.invariant.2)

pub loop-number-preserved : goal.loop-number-preserved
loop-number-preserved c = (
  let trail = c.is_accepted.ensures.trail in rw trail c.loop-number.invariant.0,
  let trail = c.is_accepted.ensures.trail in rw trail c.loop-number.invariant.1,
  accepted_more c.args.problem.now c.as_slice-steps.result.now c.loop-number.number c.index-steps-number.result c.loop-number-test.true c.index-steps-number.is
      (c.is_accepted.ensures.answer.0 c.if-not-is_accepted.false) c.loop-number.invariant.2,
)

pub returns-then-not-is_finished-clause-verdict : goal.returns-then-not-is_finished-clause-verdict
returns-then-not-is_finished-clause-verdict c =
    let p = c.args.problem.now in (
      accepted_all p c.as_slice-steps.result.now c.args.log.now.steps c.loop-number.number c.as_slice-steps.ensures c.loop-number-test.false c.loop-number.invariant.2,
      λ last. true≢false (sym (c.is_finished.ensures.1 (subst (λ (log : List Step). IsFinished log) (sym c.as_slice-steps.ensures) last)) ∙ c.if-not-is_finished.true),
    )

pub returns-clause-verdict : goal.returns-clause-verdict
returns-clause-verdict c = record {
  each = accepted_all c.args.problem.now c.as_slice-steps.result.now c.args.log.now.steps c.loop-number.number c.as_slice-steps.ensures c.loop-number-test.false c.loop-number.invariant.2;
  last = subst (λ (log : List Step). IsFinished log) c.as_slice-steps.ensures (c.is_finished.ensures.0 c.if-not-is_finished.false);
}

pub returns-clause-refutes : goal.returns-clause-refutes
returns-clause-refutes c = refutes c.args.problem.now c.args.log.now.steps (record {
  each = accepted_all c.args.problem.now c.as_slice-steps.result.now c.args.log.now.steps c.loop-number.number c.as_slice-steps.ensures c.loop-number-test.false c.loop-number.invariant.2;
  last = subst (λ (log : List Step). IsFinished log) c.as_slice-steps.ensures (c.is_finished.ensures.0 c.if-not-is_finished.false);
})
