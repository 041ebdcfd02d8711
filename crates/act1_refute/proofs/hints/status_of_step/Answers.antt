use Rattle.std.proofs.Common.{◌+◌, List, false, take, sym, subst}
use Rattle.std.specs.Prelude.{Contains}
use Rattle.std.proofs.lemmas.List.{take_all}
use Rattle.act1_channel.specs.declared.problem.Choice.{Choice}
use Rattle.act1_channel.specs.Assignment.{choice_at}
use Rattle.act1_channel.specs.Found.{facts_of}
use Rattle.act1_refute.specs.StatusSteps.{IsStatus}
use Rattle.act1_refute.specs.declared.status.Status.{Status}
use Rattle.act1_refute.proofs.HintLemmas.{step_more}
use Rattle.act1_refute.proofs.hints.status_of_step.Goals as goal

pub loop-choice-preserved : goal.loop-choice-preserved
loop-choice-preserved c =
    let facts = facts_of c.args.trail.now.entries in
    let i = c.loop-choice.choice-index in
    subst (λ (s : Status). IsStatus facts (Unit {0}) false (Contains (take (i + 1) c.args.choices.now)) s) (sym c.with_part-status.ensures)
    (step_more c.args.problem.now facts c.args.choices.now i (choice_at 0 0) c.loop-choice.status c.known.result c.requires.choices c.loop-choice-test.true c.known.ensures c.loop-choice.invariant)

pub returns : goal.returns
returns c =
    subst (λ (xs : List Choice). IsStatus (facts_of c.args.trail.now.entries) (Unit {0}) false (Contains xs) c.loop-choice.status)
    (take_all c.loop-choice.choice-index c.args.choices.now c.loop-choice-test.false) c.loop-choice.invariant
