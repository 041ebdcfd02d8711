use Rattle.std.proofs.Common.{List, false, sym, subst}
use Rattle.std.specs.Prelude.{Contains}
use Rattle.act1_base.proofs.ListGets.{get_map, get_read}
use Rattle.act1_channel.specs.declared.problem.Choice.{Choice}
use Rattle.act1_channel.specs.declared.problem.Hint.{Hint}
use Rattle.act1_channel.specs.declared.problem.Step.{Step}
use Rattle.act1_channel.specs.Acceptance.{choices_of}
use Rattle.act1_channel.specs.Found.{facts_of}
use Rattle.act1_refute.specs.HintSteps.{IsStatusOf}
use Rattle.act1_refute.specs.StatusSteps.{IsStatus}
use Rattle.act1_refute.proofs.HintLemmas.{lift_connection, lift_clash, lift_step}
use Rattle.act1_refute.proofs.hints.status_of.Goals as goal

pub returns-in-AtLeast : goal.returns-in-AtLeast
returns-in-AtLeast c =
    subst (λ (h : Hint). IsStatusOf c.args.problem.now (choices_of c.args.earlier.now) (facts_of c.args.trail.now.entries) h c.status_of_connection.result) (sym c.in-AtLeast.is)
    (lift_connection c.args.problem.now (choices_of c.args.earlier.now) (facts_of c.args.trail.now.entries) c.in-AtLeast.connection c.status_of_connection.result c.status_of_connection.ensures)

pub returns-in-Clash : goal.returns-in-Clash
returns-in-Clash c =
    subst (λ (h : Hint). IsStatusOf c.args.problem.now (choices_of c.args.earlier.now) (facts_of c.args.trail.now.entries) h c.status_of_clash.result) (sym c.in-Clash.is)
    (lift_clash c.args.problem.now (choices_of c.args.earlier.now) (facts_of c.args.trail.now.entries) c.in-Clash.first c.in-Clash.second c.in-Clash.track c.status_of_clash.result c.status_of_clash.ensures)

pub returns-in-Some : goal.returns-in-Some
returns-in-Some c =
    let facts = facts_of c.args.trail.now.entries in
    let found = c.in-Some.ensures.lookup in
    let at = get_map (λ (s : Step). s.choices) c.args.earlier.now c.in-Step.number c.in-Some.step.now (get_read c.args.earlier.now c.in-Step.number c.in-Some.step.now found.3.0 found.1) in
    let is = subst (λ (choices : List Choice). IsStatus facts (Unit {0}) false (Contains choices) c.status_of_step.result) c.as_slice.ensures c.status_of_step.ensures in
    subst (λ (h : Hint). IsStatusOf c.args.problem.now (choices_of c.args.earlier.now) facts h c.status_of_step.result) (sym c.in-Step.is)
    (lift_step c.args.problem.now (choices_of c.args.earlier.now) facts c.in-Step.number c.in-Some.step.now.choices c.status_of_step.result at is)
