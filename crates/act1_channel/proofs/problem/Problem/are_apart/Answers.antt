use Rattle.std.proofs.Common.{refl, sym, ◌∙◌, true≢false}
use Rattle.act1_channel.proofs.AssignmentLemmas.{apart_one, apart_more, apart_all}
use Rattle.act1_channel.proofs.problem.Problem.are_apart.Goals as goal

pub loop-c-preserved : goal.loop-c-preserved
loop-c-preserved c = (
  c.loop-c.invariant.0,
  apart_one c.args.self.now c.args.tracks.now c.loop-d.d c.loop-c.c c.loop-c.invariant.1 (λ met. true≢false (sym (c.meet.ensures.1 met) ∙ c.if-meet.false)),
)

pub loop-d-preserved : goal.loop-d-preserved
loop-d-preserved c =
    apart_more c.args.self.now c.args.tracks.now c.loop-d.d c.loop-c.c c.loop-d.invariant c.loop-c-test.false c.loop-c.invariant.1

pub returns : goal.returns
returns c = (λ e. apart_all c.args.self.now c.args.tracks.now c.loop-d.d c.loop-d-test.false c.loop-d.invariant, λ h. refl)
