use Rattle.std.proofs.Common.{refl}
use Rattle.act1_channel.proofs.AssignmentLemmas.{allowed_more, allowed_all}
use Rattle.act1_channel.proofs.problem.Problem.are_allowed.Goals as goal

pub loop-c-preserved : goal.loop-c-preserved
loop-c-preserved c =
    allowed_more c.args.self.now c.args.tracks.now c.loop-c.c c.from.result c.loop-c.invariant c.loop-c-test.true c.from.ensures (c.is_allowed.ensures.0 c.if-not-is_allowed.false)

pub returns : goal.returns
returns c = (λ e. allowed_all c.args.self.now c.args.tracks.now c.loop-c.c c.loop-c-test.false c.loop-c.invariant, λ h. refl)
