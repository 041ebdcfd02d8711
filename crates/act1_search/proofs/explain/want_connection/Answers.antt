use Rattle.act1_search.proofs.Marks.{next_marked}
use Rattle.act1_search.proofs.explain.want_connection.Goals as goal

pub loop-track-preserved : goal.loop-track-preserved
loop-track-preserved c =
    next_marked c.args.problem.now c.args.wanted.now c.loop-track.wanted c.want.new.wanted c.args.connection c.loop-track.track c.loop-track.invariant.0 c.loop-track.invariant.1 c.want.ensures.keeps c.want.ensures.own
