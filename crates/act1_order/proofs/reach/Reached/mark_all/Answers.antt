use Rattle.act1_order.proofs.ReachLemmas.{marks_more}
use Rattle.act1_order.proofs.reach.Reached.mark_all.Goals as goal

pub loop-vertex-preserved : goal.loop-vertex-preserved
loop-vertex-preserved c = marks_more c.args.vertices.now c.loop-vertex.vertex-index c.args.self.now c.loop-vertex.self c.mark.new.self c.loop-vertex-test.true c.loop-vertex.invariant c.in_ok-mark.ensures
