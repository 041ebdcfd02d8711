use Rattle.act1_place.proofs.PlaceSteps.{passed_next}
use Rattle.act1_place.proofs.placing.settle.Goals as goal

pub loop-changed-preserved : goal.loop-changed-preserved
loop-changed-preserved c = passed_next c.args.gains.now c.loop-changed.gains c.make_pass-changed.new.gains c.args.sites.now c.loop-changed.changed c.make_pass-changed.result c.loop-changed.invariant c.make_pass-changed.ensures
