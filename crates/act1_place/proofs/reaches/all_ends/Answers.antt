use Rattle.act1_place.proofs.EndsSteps.{none_far, one_far}
use Rattle.act1_place.proofs.reaches.all_ends.Goals as goal

pub loop-net-init : goal.loop-net-init
loop-net-init c = none_far c.args.nets.now c.args.spots.now c.in_ok-all.all.items c.in_ok-all.ensures.items

pub loop-net-preserved : goal.loop-net-preserved
loop-net-preserved c =
    one_far c.args.nets.now c.args.spots.now c.loop-net.net-index c.loop-net.all.items c.push.new.self.items c.net-item.result c.ends_of.result c.loop-net-test.true c.net-item.is c.ends_of.ensures c.in_ok-push.ensures.items c.loop-net.invariant
