use Rattle.std.proofs.Common.{get_or}
use Rattle.std.proofs.lemmas.List.{get_or_default}
use Rattle.act1_place.proofs.EndsSteps.{one_renewed}
use Rattle.act1_place.proofs.reaches.renew.Goals as goal

pub loop-number-preserved : goal.loop-number-preserved
loop-number-preserved c =
    let n = c.loop-number.number-index in
    let listed = c.args.listed.now in
    let i = get_or listed n 0 in
    one_renewed c.args.nets.now c.args.spots.now listed n i c.index-nets-number.result c.ends_of.result c.args.ends.now c.loop-number.ends c.set.new.self c.loop-number-test.true (get_or_default listed n 0 i c.loop-number-test.true)
    (c.requires.listed n 0 c.loop-number-test.true) c.requires.each c.index-nets-number.is c.ends_of.ensures c.set.ensures c.loop-number.invariant
