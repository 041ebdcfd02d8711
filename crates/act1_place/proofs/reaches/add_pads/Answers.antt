use Rattle.std.proofs.Common.{get_or}
use Rattle.std.proofs.lemmas.List.{get_or_default}
use Rattle.act1_place.proofs.Seen.{pads_more}
use Rattle.act1_place.proofs.reaches.add_pads.Goals as goal

pub loop-pad-preserved : goal.loop-pad-preserved
loop-pad-preserved c = λ seen h.
    let ps = c.args.pads.now in
    let n = c.loop-pad.pad-index in
    let p = get_or ps n (record { x = 0; y = 0 }) in
    pads_more seen ps n p c.loop-pad.all c.ends_with-all.result c.loop-pad-test.true (get_or_default ps n (record { x = 0; y = 0 }) p c.loop-pad-test.true) (c.loop-pad.invariant seen h) c.ends_with-all.ensures
