use Rattle.std.proofs.Common.{◌≡◌, ◌+◌, ◌-◌, length, length-drop, take, drop, get_or, arith}
use Rattle.std.proofs.lemmas.List.{get_or_default, take_all}
use Rattle.act1_place.proofs.PlaceSteps.{pass_next, pass_whole}
use Rattle.act1_place.proofs.placing.make_pass.Goals as goal

pub loop-at-preserved : goal.loop-at-preserved
loop-at-preserved c =
    let all = c.args.sites.now in
    let n = c.loop-at.at in
    let a = get_or c.args.sites.now c.loop-at.at (record { row = 0; column = 0 }) in
    pass_next c.args.gains.now c.loop-at.gains c.try_site-changed.new.gains c.loop-at.changed c.try_site-changed.result all n a (take (length all - (n + 1)) (drop (n + 1) all)) c.loop-at-test.true
    (get_or_default all n (record { row = 0; column = 0 }) a c.loop-at-test.true) (take_all (length all - (n + 1)) (drop (n + 1) all) (omega (arith, length-drop (n + 1) all))) c.loop-at.invariant c.try_site-changed.ensures

pub returns : goal.returns
returns c =
    let most = c.loop-at.auto.at-end in
    let least = c.loop-at-test.false in
    let count : c.loop-at.at ≡ length c.args.sites.now = omega (arith, most, least) in
    pass_whole c.args.gains.now c.loop-at.gains c.loop-at.changed c.args.sites.now c.loop-at.at count c.loop-at.invariant
