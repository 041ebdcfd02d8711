use Rattle.std.proofs.Common.{ℕ, get_or, ap}
use Rattle.std.proofs.lemmas.List.{get_or_default}
use Rattle.act1_place.specs.Kept.{spot_of}
use Rattle.act1_place.specs.Perimeter.{place_of}
use Rattle.act1_place.proofs.Seen.{modules_more}
use Rattle.act1_place.proofs.reaches.add_modules.Goals as goal

pub loop-module-preserved : goal.loop-module-preserved
loop-module-preserved c = λ seen h.
    let ms = c.args.modules.now in
    let n = c.loop-module.module-index in
    let m = get_or ms n 0 in
    let spots = c.args.spots.now in
    modules_more spots seen ms n m (place_of (spot_of spots c.from.result)) c.loop-module.all c.ends_with-all.result c.loop-module-test.true (get_or_default ms n 0 m c.loop-module-test.true)
    (ap (λ (k : ℕ). place_of (spot_of spots k)) c.from.ensures) (c.loop-module.invariant seen h) c.ends_with-all.ensures
