use Rattle.std.proofs.Common.{◌≡◌, ◌<◌, ◌≤◌, ◌∙◌, get_or, arith}
use Rattle.std.proofs.lemmas.Int.{ints}
use Rattle.std.proofs.lemmas.List.{get_or_default}
use Rattle.act1_place.specs.Kept.{kept_total}
use Rattle.act1_place.specs.Passes.{exchange}
use Rattle.act1_place.proofs.PlaceSteps.{tries_made, tries_left}
use Rattle.act1_place.proofs.placing.try_site.Goals.{then-gain-gt0, else-gain-gt0}
use Rattle.act1_place.proofs.placing.try_site.Goals as goal

pub loop-b-preserved : goal.loop-b-preserved
loop-b-preserved c =
    let before = c.args.gains.now in
    let mid = c.loop-b.gains in
    let later = c.args.later.now in
    let n = c.loop-b.b-index in
    let b = get_or c.args.later.now c.loop-b.b-index (record { row = 0; column = 0 }) in
    let is : b ≡ get_or later n b = get_or_default later n (record { row = 0; column = 0 }) b c.loop-b-test.true in
    elim c.if-gain-gt0.branch [
      | then-gain-gt0 w ↦
          (let less : kept_total mid.nets (exchange c.args.a b mid.spots) < kept_total mid.nets mid.spots = omega (arith, ints, c.gain.ensures, w.if-gain-gt0.true) in
          rw (w.changed-is) (tries_made before mid c.loop-b.changed c.args.a b later n c.loop-b-test.true is c.loop-b.invariant c.if-gain-gt0.gains less (w.gains-is ∙ w.exchange.ensures)))
      | else-gain-gt0 w ↦
          (let more : kept_total mid.nets mid.spots ≤ kept_total mid.nets (exchange c.args.a b mid.spots) = omega (arith, ints, c.gain.ensures, w.if-gain-gt0.false) in
          rw (w.gains-is, w.changed-is) (tries_left before mid c.loop-b.changed c.args.a b later n c.loop-b-test.true is c.loop-b.invariant more))
    ]
