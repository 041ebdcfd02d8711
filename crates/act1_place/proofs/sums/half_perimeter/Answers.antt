use Rattle.std.proofs.Common.{ℕ, ◌<◌, ◌≤◌, length, arith}
use Rattle.act1_place.specs.Perimeter.{place_of}
use Rattle.act1_place.specs.Kept.{spot_of, places}
use Rattle.act1_place.proofs.Spans.{spans_first, spans_more, spans_wide, spans_all, how_many}
use Rattle.act1_place.proofs.sums.half_perimeter.Goals as goal

pub loop-at-init : goal.loop-at-init
loop-at-init c =
    let spots = c.args.spots.now in
    let ps = places spots c.args.net.now in
    let many = how_many (λ (m : ℕ). place_of (spot_of spots m)) c.args.net.now.modules c.args.net.now.pads in
    let some = c.if-count-eq0.false in
    let first : 1 ≤ length ps = omega (arith, many, c.len.ensures, c.len-2.ensures, some) in
    spans_first ps c.place_at-first.result first c.place_at-first.ensures

pub loop-at-preserved : goal.loop-at-preserved
loop-at-preserved c =
    let spots = c.args.spots.now in
    let ps = places spots c.args.net.now in
    let many = how_many (λ (m : ℕ). place_of (spot_of spots m)) c.args.net.now.modules c.args.net.now.pads in
    let low = c.loop-at-test.true in
    let within : c.loop-at.at < length ps = omega (arith, many, c.len.ensures, c.len-2.ensures, low) in
    spans_more ps c.place_at-place.result c.loop-at.at c.loop-at.left c.loop-at.right c.loop-at.low c.loop-at.high c.min-left.result c.max-right.result c.min-low.result c.max-high.result
    c.loop-at.invariant within c.place_at-place.ensures c.min-left.ensures c.max-right.ensures c.min-low.ensures c.max-high.ensures

pub overflow_sub-right : goal.overflow_sub-right
overflow_sub-right c = (spans_wide (places c.args.spots.now c.args.net.now) c.loop-at.at c.loop-at.left c.loop-at.right c.loop-at.low c.loop-at.high c.loop-at.invariant).0

pub overflow_sub-high : goal.overflow_sub-high
overflow_sub-high c = (spans_wide (places c.args.spots.now c.args.net.now) c.loop-at.at c.loop-at.left c.loop-at.right c.loop-at.low c.loop-at.high c.loop-at.invariant).1

pub returns : goal.returns
returns c =
    let spots = c.args.spots.now in
    let ps = places spots c.args.net.now in
    let many = how_many (λ (m : ℕ). place_of (spot_of spots m)) c.args.net.now.modules c.args.net.now.pads in
    let done = c.loop-at-test.false in
    let whole : length ps ≤ c.loop-at.at = omega (arith, many, c.len.ensures, c.len-2.ensures, done) in
    let sum = spans_all ps c.loop-at.at c.loop-at.left c.loop-at.right c.loop-at.low c.loop-at.high c.loop-at.invariant whole in
    omega (arith, sum, c.from.ensures, c.from-2.ensures)
