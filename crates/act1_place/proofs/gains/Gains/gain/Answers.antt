use Rattle.std.proofs.Common.{◌≡◌, subst, ◌≤◌, ◌+◌, ◌^◌, arith}
use Rattle.act1_place.specs.Gains.{Kept}
use Rattle.act1_place.specs.Passes.{exchange}
use Rattle.act1_place.specs.Kept.{kept_total}
use Rattle.act1_place.proofs.ChangeSums.{changes_are}
use Rattle.act1_place.proofs.GainSteps.{as_gain}
use Rattle.act1_place.proofs.gains.Gains.gain.Goals as goal

pub returns : goal.returns
returns c =
    let g = c.self.inside in
    let in_a = rw (← c.self.view_is) at c.requires.first in
    let in_b = rw (← c.self.view_is) at c.requires.second in
    let at_a = rw (← c.self.view_is) at c.module_at-first.ensures.occupies in
    let at_b = rw (← c.self.view_is) at c.module_at-second.ensures.occupies in
    let first = rw (← c.self.view_is) at c.nets_at-ours.ensures.nets in
    let second = rw (← c.self.view_is) at c.nets_at-theirs.ensures.nets in
    let m = c.module_at-first.result in
    let o = c.module_at-second.result in
    let one = c.change_of-one.result in
    let two = c.change_of-two.result in
    let one_is = rw (c.as_slice-ends.ensures, c.number_of.ensures) at c.change_of-one.ensures in
    let two_is = rw (c.as_slice-ends.ensures, c.number_of-2.ensures) at c.change_of-two.ensures in
    let e = changes_are g.rows g.columns g.nets g.touching g.spots g.at g.ends c.self.invariant.0 c.self.invariant.1 c.args.a c.args.b in_a in_b m o at_a at_b c.nets_at-ours.result.now c.nets_at-theirs.result.now first second one two one_is two_is in
    let before : one.before + two.before ≤ 2 ^ 50 = omega (arith, c.change_of-one.ensures.few.0, c.change_of-two.ensures.few.0, c.nets_at-ours.ensures.short, c.nets_at-theirs.ensures.short) in
    let after : one.after + two.after ≤ 2 ^ 50 = omega (arith, c.change_of-one.ensures.few.1, c.change_of-two.ensures.few.1, c.nets_at-ours.ensures.short, c.nets_at-theirs.ensures.short) in
    let whole = subst (λ (k : Kept). kept_total k.nets k.spots + (one.after + two.after) ≡ kept_total k.nets (exchange c.args.a c.args.b k.spots) + (one.before + two.before)) c.self.view_is e in
    let now = c.args.self.now in
    as_gain (one.before + two.before) (one.after + two.after) (kept_total now.nets now.spots) (kept_total now.nets (exchange c.args.a c.args.b now.spots)) before after whole
