use Rattle.std.proofs.Common.{ℕ, ◌≡◌, ◌<◌, ◌+◌, ◌-◌, length, get_or, Option, arith, sym, subst}
use Rattle.std.proofs.lemmas.Option.{slice_get-get_or}
use Rattle.act1_order.specs.ReachSteps.{IsLeastFrom}
use Rattle.act1_order.proofs.ClosingLemmas.{least_on, least_is}
use Rattle.act1_order.proofs.order.first_on_ring.Goals as goal

pub loop-at-preserved : goal.loop-at-preserved
loop-at-preserved c =
    let reads = c.args.reads.now in
    let order = c.args.order.now in
    let p = c.loop-at.at - 1 in
    let within = c.loop-at.invariant.0 in
    let some = c.loop-at-test.true in
    let low : p < length order = omega arith in
    let e : p + 1 ≡ c.loop-at.at = omega arith in (
      omega arith,
      c.in_ok-is_on_ring.ensures.marked,
      subst (λ (f : Option ℕ). IsLeastFrom reads order p f) (sym c.least-first.ensures)
          (least_on reads order c.requires.order p (get_or order p 0) (slice_get-get_or order p 0 low) c.loop-at.first c.in_ok-is_on_ring.is_on_ring
          c.in_ok-is_on_ring.ensures.on.0 c.in_ok-is_on_ring.ensures.on.1 (subst (λ (n : ℕ). IsLeastFrom reads order n c.loop-at.first) (sym e) c.loop-at.invariant.2)),
    )

pub returns : goal.returns
returns c = least_is c.args.reads.now c.args.order.now c.requires.inside c.requires.order c.loop-at.at (let h = c.loop-at-test.false in omega arith) c.loop-at.first c.loop-at.invariant.2
