use Rattle.std.proofs.Common.{ℕ, ◌∙◌, ◌-◌, ◌≤◌, length, sym, ap, arith}
use Rattle.rand_pcg.specs.Lcg.{Lcg}
use Rattle.act1_place.specs.Start.{shuffled}
use Rattle.act1_place.proofs.Shuffles.{shuffle_next, shuffled_done}
use Rattle.act1_place.proofs.start.shuffle.Goals as goal

pub loop-left-init : goal.loop-left-init
loop-left-init c = (omega arith, ap (λ (g : Lcg). shuffled (length c.args.sites.now) g c.args.sites.now) c.new-words.ensures)

pub swap-requires-clause-a_in_bounds : goal.swap-requires-clause-a_in_bounds
swap-requires-clause-a_in_bounds c = let low = c.loop-left.invariant.0 in let some = c.loop-left-test.true in omega arith

pub swap-requires-clause-b_in_bounds : goal.swap-requires-clause-b_in_bounds
swap-requires-clause-b_in_bounds c = let low = c.loop-left.invariant.0 in let some = c.loop-left-test.true in omega arith

pub loop-left-preserved : goal.loop-left-preserved
loop-left-preserved c =
    let low = c.loop-left.invariant.0 in
    let some = c.loop-left-test.true in
    let word = ap (λ (p : ℕ × Lcg). p.0) c.next_word.ensures in
    let state = ap (λ (p : ℕ × Lcg). p.1) c.next_word.ensures in
    let bound : c.loop-left.left - 1 ≤ length c.swap.new.self = omega (arith, c.swap.ensures.len) in (
      bound,
      shuffle_next c.loop-left.left c.next_word.result c.loop-left.words c.next_word.new.self c.loop-left.sites c.swap.new.self some word state c.swap.ensures.after
          ∙ c.loop-left.invariant.1,
    )

pub returns : goal.returns
returns c = let few = c.loop-left-test.false in let low : c.loop-left.left ≤ 1 = omega arith in sym (shuffled_done c.loop-left.left c.loop-left.words c.loop-left.sites low) ∙ c.loop-left.invariant.1
