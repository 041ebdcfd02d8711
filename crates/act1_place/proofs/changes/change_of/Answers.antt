use Rattle.std.proofs.Common.{ℕ, ap, ◌+◌, ◌∙◌, get_or, sym, arith}
use Rattle.std.proofs.lemmas.List.{get_or_default}
use Rattle.act1_place.proofs.EndsSteps.{long, change_skip, change_more}
use Rattle.act1_place.proofs.changes.change_of.Goals.{then-not-has, else-not-has}
use Rattle.act1_place.proofs.changes.change_of.Goals as goal

pub overflow_add-change : goal.overflow_add-change
overflow_add-change c =
    let n = c.loop-number.number-index in
    let listed = c.args.listed.now in
    let i = get_or listed n 0 in
    let few = c.loop-number.invariant.few.0 in
    let most = c.requires.few in
    let small = c.sum_of.type_inv in
    let low = c.loop-number-test.true in
    let k = (long c.args.ends.now listed c.args.others.now c.args.module c.args.to n i c.loop-number.change low (get_or_default listed n 0 i low) c.loop-number.invariant).0 in
    omega (arith, few, most, small, k, low, c.from.ensures, c.sum_of.ensures)

pub loop-number-preserved : goal.loop-number-preserved
loop-number-preserved c =
    let n = c.loop-number.number-index in
    let listed = c.args.listed.now in
    let others = c.args.others.now in
    let ends = c.args.ends.now in
    let m = c.args.module in
    let i = get_or listed n 0 in
    let low = c.loop-number-test.true in
    let is = get_or_default listed n 0 i low in
    elim c.if-not-has.branch [
      | then-not-has w ↦ (
          rw w.change-is (change_more ends listed others m c.args.to n i c.loop-number.change low is c.loop-number.invariant (c.loop-number.change.before + w.from.result) (c.loop-number.change.after + w.from-then-not-has.result) w.sum_of.result w.half_with.result
          (sym c.has.ensures ∙ w.if-not-has.true) w.sum_of.ensures w.half_with.ensures w.sum_of.type_inv w.half_with.type_inv (ap (λ (k : ℕ). c.loop-number.change.before + k) w.from.ensures) (ap (λ (k : ℕ). c.loop-number.change.after + k) w.from-then-not-has.ensures))
          )
      | else-not-has w ↦ (rw w.change-is (change_skip ends listed others m c.args.to n i c.loop-number.change low is c.loop-number.invariant (sym c.has.ensures ∙ w.if-not-has.false)))
    ]
