use Rattle.std.proofs.Common.{ℕ, List, false, get_or, sym, subst, arith}
use Rattle.std.proofs.lemmas.Option.{slice_get-get_or}
use Rattle.act1_net.proofs.Chosen.{AreFirst, next_fits, numbers_more, numbers_none}
use Rattle.act1_net.proofs.places.numbers_of.Goals as goal

pub loop-mark-init : goal.loop-mark-init
loop-mark-init c = subst (λ (numbers : List ℕ). AreFirst c.args.marks.now 0 0 numbers) (sym c.new-numbers.ensures.items) (numbers_none c.args.marks.now)

pub overflow_add-next : goal.overflow_add-next
overflow_add-next c =
    let low = c.loop-mark-test.true in
    let few = c.requires in
    let fits = next_fits c.args.marks.now c.loop-mark.mark-index c.loop-mark.next c.mark_count-next.result (get_or c.args.marks.now c.loop-mark.mark-index false) c.loop-mark.invariant.0 c.mark_count-next.ensures in
    omega arith

pub loop-mark-preserved : goal.loop-mark-preserved
loop-mark-preserved c =
    let i = c.loop-mark.mark-index in
    numbers_more c.args.marks.now i c.loop-mark.next c.mark_count-next.result (get_or c.args.marks.now i false) c.loop-mark.numbers.items c.push.new.self.items
    (slice_get-get_or c.args.marks.now i false c.loop-mark-test.true) c.loop-mark.invariant c.in_ok-push.ensures.items c.mark_count-next.ensures
