use Rattle.std.proofs.Common.{ℕ, List, get_or, arith, refl, sym, subst}
use Rattle.std.proofs.lemmas.Grind.{common_steps}
use Rattle.std.proofs.lemmas.Option.{slice_get-get_or}
use Rattle.act1_order.specs.ReachSteps.{HasMarked, Marks}
use Rattle.act1_order.specs.declared.reach.Reached.{Reached}
use Rattle.act1_order.proofs.ReachLemmas.{reach_start, reach_step, reach_done, left_low, ring_marks, marks_ring}
use Rattle.act1_order.proofs.ReadersLemmas.{readers_inside}
use Rattle.act1_order.proofs.reach.Reached.is_on_ring.Goals as goal

pub loop-next-init : goal.loop-next-init
loop-next-init c =
    reach_start c.args.reads.now c.args.order.now c.requires.order c.args.at (get_or c.args.order.now c.args.at 0) (slice_get-get_or c.args.order.now c.args.at 0 c.requires.low)
    c.args.self.now c.mark.new.self c.requires.marked c.in_ok-mark.ensures

pub reads_of-requires-clause-inside : goal.reads_of-requires-clause-inside
reads_of-requires-clause-inside c = readers_inside c.args.reads.now c.args.readers.now c.requires.readers

pub reads_of-requires-clause-low : goal.reads_of-requires-clause-low
reads_of-requires-clause-low c =
    let low = left_low c.args.reads.now c.args.order.now c.args.at c.in-Some.next c.loop-next.self _ c.loop-next.invariant c.in-Some.ensures.items in
    let all = c.requires.readers.all in
    omega arith

pub loop-next-preserved : goal.loop-next-preserved
loop-next-preserved c =
    let mid : Reached = record { marks = c.loop-next.self.marks; left = c.pop.new.self } in
    reach_step c.args.reads.now c.args.readers.now c.requires.readers c.args.order.now c.args.at c.in-Some.next c.loop-next.self mid c.mark_all.new.self c.loop-next.invariant refl c.in-Some.ensures.items
    (subst (λ (ws : List ℕ). Marks ws mid c.mark_all.new.self) c.reads_of.ensures.own c.in_ok-mark_all.ensures)

pub reads_of-requires-2-clause-low : goal.reads_of-requires-2-clause-low
reads_of-requires-2-clause-low c = c.requires.order.inside c.args.at (get_or c.args.order.now c.args.at 0) (slice_get-get_or c.args.order.now c.args.at 0 c.requires.low)

pub returns-clause-on : goal.returns-clause-on
returns-clause-on c =
    let v = get_or c.args.order.now c.args.at 0 in
    let is = slice_get-get_or c.args.order.now c.args.at 0 c.requires.low in
    let done = reach_done c.args.reads.now c.args.order.now c.args.at c.loop-next.self c.loop-next.invariant (let e = c.in_default.ensures.cases.0 in grind (arith, common_steps)) in
    let own = c.reads_of-2.ensures.own in (
      λ on. marks_ring c.args.reads.now c.args.order.now c.requires.order c.args.at v is c.loop-next.self done (subst (λ (ws : List ℕ). HasMarked c.loop-next.self.marks.items ws) own (c.has_marked.ensures.0 on)),
      λ ring. c.has_marked.ensures.1 (subst (λ (ws : List ℕ). HasMarked c.loop-next.self.marks.items ws) (sym own) (ring_marks c.args.reads.now c.args.order.now c.requires.order c.args.at v is c.loop-next.self done ring)),
    )
