use Rattle.std.proofs.Common.{ℕ, List, arith, refl, subst}
use Rattle.std.proofs.lemmas.Grind.{common_steps}
use Rattle.act1_order.specs.ReachSteps.{Marks}
use Rattle.act1_order.specs.declared.reach.Reached.{Reached}
use Rattle.act1_order.proofs.RootLemmas.{roots_first, roots_step, roots_done, root_low}
use Rattle.act1_order.proofs.reach.reached_from.Goals as goal

pub loop-next-init : goal.loop-next-init
loop-next-init c =
    roots_first c.args.reads.now c.args.roots.now c.in_ok-reached.reached c.mark_all.new.self (let e = c.in_ok-reached.ensures.0 in grind (arith, common_steps)) c.in_ok-reached.ensures.1 c.in_ok-mark_all.ensures

pub reads_of-requires-clause-low : goal.reads_of-requires-clause-low
reads_of-requires-clause-low c = root_low c.args.reads.now c.args.roots.now c.in-Some.next c.loop-next.reached _ c.loop-next.invariant c.in-Some.ensures.items

pub loop-next-preserved : goal.loop-next-preserved
loop-next-preserved c =
    let mid : Reached = record { marks = c.loop-next.reached.marks; left = c.pop.new.self } in
    roots_step c.args.reads.now c.args.roots.now c.in-Some.next c.loop-next.reached mid c.mark_all-in-Some.new.self c.loop-next.invariant refl c.in-Some.ensures.items
    (subst (λ (ws : List ℕ). Marks ws mid c.mark_all-in-Some.new.self) c.reads_of.ensures.own c.in_ok-mark_all-2.ensures)

pub returns : goal.returns
returns c = roots_done c.args.reads.now c.args.roots.now c.loop-next.reached c.loop-next.invariant (let e = c.in_default.ensures.cases.0 in grind (arith, common_steps))
