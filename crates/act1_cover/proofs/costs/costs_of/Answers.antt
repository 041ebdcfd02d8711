use Rattle.std.proofs.Common.{List, ℕ, ◌≡◌, ◌-◌, subst, arith}
use Rattle.act1_cover.specs.declared.best.Best.{Best}
use Rattle.act1_cover.specs.Costs.{AreBestFrom, IsBest, cost_in}
use Rattle.act1_cover.proofs.CostSteps.{best_more}
use Rattle.act1_cover.proofs.costs.costs_of.Goals as goal

pub loop-fork-preserved : goal.loop-fork-preserved
loop-fork-preserved c =
    let forest = c.args.forest.now in
    let k = c.loop-fork.fork in
    let table = c.loop-fork.table.items in
    let within = c.loop-fork.invariant.within in
    let some = c.loop-fork-test.true in
    let b = c.in_ok-table-2.field-0 in
    record {
      within = omega arith;
      best = best_more forest c.requires.forest (k - 1) k table b (omega arith) (omega arith) c.loop-fork.invariant.best (subst (λ (t : List Best). IsBest forest (cost_in t) (k - 1) b) c.deref.ensures.value c.in_ok-table-2.ensures);
    }

pub returns : goal.returns
returns c =
    let ended = c.loop-fork-test.false in
    let none : c.loop-fork.fork ≡ 0 = omega arith in
    subst (λ (m : ℕ). AreBestFrom c.args.forest.now m c.loop-fork.table.items) none c.loop-fork.invariant.best
