use Rattle.std.proofs.Common.{List, ℕ, length, refl, sym, subst, arith}
use Rattle.act1_order.specs.ClosingSteps.{IsClosingOrder}
use Rattle.act1_order.proofs.SearchLemmas.{none_placed, all_placed}
use Rattle.act1_order.proofs.search.order_of.Goals as goal

pub loop-vertex-init : goal.loop-vertex-init
loop-vertex-init c = none_placed c.args.reads.now c.in_ok-search.search (length c.args.reads.now) refl c.in_ok-search.ensures.0 c.in_ok-search.ensures.1 c.in_ok-search.ensures.2 c.in_ok-search.ensures.3

pub returns : goal.returns
returns c = subst (λ (order : List ℕ). IsClosingOrder c.args.reads.now order) (sym c.from_vec.ensures) (all_placed c.args.reads.now c.loop-vertex.vertex c.loop-vertex.search (let h = c.loop-vertex-test.false in omega arith) c.loop-vertex.invariant)
