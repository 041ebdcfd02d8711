use Rattle.std.proofs.Common.{ℕ, ◌≡◌, ◌≤◌, List, length, sym, subst, ◌∙◌, arith}
use Rattle.act1_order.specs.Order.{AreReads, IsFirstOnRing, IsOrder}
use Rattle.act1_blifread.specs.Faults.{node_graph}
use Rattle.act1_blifread.proofs.NodeGraphs.{length_graph, graph_inside, ring_is_first, no_loop}
use Rattle.act1_blifread.proofs.graph.loop_line.Goals as goal

pub sources_first-requires-clause-few : goal.sources_first-requires-clause-few
sources_first-requires-clause-few c =
    let e : c.as_slice.result.now ≡ node_graph c.args.statements.now = c.as_slice.ensures.value ∙ c.in_ok-graph.ensures in
    let few = c.requires.few in
    subst (λ (reads : List (List ℕ)). length reads ≤ 65535) (sym e) (omega (arith, length_graph c.args.statements.now))

pub sources_first-requires-clause-inside : goal.sources_first-requires-clause-inside
sources_first-requires-clause-inside c =
    let e : c.as_slice.result.now ≡ node_graph c.args.statements.now = c.as_slice.ensures.value ∙ c.in_ok-graph.ensures in
    subst AreReads (sym e) (graph_inside c.args.statements.now)

pub returns-in-Order : goal.returns-in-Order
returns-in-Order c =
    let e : c.as_slice.result.now ≡ node_graph c.args.statements.now = c.as_slice.ensures.value ∙ c.in_ok-graph.ensures in
    let is : IsOrder c.as_slice.result.now c.in-Order.field-0 = rw c.in-Order.is at c.in_ok-sources_first.ensures in
    no_loop c.args.statements.now (c.rings_and_levels.ensures.orders (node_graph c.args.statements.now) c.in-Order.field-0 (subst (λ (reads : List (List ℕ)). IsOrder reads c.in-Order.field-0) e is))

pub returns : goal.returns
returns c =
    let e : c.as_slice.result.now ≡ node_graph c.args.statements.now = c.as_slice.ensures.value ∙ c.in_ok-graph.ensures in
    let is : IsFirstOnRing c.as_slice.result.now c.in-Ring.node = rw c.in-Ring.is at c.in_ok-sources_first.ensures in
    ring_is_first c.args.statements.now c.in-Ring.node c.node_line.result (subst (λ (reads : List (List ℕ)). IsFirstOnRing reads c.in-Ring.node) e is) c.node_line.ensures
