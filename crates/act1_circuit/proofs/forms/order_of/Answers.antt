use Rattle.std.proofs.Common.{List, ℕ, ap, not, subst, sym, ◌∙◌}
use Rattle.std.specs.Prelude.{filter}
use Rattle.act1_order.specs.declared.ordering.Ordering.{Ordering}
use Rattle.act1_order.specs.Order.{AreReads, IsOrder, Orders}
use Rattle.act1_circuit.specs.FormFaults.{IsOutsideOrder}
use Rattle.act1_circuit.specs.PairForm.{has_clock, outside_reads}
use Rattle.act1_circuit.proofs.OutsideGraph.{reads_within}
use Rattle.act1_circuit.proofs.OutsideOrders.{outside_order}
use Rattle.act1_circuit.proofs.forms.order_of.Goals as goal

pub sources_first-requires-clause-inside : goal.sources_first-requires-clause-inside
sources_first-requires-clause-inside c =
    subst (λ (graph : List (List ℕ)). AreReads graph) (sym (c.as_slice.ensures.value ∙ c.in_ok-reads.ensures)) (reads_within c.args.circuit.now c.requires)

pub returns-in-Order : goal.returns-in-Order
returns-in-Order c =
    let circuit = c.args.circuit.now in
    let order = c.in-Order.order in
    let found = subst (λ (o : Ordering). Orders c.as_slice.result.now o) c.in-Order.is c.in_ok-order.ensures in
    let is = subst (λ (graph : List (List ℕ)). IsOrder graph order) (c.as_slice.ensures.value ∙ c.in_ok-reads.ensures) found in
    let kept = c.in_ok-unclocked-in-Order.ensures ∙ ap (λ (ms : List ℕ). filter (λ m. not (has_clock circuit m)) ms) c.as_slice-in-Order.ensures in
    (subst (λ (ms : List ℕ). IsOutsideOrder circuit ms) (sym kept) (outside_order circuit order is), c.rings_and_levels.ensures.orders (outside_reads circuit) order is)
