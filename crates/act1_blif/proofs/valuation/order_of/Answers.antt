use Rattle.std.proofs.Common.{ℕ, List, sym, subst, ◌∙◌}
use Rattle.act1_order.specs.Order.{AreReads, OnRing, Orders}
use Rattle.act1_order.specs.declared.ordering.Ordering.{Ordering}
use Rattle.act1_blif.proofs.NetGraph.{are_reads, no_ring}
use Rattle.act1_blif.proofs.valuation.order_of.Goals as goal

pub sources_first-requires-clause-inside : goal.sources_first-requires-clause-inside
sources_first-requires-clause-inside c = subst (λ (graph : List (List ℕ)). AreReads graph) (sym (c.deref.ensures.value ∙ c.in_ok-reads.ensures)) (are_reads c.args.blif.now)

pub unreachable-requires : goal.unreachable-requires
unreachable-requires c =
    let found = subst (λ (ordering : Ordering). Orders c.deref.result.now ordering) c.in-Ring.is c.in_ok-order.ensures in
    no_ring c.args.blif.now c.in-Ring.field-0 (subst (λ (graph : List (List ℕ)). OnRing graph c.in-Ring.field-0) (c.deref.ensures.value ∙ c.in_ok-reads.ensures) found.ring)
