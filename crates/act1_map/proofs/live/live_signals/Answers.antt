use Rattle.std.proofs.Common.{ℕ, ◌<◌, List, length, sym, subst, ◌∙◌}
use Rattle.std.specs.Prelude.{slice_index_or}
use Rattle.act1_order.specs.Order.{AreReads}
use Rattle.act1_map.specs.MapSteps.{net_reads}
use Rattle.act1_map.proofs.LiveSignals.{are_reads, roots_within}
use Rattle.act1_map.proofs.live.live_signals.Goals as goal

pub reached_from-requires-clause-inside : goal.reached_from-requires-clause-inside
reached_from-requires-clause-inside c =
    let n = c.args.net.now in
    subst (λ (reads : List (List ℕ)). AreReads reads) (sym (c.deref.ensures.value ∙ c.in_ok-reads.ensures)) (are_reads n c.args.covers.now (c.netlists_are_whole.ensures n.blif) c.requires.covered)

pub reached_from-requires-clause-roots : goal.reached_from-requires-clause-roots
reached_from-requires-clause-roots c =
    let n = c.args.net.now in
    subst (λ (reads : List (List ℕ)). (k d : ℕ) → k < length c.deref-2.result.now → slice_index_or c.deref-2.result.now k d < length reads) (sym (c.deref.ensures.value ∙ c.in_ok-reads.ensures))
    (subst (λ (roots : List ℕ). (k d : ℕ) → k < length roots → slice_index_or roots k d < length (net_reads n c.args.covers.now)) (sym (c.deref-2.ensures.value ∙ c.in_ok-roots.ensures))
    (roots_within n c.args.covers.now (c.netlists_are_whole.ensures n.blif) c.requires.covered c.requires.net))
