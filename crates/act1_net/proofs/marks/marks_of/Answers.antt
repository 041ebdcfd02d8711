use Rattle.std.proofs.Common.{ℕ, ◌<◌, List, length, sym, subst, ◌∙◌}
use Rattle.std.specs.Prelude.{slice_index_or}
use Rattle.act1_order.specs.Order.{AreReads}
use Rattle.act1_net.specs.MarkSteps.{reads_left}
use Rattle.act1_net.proofs.MarkFacts.{left_reads, left_roots}
use Rattle.act1_net.proofs.marks.marks_of.Goals as goal

pub reached_from-requires-clause-inside : goal.reached_from-requires-clause-inside
reached_from-requires-clause-inside c =
    let b = c.args.blif.now in
    subst (λ (reads : List (List ℕ)). AreReads reads) (sym (c.deref.ensures.value ∙ c.in_ok-reads.ensures)) (left_reads b c.args.terms.now (c.netlists_are_whole.ensures b) c.requires.within)

pub reached_from-requires-clause-roots : goal.reached_from-requires-clause-roots
reached_from-requires-clause-roots c =
    let b = c.args.blif.now in
    subst (λ (reads : List (List ℕ)). (k d : ℕ) → k < length c.deref-2.result.now → slice_index_or c.deref-2.result.now k d < length reads) (sym (c.deref.ensures.value ∙ c.in_ok-reads.ensures))
    (subst (λ (roots : List ℕ). (k d : ℕ) → k < length roots → slice_index_or roots k d < length (reads_left b c.args.terms.now)) (sym (c.deref-2.ensures.value ∙ c.in_ok-roots.ensures))
    (left_roots b c.args.terms.now (c.netlists_are_whole.ensures b) c.requires.within))
