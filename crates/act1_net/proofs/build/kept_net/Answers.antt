use Rattle.std.proofs.Common.{ℕ, length, sym, subst}
use Rattle.act1_net.specs.MarkSteps.{AreTermsWithin}
use Rattle.act1_net.proofs.KeptNodes.{latch_inputs}
use Rattle.act1_net.proofs.MarkFacts.{terms_within}
use Rattle.act1_net.proofs.build.kept_net.Goals as goal

pub outputs_of-requires-clause-within : goal.outputs_of-requires-clause-within
outputs_of-requires-clause-within c =
    let b = c.args.blif.now in
    subst (λ (n : ℕ). AreTermsWithin n c.args.terms.now) (sym c.requires.marked.all) (terms_within b (c.netlists_are_whole.ensures b) c.requires.order c.requires.is_order c.args.terms.now c.requires.passed)

pub next_of-requires-clause-inputs : goal.next_of-requires-clause-inputs
next_of-requires-clause-inputs c =
    let b = c.args.blif.now in
    latch_inputs b (c.netlists_are_whole.ensures b) c.args.terms.now c.requires.passed.all c.as_slice-2.result.now c.as_slice-2.ensures

pub next_of-requires-clause-within : goal.next_of-requires-clause-within
next_of-requires-clause-within c =
    let b = c.args.blif.now in
    subst (λ (n : ℕ). AreTermsWithin n c.args.terms.now) (sym c.requires.marked.all) (terms_within b (c.netlists_are_whole.ensures b) c.requires.order c.requires.is_order c.args.terms.now c.requires.passed)
