use Rattle.std.proofs.Common.{ℕ, List, ◌++◌, ◌∷◌, [], ap, ◌∙◌}
use Rattle.act1_net.specs.MarkSteps.{signals_left}
use Rattle.act1_net.proofs.MarkFacts.{upto_more}
use Rattle.act1_net.proofs.marks.roots_of.Goals as goal

pub loop-input-preserved : goal.loop-input-preserved
loop-input-preserved c =
    let i = c.loop-input.input in
    c.in_ok-push.ensures.items ∙ ap (λ (roots : List ℕ). roots ++ i ∷ []) c.loop-input.invariant ∙ upto_more (signals_left c.args.terms.now c.args.blif.now.outputs) i
