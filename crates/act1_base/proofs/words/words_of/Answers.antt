use Rattle.std.proofs.Common.{◌∙◌, ap, eqb, map, rules, Bor, List, ℕ}
use Rattle.act1_base.proofs.SplitLoops.{all_pieces}
use Rattle.act1_base.proofs.words.words_of.Goals as goal

pub returns : goal.returns
returns c =
    ap (map (λ (word : Bor (List ℕ)). word.now)) c.loop-word.invariant
    ∙ all_pieces _ _ _ _ (λ b. eqb b 32) c.args.line.now c.loop-word.yielded _ c.loop-word.yielded_by c.in-None.is c.next.ensures.steps
    (cc) (cc) (cc) (λ x b q h. search rules)
