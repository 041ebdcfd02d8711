use Rattle.std.proofs.Common.{ℕ, List, ◌<◌, length, get_or, slice_set, ap, subst, ◌∙◌}
use Rattle.act1_blifread.specs.NetlistSteps.{number_at}
use Rattle.act1_blifread.proofs.Renumbered.{one_more}
use Rattle.act1_blifread.proofs.netlist.renumber.Goals as goal

pub loop-number-preserved : goal.loop-number-preserved
loop-number-preserved c =
    let names = c.args.numbers.now.items in
    let i = c.loop-number.number-index in
    let within : i < length names = subst (λ (xs : List ℕ). i < length xs) c.deref_mut-number-items.ensures.value c.loop-number-test.true in
    ap (λ (xs : List ℕ). slice_set xs i c.number_at.result) c.loop-number.invariant
    ∙ one_more (number_at c.args.places.now) names i 0 c.number_at.result within (c.number_at.ensures ∙ ap (λ (xs : List ℕ). number_at c.args.places.now (get_or xs i 0)) c.loop-number.invariant)
