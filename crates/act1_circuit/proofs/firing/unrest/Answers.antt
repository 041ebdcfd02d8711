use Rattle.std.proofs.Common.{◌≡◌, Bool, true, false, not, sym, ◌∙◌, ap, refl, below_more}
use mathlib.Core.Bool.{beq}
use Rattle.std.proofs.lemmas.List.{set-get_or}
use Rattle.std.proofs.Math.ListN.{set}
use Rattle.act1_circuit.proofs.firing.unrest.Goals as goal

same : (a b : Bool) → not (beq a b) ≡ false → a ≡ b
same true true h = refl
same true false h = cc
same false true h = cc
same false false h = refl

pub loop-module-preserved : goal.loop-module-preserved
loop-module-preserved c =
    let bits = c.args.bits.now in
    let m = c.loop-module.module in
    let fired_is = sym c.fire.ensures ∙ same _ _ c.if-fire-bit.false in
    below_more _ _ c.loop-module.invariant (ap (set bits m) fired_is ∙ set-get_or bits m false)
