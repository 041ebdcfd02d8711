use Rattle.std.proofs.Common.{sym, ◌∙◌}
use Rattle.std.proofs.lemmas.Bool.{eqb-true, eq-eqb}
use Rattle.act1_match.proofs.Bits.{same_on, same_from}
use Rattle.act1_match.proofs.inputs.agrees.Goals as goal

pub returns : goal.returns
returns c = (
  λ e. record { same = λ i h on. sym (c.ones_of.ensures i h) ∙ same_on c.ones_of.result c.args.table c.args.inputs i (eqb-true _ _ e) on },
  λ a. eq-eqb _ _ (same_from c.ones_of.result c.args.table c.args.inputs c.ranges.inputs.fits (λ i h on. c.ones_of.ensures i h ∙ a.same i h on)),
)
