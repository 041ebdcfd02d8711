use Rattle.std.proofs.Common.{sym, ap, subst, ◌∙◌}
use Rattle.act1_match.specs.Choice.{has_bit, value_at, IsChoice}
use Rattle.act1_match.proofs.Bits.{all_bits, variable_inputs, variable_bits}
use Rattle.act1_match.proofs.inputs.ones_of.Goals as goal

pub returns-in-One : goal.returns-in-One
returns-in-One c = λ i h. all_bits i h ∙ ap (value_at i) (sym c.in-One.is)

pub returns-in-Var : goal.returns-in-Var
returns-in-Var c = λ i h.
    ap (λ j. has_bit (variable_inputs j) i) c.from.ensures
    ∙ variable_bits c.in-Var.variable i (subst (IsChoice 6) c.in-Var.is c.requires) h
    ∙ ap (value_at i) (sym c.in-Var.is)
