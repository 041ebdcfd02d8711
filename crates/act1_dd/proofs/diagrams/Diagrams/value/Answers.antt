use Rattle.std.proofs.Common.{sym, ap, ◌∙◌}
use Rattle.act1_dd.specs.declared.refs.Ref.{Ref}
use Rattle.act1_dd.specs.Inputs.{inputs_of}
use Rattle.act1_dd.specs.Diagram.{value_at}
use Rattle.act1_dd.proofs.Values.{value_zero, value_one}
use Rattle.act1_dd.proofs.diagrams.Diagrams.value.Goals as goal

pub returns-in-Zero : goal.returns-in-Zero
returns-in-Zero c =
    let x = inputs_of c.args.values.now in
    sym (c.loop-at.invariant.value ∙ ap (λ (r : Ref). value_at c.args.self.now r x) c.in-Zero.is ∙ value_zero x c.args.self.now)

pub returns-in-One : goal.returns-in-One
returns-in-One c =
    let x = inputs_of c.args.values.now in
    sym (c.loop-at.invariant.value ∙ ap (λ (r : Ref). value_at c.args.self.now r x) c.in-One.is ∙ value_one x c.args.self.now)
