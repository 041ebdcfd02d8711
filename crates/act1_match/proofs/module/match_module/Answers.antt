use Rattle.std.proofs.Common.{subst, sym}
use Rattle.act1_match.specs.Matches.{Matches}
use Rattle.act1_match.specs.SearchSteps.{ArePins}
use Rattle.act1_match.proofs.Choices.{choices_of}
use Rattle.act1_match.proofs.Modules.{pins_match, no_match}
use Rattle.act1_match.proofs.Steps.{finds_none}
use Rattle.act1_match.proofs.module.match_module.Goals as goal

pub returns-in_err-pins : goal.returns-in_err-pins
returns-in_err-pins c =
    finds_none c.from_residual.result (Matches c.args.table c.args.vars) c.from_residual.ensures
    (no_match c.args.table c.args.vars c.inputs_of.result c.requires c.inputs_of.ensures
    (λ p h. c.in_err-pins.ensures p (subst (λ n. ArePins c.args.table.0 c.inputs_of.result (choices_of n) p) (sym c.from.ensures) h)))

pub returns : goal.returns
returns c =
    subst (λ pins. Matches c.args.table c.args.vars pins) (sym c.in_order.ensures)
    (pins_match c.args.table c.args.vars c.inputs_of.result c.requires c.inputs_of.ensures c.in_ok-pins.pins
    (subst (λ n. ArePins c.args.table.0 c.inputs_of.result (choices_of n) c.in_ok-pins.pins) c.from.ensures c.in_ok-pins.ensures))
