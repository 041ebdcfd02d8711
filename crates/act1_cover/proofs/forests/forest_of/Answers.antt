use Rattle.std.proofs.Common.{List, ◌<◌, ap, sym, subst, ◌∙◌}
use Rattle.std.specs.Prelude.{◌^◌}
use Rattle.act1_logic.specs.declared.cover.Row.{Row}
use Rattle.act1_logic.specs.Rows.{literals_of}
use Rattle.act1_cover.proofs.Literals.{few_literals}
use Rattle.act1_cover.proofs.Choosing.{by_diagram, by_fault, are_forests, have_value}
use Rattle.act1_cover.proofs.forests.forest_of.Goals as goal

pub literals_of-requires : goal.literals_of-requires
literals_of-requires c = subst (λ (rows : List Row). literals_of rows < 2 ^ 32) (sym c.as_slice.ensures) (few_literals c.args.cover.now)

pub returns-in-Ok-clause-forest : goal.returns-in-Ok-clause-forest
returns-in-Ok-clause-forest c =
    by_diagram c.args.cover.now c.literals_of.result (c.literals_of.ensures ∙ ap literals_of c.as_slice.ensures) c.in-Ok.ensures.diagram.1 c.forest_of_diagram.result c.forest_of_diagram.ensures

pub returns-in-Ok-clause-is_forest : goal.returns-in-Ok-clause-is_forest
returns-in-Ok-clause-is_forest c =
    are_forests c.args.cover.now c.forest_of_diagram.result
    (by_diagram c.args.cover.now c.literals_of.result (c.literals_of.ensures ∙ ap literals_of c.as_slice.ensures) c.in-Ok.ensures.diagram.1 c.forest_of_diagram.result c.forest_of_diagram.ensures)

pub returns-in-Ok-clause-value : goal.returns-in-Ok-clause-value
returns-in-Ok-clause-value c =
    have_value c.args.cover.now c.forest_of_diagram.result
    (by_diagram c.args.cover.now c.literals_of.result (c.literals_of.ensures ∙ ap literals_of c.as_slice.ensures) c.in-Ok.ensures.diagram.1 c.forest_of_diagram.result c.forest_of_diagram.ensures)

pub returns-in-Err-Limit-clause-is_forest : goal.returns-in-Err-Limit-clause-is_forest
returns-in-Err-Limit-clause-is_forest c =
    are_forests c.args.cover.now c.forest_of_chain.result
    (by_fault c.args.cover.now c.literals_of.result c.from_cover.new.self c.in-Err-Limit.field-0 c.in-Err-Limit.field-0-0 c.in-Err-Limit.field-0-is (c.literals_of.ensures ∙ ap literals_of c.as_slice.ensures) c.in-Err-Limit.ensures.diagram
    c.forest_of_chain.result c.forest_of_chain.ensures)

pub returns-in-Err-Limit-clause-value : goal.returns-in-Err-Limit-clause-value
returns-in-Err-Limit-clause-value c =
    have_value c.args.cover.now c.forest_of_chain.result
    (by_fault c.args.cover.now c.literals_of.result c.from_cover.new.self c.in-Err-Limit.field-0 c.in-Err-Limit.field-0-0 c.in-Err-Limit.field-0-is (c.literals_of.ensures ∙ ap literals_of c.as_slice.ensures) c.in-Err-Limit.ensures.diagram
    c.forest_of_chain.result c.forest_of_chain.ensures)
