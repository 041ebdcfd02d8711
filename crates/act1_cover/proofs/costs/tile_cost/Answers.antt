use Rattle.act1_cover.specs.Costs.{cost_in}
use Rattle.act1_cover.proofs.CostSteps.{tile_stands}
use Rattle.act1_cover.proofs.costs.tile_cost.Goals as goal

pub returns-in-Some-side_cost-2 : goal.returns-in-Some-side_cost-2
returns-in-Some-side_cost-2 c =
    let low = c.in-Some-side_cost.ensures.cost in
    let high = c.in-Some-side_cost-2.ensures.cost in
    tile_stands c.args.forest.now (cost_in c.args.table.now) c.args.fork c.args.shape c.in-Some.term c.high_of.result c.in-Some-side_cost.cost c.in-Some-side_cost-2.high c.requires.fork c.in-Some.ensures.side.0 c.in-Some.ensures.side.1 low.0 low.1 c.high_of.ensures high.0 high.1
