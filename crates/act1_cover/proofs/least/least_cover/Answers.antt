use Rattle.act1_cover.proofs.RootCounts.{are_within}
use Rattle.act1_cover.proofs.least.least_cover.Goals as goal

pub roots_of-requires : goal.roots_of-requires
roots_of-requires c = are_within c.args.forest.now c.requires

pub costs_of-requires-clause-parts : goal.costs_of-requires-clause-parts
costs_of-requires-clause-parts c = are_within c.args.forest.now c.requires

pub tiles_of-requires-clause-parts : goal.tiles_of-requires-clause-parts
tiles_of-requires-clause-parts c = are_within c.args.forest.now c.requires
