use Rattle.act1_cover.proofs.TilePins.{tiles_give_values}
use Rattle.act1_cover.proofs.laws.tiles_give_values.Goals as goal

pub returns : goal.returns
returns c = tiles_give_values
