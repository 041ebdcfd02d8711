use Rattle.act1_place.proofs.Starts.{placements_are_one_law}
use Rattle.act1_place.proofs.laws.one_placement.Goals as goal

pub returns : goal.returns
returns c = placements_are_one_law
