use Rattle.act1_place.proofs.KeptSums.{kept_is_total_law}
use Rattle.act1_place.proofs.laws.kept_is_total.Goals as goal

pub returns : goal.returns
returns c = kept_is_total_law
