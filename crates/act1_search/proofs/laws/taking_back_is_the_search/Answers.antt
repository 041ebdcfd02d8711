use Rattle.act1_search.proofs.Visits.{visits}
use Rattle.act1_search.proofs.laws.taking_back_is_the_search.Goals as goal

pub returns : goal.returns
returns c = visits
