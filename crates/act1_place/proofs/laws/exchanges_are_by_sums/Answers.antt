use Rattle.act1_place.proofs.MoveSums.{exchange_is_by_sums_law, sums_stay_law}
use Rattle.act1_place.proofs.laws.exchanges_are_by_sums.Goals as goal

pub returns-clause-exchange : goal.returns-clause-exchange
returns-clause-exchange c = exchange_is_by_sums_law

pub returns-clause-stay : goal.returns-clause-stay
returns-clause-stay c = sums_stay_law
