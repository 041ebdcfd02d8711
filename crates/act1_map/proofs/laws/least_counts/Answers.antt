use Rattle.act1_map.proofs.LeastNeed.{least_is_at_most_need}
use Rattle.act1_map.proofs.LeastOne.{least_is_one}
use Rattle.act1_map.proofs.laws.least_counts.Goals as goal

pub returns : goal.returns
returns c = record { one = least_is_one; need = least_is_at_most_need c.forests_denote.ensures c.least_is_few.ensures.forks c.least_is_few.ensures.chains }
