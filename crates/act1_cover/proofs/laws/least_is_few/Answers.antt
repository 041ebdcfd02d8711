use Rattle.act1_cover.proofs.Few.{least_is_few, chains_are_few}
use Rattle.act1_cover.proofs.laws.least_is_few.Goals as goal

pub returns : goal.returns
returns c = record { forks = least_is_few; chains = chains_are_few }
