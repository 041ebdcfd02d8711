use Rattle.act1_search.proofs.Lighter.{few, short}
use Rattle.act1_search.proofs.laws.conflicts_are_few.Goals as goal

pub returns : goal.returns
returns c = record { «few» = few; «short» = short }
