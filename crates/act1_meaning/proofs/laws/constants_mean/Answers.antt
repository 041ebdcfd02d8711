use Rattle.act1_meaning.proofs.ConstantMeaning.{constants_mean as they_mean}
use Rattle.act1_meaning.proofs.laws.constants_mean.Goals as goal

pub returns : goal.returns
returns c = they_mean c.ports_are_few.ensures
