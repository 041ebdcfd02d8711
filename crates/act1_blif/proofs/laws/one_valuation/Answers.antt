use Rattle.act1_blif.proofs.Existence.{each_has_one}
use Rattle.act1_blif.proofs.laws.one_valuation.Goals as goal

pub returns : goal.returns
returns c = each_has_one
