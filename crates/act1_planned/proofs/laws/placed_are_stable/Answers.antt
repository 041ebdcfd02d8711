use Rattle.act1_planned.proofs.OrderSums.{placed_is_stable}
use Rattle.act1_planned.proofs.laws.placed_are_stable.Goals as goal

pub returns : goal.returns
returns c = placed_is_stable
