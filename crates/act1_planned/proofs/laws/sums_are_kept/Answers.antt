use Rattle.act1_planned.proofs.OrderSums.{order_keeps_sums}
use Rattle.act1_planned.proofs.laws.sums_are_kept.Goals as goal

pub returns : goal.returns
returns c = order_keeps_sums
