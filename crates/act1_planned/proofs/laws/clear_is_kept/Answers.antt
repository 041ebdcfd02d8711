use Rattle.act1_planned.proofs.OrderClear.{order_keeps_clear}
use Rattle.act1_planned.proofs.laws.clear_is_kept.Goals as goal

pub returns : goal.returns
returns c = order_keeps_clear
