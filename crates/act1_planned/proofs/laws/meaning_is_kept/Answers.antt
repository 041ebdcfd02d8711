use Rattle.act1_planned.proofs.OrderMeans.{order_keeps_meaning, order_keeps_range}
use Rattle.act1_planned.proofs.laws.meaning_is_kept.Goals as goal

pub returns : goal.returns
returns c = record { means = order_keeps_meaning; range = order_keeps_range }
