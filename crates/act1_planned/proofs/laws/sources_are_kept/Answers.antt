use Rattle.act1_planned.proofs.OrderSources.{order_keeps_sources}
use Rattle.act1_planned.proofs.laws.sources_are_kept.Goals as goal

pub returns : goal.returns
returns c = order_keeps_sources
