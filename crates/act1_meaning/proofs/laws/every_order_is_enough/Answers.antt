use Rattle.act1_meaning.proofs.SiteWave.{means_in_order}
use Rattle.act1_meaning.proofs.laws.every_order_is_enough.Goals as goal

pub returns : goal.returns
returns c = means_in_order c.every_order.ensures.site_order
