use Rattle.act1_order.proofs.RingLemmas.{levels_without_ring, order_without_ring, ring_decided}
use Rattle.act1_order.proofs.laws.rings_and_levels.Goals as goal

pub returns : goal.returns
returns c = record { decided = ring_decided; levels = levels_without_ring; orders = order_without_ring }
