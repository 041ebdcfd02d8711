use Rattle.act1_circuit.proofs.EveryOrder.{any_order}
use Rattle.act1_circuit.proofs.SiteWaves.{is_wave}
use Rattle.act1_circuit.proofs.laws.every_order.Goals as goal

pub returns : goal.returns
returns c = record { any_order = any_order c.rings_and_levels.ensures.levels; site_order = is_wave }
