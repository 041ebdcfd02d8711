use Rattle.act1_circuit.proofs.CycleSteps.{each_cycle, slaves_decide}
use Rattle.act1_circuit.proofs.laws.each_cycle.Goals as goal

pub returns : goal.returns
returns c = record { cycles = each_cycle c.rings_and_levels.ensures.levels; slaves = slaves_decide c.rings_and_levels.ensures.levels }
