use Rattle.act1_circuit.proofs.EveryOrder.{settles}
use Rattle.act1_circuit.proofs.firing.settle.Goals as goal

pub returns-clause-pair_form : goal.returns-clause-pair_form
returns-clause-pair_form c =
    settles c.every_order.ensures.any_order c.args.circuit.now c.args.clock c.args.inputs.now c.args.modules.now c.fire_wave.new.modules c.fire_wave.result
    c.requires.one_each c.fire_wave.ensures.wave c.fire_wave.ensures.some
