use Rattle.act1_circuit.proofs.Fires.{next_module}
use Rattle.act1_circuit.proofs.firing.fire_round.Goals as goal

pub loop-module-preserved : goal.loop-module-preserved
loop-module-preserved c =
    next_module c.args.circuit.now c.args.clock c.args.inputs.now c.args.bits.now _ _ c.loop-module.module c.loop-module.changed c.fire_one-changed.result c.loop-module.invariant
    c.fire_one-changed.ensures.fires c.fire_one-changed.ensures.same
