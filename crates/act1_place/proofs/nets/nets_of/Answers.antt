use Rattle.std.proofs.Common.{length, map}
use Rattle.act1_circuit.specs.declared.circuit.Source.TheVariants.{Input}
use Rattle.act1_base.specs.Lists.{numbers}
use Rattle.act1_place.proofs.Growing.{input_next, module_next}
use Rattle.act1_place.proofs.nets.nets_of.Goals as goal

pub loop-input-preserved : goal.loop-input-preserved
loop-input-preserved c = input_next c.args.device.now c.args.circuit.now c.loop-input.input c.loop-input.nets.items c.push.new.self.items c.in_ok-input_net.field-0 c.loop-input.invariant c.in_ok-input_net.ensures c.in_ok-push.ensures.items

pub loop-module-preserved : goal.loop-module-preserved
loop-module-preserved c =
    module_next c.args.device.now c.args.circuit.now (map Input (numbers 0 (length c.args.circuit.now.inputs))) c.loop-module.module c.loop-module.nets.items c.push-in-loop-module.new.self.items c.in_ok-module_net.field-0 c.loop-module.invariant c.in_ok-module_net.ensures c.in_ok-push-2.ensures.items
