use Rattle.std.proofs.Common.{length, map}
use Rattle.act1_circuit.specs.declared.circuit.Source.TheVariants.{Input}
use Rattle.act1_base.specs.Lists.{numbers}
use Rattle.act1_groute.proofs.NetSteps.{input_next, module_next}
use Rattle.act1_groute.proofs.nets.nets_of.Goals as goal

pub loop-input-preserved : goal.loop-input-preserved
loop-input-preserved c = input_next c.args.all.now c.loop-input.input c.loop-input.nets.items c.add_net.new.nets.items c.loop-input.invariant c.in_ok-add_net.ensures

pub loop-number-preserved : goal.loop-number-preserved
loop-number-preserved c =
    module_next c.args.all.now (map Input (numbers 0 (length c.args.plan.now.placed.circuit.inputs))) c.loop-number.number c.loop-number.nets.items c.add_net-in-loop-number.new.nets.items c.loop-number.invariant c.in_ok-add_net-2.ensures
