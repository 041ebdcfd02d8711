use Rattle.std.proofs.Common.{false}
use Rattle.act1_circuit.specs.declared.circuit.Output.{Output}
use Rattle.act1_circuit.specs.Firing.{source_value}
use Rattle.act1_sim.proofs.LineTexts.{printed}
use Rattle.act1_sim.proofs.cycle.print_outputs.Goals as goal

pub returns : goal.returns
returns c =
    printed c.args.circuit.now.outputs c.as_slice-output-items.result.now c.loop-output.output-index (λ (o : Output). source_value false c.args.inputs.now c.args.bits.now o.source) c.args.text.now.items c.loop-output.text.items _
    c.as_slice-output-items.ensures c.loop-output-test.false c.loop-output.invariant c.in_ok-push-2.ensures.items
