use Rattle.std.proofs.Common.{sym, ◌∙◌}
use Rattle.act1_extract.proofs.Steps.{node_of_output}
use Rattle.act1_extract.proofs.outputs.add_output.Goals as goal

pub returns : goal.returns
returns c =
    node_of_output c.args.circuit.now c.args.signals.now c.args.output.now c.in_ok-output_node.field-0 c.args.nodes.now c.push.new.self
    (sym c.is_own_signal.ensures ∙ c.if-is_own_signal.false) c.in_ok-push.ensures.ok c.in_ok-output_node.ensures
