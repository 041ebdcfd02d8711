use Rattle.std.proofs.Common.{sym, ◌∙◌}
use Rattle.act1_extract.proofs.Steps.{name_read, node_of_module}
use Rattle.act1_extract.proofs.nodes.add_module.Goals as goal

pub returns : goal.returns
returns c =
    let none = sym c.has_clock.ensures ∙ c.if-has_clock.false in
    node_of_module c.args.circuit.now c.args.signals.now c.args.names.now c.args.module c.pins_of-pins.result c.index-names-len.result c.in_ok-module_node.field-0 c.args.nodes.now c.push.new.self
    none c.in_ok-push.ensures.ok c.pins_of-pins.ensures (name_read c.args.names.now c.len.result _ c.index-names-len.result c.len.ensures (c.requires.named none) c.index-names-len.is) c.in_ok-module_node.ensures
