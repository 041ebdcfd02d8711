use Rattle.std.proofs.Common.{length}
use Rattle.act1_extract.proofs.Steps.{name_read, node_of_constant}
use Rattle.act1_extract.proofs.nodes.add_constant.Goals as goal

pub returns-in_ok-push : goal.returns-in_ok-push
returns-in_ok-push c =
    node_of_constant c.args.is_taken c.args.value c.args.names.now c.index-names-len.result c.in_ok-constant_node.field-0 c.args.nodes.now c.push.new.self
    c.if-is_taken.true c.in_ok-push.ensures.ok (name_read c.args.names.now c.len.result (length c.args.nodes.now) c.index-names-len.result c.len.ensures (c.requires c.if-is_taken.true) c.index-names-len.is) c.in_ok-constant_node.ensures
