use Rattle.act1_base.proofs.ListGets.{get_read}
use Rattle.act1_cover.proofs.TextGrows.{nodes_more}
use Rattle.act1_cover.proofs.text.write_nodes.Goals as goal

pub loop-node-preserved : goal.loop-node-preserved
loop-node-preserved c =
    nodes_more c.args.nodes.now c.loop-node.node-index c.node-item.result c.args.text.now.items c.loop-node.text.items c.write_node.new.text.items c.loop-node.count c.in_ok-write_node.field-0 c.in_ok-count.count
    (get_read c.args.nodes.now c.loop-node.node-index c.node-item.result c.loop-node-test.true c.node-item.is) c.loop-node.invariant c.in_ok-write_node.ensures c.in_ok-count.ensures
