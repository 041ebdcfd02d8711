use Rattle.act1_base.proofs.ListGets.{get_read}
use Rattle.act1_map.proofs.Passes.{node_counted}
use Rattle.act1_map.proofs.counting.least_of_nodes.Goals as goal

pub loop-node-preserved : goal.loop-node-preserved
loop-node-preserved c =
    node_counted c.args.nodes.now c.loop-node.node-index c.node-item.result c.loop-node.count c.in_ok-least_of_node.field-0 c.in_ok-count.count
    (get_read c.args.nodes.now c.loop-node.node-index c.node-item.result c.loop-node-test.true c.node-item.is) c.loop-node.invariant c.in_ok-least_of_node.ensures c.in_ok-count.ensures
