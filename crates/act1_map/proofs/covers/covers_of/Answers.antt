use Rattle.act1_base.proofs.ListGets.{get_read}
use Rattle.act1_map.proofs.CoverNodes.{one_more}
use Rattle.act1_map.proofs.covers.covers_of.Goals as goal

pub loop-node-preserved : goal.loop-node-preserved
loop-node-preserved c =
    one_more c.args.nodes.now c.loop-node.node-index c.loop-node.covers.items c.push.new.self.items c.node-item.result c.in_ok-cover_node.field-0
    (get_read c.args.nodes.now c.loop-node.node-index c.node-item.result c.loop-node-test.true c.node-item.is) c.loop-node.invariant c.in_ok-cover_node.ensures c.in_ok-push.ensures.items
