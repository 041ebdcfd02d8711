use Rattle.std.proofs.Common.{false, arith}
use Rattle.std.proofs.lemmas.Option.{slice_get-get_or}
use Rattle.act1_base.proofs.ListGets.{get_read}
use Rattle.act1_net.proofs.build.nodes_of.Goals as goal

pub add_node-requires : goal.add_node-requires
add_node-requires c =
    let i = c.loop-at.at in
    let each = c.requires.each in
    c.requires.nodes i _ c.index-nodes-at.result
    (slice_get-get_or c.args.kept.now i false (omega arith))
    (get_read c.args.nodes.now i c.index-nodes-at.result c.loop-at-test.true c.index-nodes-at.is)
