use Rattle.std.proofs.Common.{List, length, sym, ap, ◌∙◌, arith}
use Rattle.std.specs.Prelude.{slice_get}
use Rattle.act1_base.proofs.ListGets.{get_read}
use Rattle.act1_blif.specs.declared.blif.Node.{Node}
use Rattle.act1_map.proofs.live.net_reads.Goals as goal

pub reads_of_node-requires-clause-covered : goal.reads_of_node-requires-clause-covered
reads_of_node-requires-clause-covered c =
    let at = c.loop-at.at in
    let count = c.requires.count in
    let long = ap (λ (ns : List Node). length ns) c.as_slice-nodes.ensures in
    let low = c.loop-at-test.true in
    c.requires.each at c.index-nodes-at.result c.index-covers-at.result
    (ap (λ (ns : List Node). slice_get ns at) (sym c.as_slice-nodes.ensures) ∙ get_read c.as_slice-nodes.result.now at c.index-nodes-at.result low c.index-nodes-at.is)
    (get_read c.args.covers.now at c.index-covers-at.result (omega arith) c.index-covers-at.is)
