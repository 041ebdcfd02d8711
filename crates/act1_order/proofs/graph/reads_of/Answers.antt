use Rattle.std.proofs.Common.{sym}
use Rattle.act1_order.proofs.GraphLemmas.{own_reads, all_inside}
use Rattle.act1_order.proofs.graph.reads_of.Goals as goal

pub returns-clause-own : goal.returns-clause-own
returns-clause-own c = sym (own_reads c.args.reads.now c.args.vertex c.from.result c.index-reads-from.result c.as_slice.result.now c.from.ensures c.requires.low c.index-reads-from.is c.as_slice.ensures)

pub returns-clause-inside : goal.returns-clause-inside
returns-clause-inside c =
    all_inside c.args.reads.now c.requires.inside c.args.vertex c.as_slice.result.now
    (sym (own_reads c.args.reads.now c.args.vertex c.from.result c.index-reads-from.result c.as_slice.result.now c.from.ensures c.requires.low c.index-reads-from.is c.as_slice.ensures))
