use Rattle.act1_order.proofs.ReadersLemmas.{readers_more, readers_all}
use Rattle.act1_order.proofs.readers.readers_of.Goals as goal

pub loop-vertex-preserved : goal.loop-vertex-preserved
loop-vertex-preserved c =
    readers_more c.args.reads.now c.loop-vertex.vertex c.reads_of.result.now c.loop-vertex.readers.items c.add_to_all.new.readers.items c.reads_of.ensures.own c.loop-vertex.invariant c.in_ok-add_to_all.ensures

pub returns : goal.returns
returns c = readers_all c.args.reads.now c.loop-vertex.vertex c.loop-vertex.readers.items c.loop-vertex-test.false c.loop-vertex.invariant
