use Rattle.act1_order.proofs.ReadersLemmas.{adds_more}
use Rattle.std.proofs.Common.{◌<◌, length, get_or, arith}
use Rattle.act1_order.proofs.readers.add_to_all.Goals as goal

pub loop-vertex-preserved : goal.loop-vertex-preserved
loop-vertex-preserved c =
    let all = c.loop-vertex.invariant.all in
    let low = c.requires c.loop-vertex.vertex-index 0 c.loop-vertex-test.true in
    adds_more c.args.reader c.args.vertices.now c.loop-vertex.vertex-index c.args.readers.now.items c.loop-vertex.readers.items c.add_reader.new.readers.items c.loop-vertex-test.true c.loop-vertex.invariant c.in_ok-add_reader.ensures
    (let within : get_or c.args.vertices.now c.loop-vertex.vertex-index 0 < length c.loop-vertex.readers.items = omega arith in within)
