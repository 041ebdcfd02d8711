use Rattle.std.proofs.Common.{◌∙◌, arith}
use Rattle.act1_place.proofs.TotalSteps.{total_next}
use Rattle.act1_place.proofs.sums.total_of.Goals as goal

pub loop-net-preserved : goal.loop-net-preserved
loop-net-preserved c = record {
  is = total_next c.args.nets.now c.args.spots.now c.loop-net.net-index c.loop-net.total c.from-total.result c.net-item.result c.loop-net-test.true c.net-item.is (c.from-total.ensures ∙ c.half_perimeter.ensures) c.loop-net.invariant.is;
  few = let few = c.loop-net.invariant.few in let small = c.half_perimeter.type_inv in omega (arith, few, small, c.from-total.ensures);
}
