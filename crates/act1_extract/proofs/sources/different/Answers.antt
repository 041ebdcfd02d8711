use Rattle.std.proofs.Common.{refl}
use Rattle.act1_extract.proofs.Steps.{different_first, different_last, different_step}
use Rattle.act1_extract.proofs.sources.different.Goals as goal

pub loop-at-preserved : goal.loop-at-preserved
loop-at-preserved c = different_step c.args.pins.now c.loop-at.all c.as_slice.result.now c.in_ok-all.all c.loop-at.at _ _ c.loop-at-test.true refl c.loop-at.invariant c.as_slice.ensures c.in_ok-all.ensures

pub loop-at-init : goal.loop-at-init
loop-at-init c = different_first c.args.pins.now c.new-all.result c.new-all.ensures

pub returns : goal.returns
returns c = different_last c.args.pins.now c.loop-at.all c.loop-at.at c.loop-at-test.false c.loop-at.invariant
