use Rattle.act1_map.specs.CoverSteps.{input_signal}
use Rattle.act1_map.proofs.CoverReads.{add_more}
use Rattle.act1_map.proofs.reads.add_inputs.Goals as goal

pub loop-pin-preserved : goal.loop-pin-preserved
loop-pin-preserved c =
    add_more (input_signal c.args.inputs.now) c.args.pins.now c.loop-pin.pin-index _ c.args.reads.now c.loop-pin.reads c.add_input.new.reads c.loop-pin-test.true c.loop-pin.invariant c.in_ok-add_input.ensures
