use Rattle.act1_demo.proofs.ShownRuns.{at_last, next_turn}
use Rattle.act1_demo.proofs.shown.lines_over.Goals as goal

pub loop-input-preserved : goal.loop-input-preserved
loop-input-preserved c =
    next_turn c.args.net.now _ c.args.inputs.now c.loop-input.input-index _ c.loop-input.state.items c.deref.result.now c.in_ok-state-2.state.items c.in_ok-values.values.items
    c.deref-in-loop-input.result.now c.deref-in-loop-input-2.result.now c.loop-input.text.items c.write_outputs.new.text.items
    c.loop-input-test.true c.loop-input.invariant c.deref.ensures.value c.in_ok-values.ensures c.deref-in-loop-input.ensures.value c.in_ok-write_outputs.ensures
    c.deref-in-loop-input-2.ensures.value c.in_ok-state-2.ensures

pub returns : goal.returns
returns c = at_last c.args.net.now _ c.args.inputs.now c.loop-input.input-index _ c.loop-input.text.items c.loop-input-test.false c.loop-input.invariant
