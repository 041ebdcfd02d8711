use Rattle.act1_net.specs.Gates.{signal_of}
use Rattle.act1_map.proofs.CoverReads.{add_more}
use Rattle.act1_map.proofs.live.add_signals.Goals as goal

pub loop-term-preserved : goal.loop-term-preserved
loop-term-preserved c =
    add_more signal_of c.args.terms.now c.loop-term.term-index _ c.args.signals.now.items c.loop-term.signals.items c.add_signal.new.signals.items c.loop-term-test.true c.loop-term.invariant c.in_ok-add_signal.ensures
