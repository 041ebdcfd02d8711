use Rattle.act1_emit.proofs.SiteLoops.{along_step}
use Rattle.act1_emit.proofs.signals.add_along.Goals as goal

pub loop-index-preserved : goal.loop-index-preserved
loop-index-preserved c = along_step c.loop-index.sites.items c.push.new.self.items _ c.args.channel c.args.track c.loop-index.index c.args.last c.in_ok-push.ensures.items c.loop-index-test.true c.loop-index.invariant
