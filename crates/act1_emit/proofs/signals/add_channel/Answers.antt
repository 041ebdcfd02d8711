use Rattle.act1_emit.proofs.SiteLoops.{channel_step}
use Rattle.act1_emit.proofs.signals.add_channel.Goals as goal

pub loop-at-preserved : goal.loop-at-preserved
loop-at-preserved c =
    channel_step c.args.device.now c.args.channel c.args.wirings.now c.args.tracks.now c.loop-at.at c.loop-at.sites.items c.add_connection.new.sites.items _ c.index-wirings-at.result c.track_number.result _ c.loop-at-test.true c.requires.count c.index-wirings-at.is c.track_number.ensures c.in_ok-add_connection.ensures c.loop-at.invariant
