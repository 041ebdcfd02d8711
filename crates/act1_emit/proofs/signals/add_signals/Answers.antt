use Rattle.std.proofs.Common.{◌<◌, length, Some, sym, ap, ◌∙◌, arith}
use Rattle.act1_base.proofs.ListGets.{get_read}
use Rattle.act1_emit.proofs.signals.add_signals.Goals as goal

pub add_channel-requires : goal.add_channel-requires
add_channel-requires c =
    let low = c.loop-channel-test.true in
    let within : c.loop-channel.channel < length c.args.tracks.now = omega (arith, c.requires.each) in
    c.requires.there c.loop-channel.channel _ _
    (get_read c.args.channels.now c.loop-channel.channel c.index-channels-channel.result low c.index-channels-channel.is ∙ ap Some (sym c.as_slice-wirings.ensures))
    (get_read c.args.tracks.now c.loop-channel.channel c.index-tracks-channel.result within c.index-tracks-channel.is ∙ ap Some (sym c.as_slice-assigned.ensures))
