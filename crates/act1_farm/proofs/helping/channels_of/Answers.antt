use Rattle.std.proofs.Common.{ℕ, ◌<◌, length, refl, sym, ap, ◌∙◌, arith}
use Rattle.std.specs.Prelude.{slice_get}
use Rattle.act1_base.proofs.ListGets.{get_read}
use Rattle.act1_farm.specs.Story.{has_connections}
use Rattle.act1_farm.proofs.ChannelLoop.{channel_either}
use Rattle.act1_farm.proofs.helping.channels_of.Goals as goal

pub loop-channel-preserved : goal.loop-channel-preserved
loop-channel-preserved c =
    let p = c.index-problems-from.result in
    let l = c.loop-channel in
    let problems = c.args.problems.now in
    let from_is = c.from.ensures in
    let test = c.loop-channel-test.true in
    let low : c.from.result < length problems = omega arith in
    let there = ap (λ (k : ℕ). slice_get problems k) (sym from_is) ∙ get_read problems c.from.result p low c.index-problems-from.is in
    channel_either problems l.channel l.channels l.invariant p there (has_connections p) refl c.add_channel.new.channels c.in_ok-add_channel.ensures.asked c.in_ok-add_channel.ensures.none
