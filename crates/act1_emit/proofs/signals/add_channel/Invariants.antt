use Rattle.std.proofs.Common.{◌≡◌, ◌++◌, drop}
use Rattle.act1_emit.specs.SiteSteps.{channel_sites}
use Rattle.act1_emit.proofs.signals.add_channel.Given as goal

-- the sites so far, and those of the connections to come
abbrev pub invariant-loop-at : goal.invariant-loop-at
invariant-loop-at l = l.sites.items ++ channel_sites l.device l.channel (drop l.at l.wirings) (drop l.at l.tracks) ≡ l.initial.sites.items ++ channel_sites l.device l.channel l.wirings l.tracks
