use Rattle.std.proofs.Common.{◌≡◌, ◌++◌, drop}
use Rattle.act1_emit.specs.SiteSteps.{signal_sites}
use Rattle.act1_emit.proofs.signals.add_signals.Given as goal

-- the sites so far, and those of the channels to come
abbrev pub invariant-loop-channel : goal.invariant-loop-channel
invariant-loop-channel l = l.sites.items ++ signal_sites l.device l.channel (drop l.channel l.channels) (drop l.channel l.tracks) ≡ l.initial.sites.items ++ signal_sites l.device 0 l.channels l.tracks
