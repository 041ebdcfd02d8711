use Rattle.std.proofs.Common.{◌≡◌, ◌++◌}
use Rattle.act1_emit.specs.SiteSteps.{along_sites}
use Rattle.act1_emit.proofs.signals.add_along.Given as goal

-- the sites so far, and those to come
abbrev pub invariant-loop-index : goal.invariant-loop-index
invariant-loop-index l = l.sites.items ++ along_sites l.channel l.track l.index l.last ≡ l.initial.sites.items ++ along_sites l.channel l.track l.first l.last
