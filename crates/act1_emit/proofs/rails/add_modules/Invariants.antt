use Rattle.std.proofs.Common.{◌≡◌, ◌++◌, drop}
use Rattle.act1_groute.specs.Nets.{module_sinks}
use Rattle.act1_emit.specs.SiteSteps.{all_rails}
use Rattle.act1_emit.proofs.rails.add_modules.Given as goal

-- the sites so far, and those of the modules to come
abbrev pub invariant-loop-at : goal.invariant-loop-at
invariant-loop-at l = l.sites.items ++ all_rails (module_sinks l.device (drop l.at l.spots) (drop l.at l.modules)) ≡ l.initial.sites.items ++ all_rails (module_sinks l.device l.spots l.modules)
