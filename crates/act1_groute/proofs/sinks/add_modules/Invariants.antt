use Rattle.std.proofs.Common.{◌≡◌, ◌++◌, drop}
use Rattle.act1_groute.specs.Nets.{module_sinks}
use Rattle.act1_groute.proofs.sinks.add_modules.Given as goal

-- the modules so far, and those to come
abbrev pub invariant-loop-at : goal.invariant-loop-at
invariant-loop-at l = l.found.items ++ module_sinks l.device (drop l.at l.spots) (drop l.at l.modules) ≡ l.initial.found.items ++ module_sinks l.device l.spots l.modules
