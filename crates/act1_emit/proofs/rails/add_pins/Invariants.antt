use Rattle.std.proofs.Common.{◌≡◌, ◌++◌, drop}
use Rattle.act1_groute.specs.Nets.{pin_sinks}
use Rattle.act1_emit.specs.SiteSteps.{all_rails}
use Rattle.act1_emit.proofs.rails.add_pins.Given as goal

-- the sites so far, and those of the pins to come
abbrev pub invariant-loop-pin : goal.invariant-loop-pin
invariant-loop-pin l = l.sites.items ++ all_rails (pin_sinks l.device l.spot l.pin (drop l.pin l.pins)) ≡ l.initial.sites.items ++ all_rails (pin_sinks l.device l.spot 0 l.pins)
