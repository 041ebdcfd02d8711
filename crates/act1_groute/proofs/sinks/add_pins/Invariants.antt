use Rattle.std.proofs.Common.{◌≡◌, ◌++◌, drop}
use Rattle.act1_groute.specs.Nets.{pin_sinks}
use Rattle.act1_groute.proofs.sinks.add_pins.Given as goal

-- the pins so far, and those to come
abbrev pub invariant-loop-pin : goal.invariant-loop-pin
invariant-loop-pin l = l.found.items ++ pin_sinks l.device l.spot l.pin (drop l.pin l.pins) ≡ l.initial.found.items ++ pin_sinks l.device l.spot 0 l.pins
