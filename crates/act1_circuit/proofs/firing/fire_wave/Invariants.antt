use Rattle.std.proofs.Common.{◌≡◌, length}
use Rattle.act1_circuit.specs.Firing.{fire_all, site_rounds}
use Rattle.act1_circuit.proofs.firing.fire_wave.Given as goal

-- so many rounds have fired
abbrev pub invariant-loop-round : goal.invariant-loop-round
invariant-loop-round l = l.modules ≡ fire_all l.circuit l.clock l.inputs l.initial.modules (site_rounds (length l.initial.modules) l._round)
