use Rattle.std.proofs.Common.{◌≡◌, ℕ, ◌<◌, false}
use Rattle.act1_circuit.specs.Firing.{fire, fire_all, site_order}
use Rattle.act1_circuit.proofs.firing.fire_round.Given as goal

-- the modules so far have fired, and if none changed a bit, each leaves the first bits as they were
abbrev pub invariant-loop-module : goal.invariant-loop-module
invariant-loop-module l =
    (l.bits ≡ fire_all l.circuit l.clock l.inputs l.initial.bits (site_order l.module))
    × (l.changed ≡ false → (l.bits ≡ l.initial.bits) × ((k : ℕ) → k < l.module → fire l.circuit l.clock l.inputs l.initial.bits k ≡ l.initial.bits))
