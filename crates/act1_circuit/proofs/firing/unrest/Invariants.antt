use Rattle.std.proofs.Common.{◌≡◌, ℕ, ◌<◌}
use Rattle.act1_circuit.specs.Firing.{fire}
use Rattle.act1_circuit.proofs.firing.unrest.Given as goal

-- no module so far changes a bit
abbrev pub invariant-loop-module : goal.invariant-loop-module
invariant-loop-module l = (k : ℕ) → k < l.module → fire l.circuit l.clock l.inputs l.bits k ≡ l.bits
