use Rattle.std.proofs.Common.{ℕ, ◌<◌}
use Rattle.act1_circuit.specs.declared.pairs.FormFault.TheVariants as fault
use Rattle.act1_circuit.specs.FormFaults.{HasFault}
use Rattle.act1_circuit.proofs.faults.least_start.Given as goal

-- none of the first modules has the fault
abbrev pub invariant-loop-module : goal.invariant-loop-module
invariant-loop-module l = (k : ℕ) → k < l.module → HasFault l.circuit (fault.Start k) → ⊥
