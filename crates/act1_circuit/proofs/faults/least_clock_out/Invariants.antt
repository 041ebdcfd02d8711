use Rattle.std.proofs.Common.{ℕ, ◌<◌}
use Rattle.act1_circuit.specs.declared.pairs.FormFault.TheVariants as fault
use Rattle.act1_circuit.specs.FormFaults.{HasFault}
use Rattle.act1_circuit.proofs.faults.least_clock_out.Given as goal

-- none of the first outputs has the fault
abbrev pub invariant-loop-output : goal.invariant-loop-output
invariant-loop-output l = (k : ℕ) → k < l.output → HasFault l.circuit (fault.ClockOut k) → ⊥
