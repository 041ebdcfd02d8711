use Rattle.act1_circuit.proofs.FormLemmas.{first_clock_out}
use Rattle.act1_circuit.proofs.faults.clock_fault.Goals as goal

pub returns-in-Some-least_clock_out : goal.returns-in-Some-least_clock_out
returns-in-Some-least_clock_out c =
    let none = c.in_default.ensures in
    let found = c.in-Some-least_clock_out.ensures in
    first_clock_out c.args.circuit.now c.in-Some-least_clock_out.output none found.0 found.1
