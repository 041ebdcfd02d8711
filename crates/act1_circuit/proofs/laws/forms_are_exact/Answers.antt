use Rattle.act1_circuit.proofs.OneFault.{never_both, one_fault}
use Rattle.act1_circuit.proofs.laws.forms_are_exact.Goals as goal

pub returns : goal.returns
returns c = record { never_both = never_both; one_fault = one_fault }
