use Rattle.act1_fuses.proofs.Unique.{one_circuit_of_array}
use Rattle.act1_fuses.proofs.laws.one_circuit.Goals as goal

pub returns : goal.returns
returns c = one_circuit_of_array
