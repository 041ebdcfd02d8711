use Rattle.act1_array.proofs.OneAnswers.{one_answer}
use Rattle.act1_array.proofs.laws.one_answer.Goals as goal

pub returns : goal.returns
returns c = one_answer c.one_circuit.ensures
