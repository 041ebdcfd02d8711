use Rattle.act1_extract.proofs.ExtractLaws.{never_both}
use Rattle.act1_extract.proofs.laws.one_answer.Goals as goal

pub returns : goal.returns
returns c = never_both c.one_circuit.ensures c.forms_are_exact.ensures.never_both c.one_answer.ensures
