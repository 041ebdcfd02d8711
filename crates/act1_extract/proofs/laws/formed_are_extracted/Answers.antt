use Rattle.act1_extract.proofs.ExtractLaws as laws
use Rattle.act1_extract.proofs.laws.formed_are_extracted.Goals as goal

pub returns : goal.returns
returns c = laws.formed_are_extracted c.one_circuit.ensures c.forms_are_exact.ensures.never_both c.one_answer.ensures
