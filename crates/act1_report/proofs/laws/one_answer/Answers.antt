use Rattle.act1_report.proofs.CheckFacts.{one_answer_is}
use Rattle.act1_report.proofs.laws.one_answer.Goals as goal

pub returns : goal.returns
returns c = one_answer_is
