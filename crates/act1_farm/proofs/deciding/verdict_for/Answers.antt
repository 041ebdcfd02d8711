use Rattle.act1_farm.proofs.UsableAnswers.{answer_decides}
use Rattle.act1_farm.proofs.deciding.verdict_for.Goals as goal

pub returns-in-None-clause-decides : goal.returns-in-None-clause-decides
returns-in-None-clause-decides c = answer_decides c.args.problem.now c.args.budget c.search.result c.search.ensures
