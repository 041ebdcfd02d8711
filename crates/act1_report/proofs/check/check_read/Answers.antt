use Rattle.act1_report.proofs.CheckFacts.{on_problem}
use Rattle.act1_report.proofs.check.check_read.Goals as goal

pub returns : goal.returns
returns c = on_problem c.args.device.now c.args.report.now c.in_ok-problem.problem c.verdict.result c.in_ok-problem.ensures c.verdict.ensures
