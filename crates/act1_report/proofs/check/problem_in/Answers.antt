use Rattle.std.proofs.Common.{arith}
use Rattle.act1_report.proofs.CheckFacts.{no_channel}
use Rattle.act1_report.proofs.check.problem_in.Goals as goal

pub returns-then-report-device : goal.returns-then-report-device
returns-then-report-device c = let high = c.if-report-device.true in no_channel c.args.device.now c.args.report.now (omega (arith, high))
