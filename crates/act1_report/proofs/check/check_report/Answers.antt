use Rattle.act1_report.proofs.CheckFacts.{on_report, refuted_if}
use Rattle.act1_report.proofs.check.check_report.Goals as goal

pub returns-clause-checks : goal.returns-clause-checks
returns-clause-checks c = on_report c.args.device.now c.args.bytes.now c.in_ok-report.report c.check_read.result c.in_ok-report.ensures c.check_read.ensures

pub returns-clause-refutes : goal.returns-clause-refutes
returns-clause-refutes c = refuted_if c.args.device.now c.args.bytes.now c.in_ok-report.report c.check_read.result c.in_ok-report.ensures c.check_read.ensures
