use Rattle.act1_report.proofs.ReportTexts.{report_rules_are, read_of, read_few, first_read}
use Rattle.act1_report.proofs.read.read_report.Goals as goal

pub unreachable-requires : goal.unreachable-requires
unreachable-requires c = let r = read_of c.args.bytes.now c.in-Ok.state c.in-Ok.ensures.reads in c.in_default.not-End r.draft r.ended_is

pub report_of-requires : goal.report_of-requires
report_of-requires c = read_few c.args.bytes.now c.in-Ok.state c.in-End.draft c.in-Ok.ensures.reads c.in-End.is

pub returns-in-End : goal.returns-in-End
returns-in-End c = first_read c.args.bytes.now c.in-Ok.state c.in-End.draft c.report_of.result c.in-Ok.ensures.reads c.in-End.is c.report_of.ensures

pub returns-in-Err-Fault : goal.returns-in-Err-Fault
returns-in-Err-Fault c = rw c.in-Err-Fault.field-0-is at (c.in-Err-Fault.ensures.texts report_rules_are)
