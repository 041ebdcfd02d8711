use Rattle.act1_report.proofs.ReportTexts.{never_both, one_report}
use Rattle.act1_report.proofs.laws.report_texts_are_exact.Goals as goal

pub returns : goal.returns
returns c = record { one = one_report; never = never_both }
