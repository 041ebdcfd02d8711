use Rattle.act1_report.proofs.ReportWrites.{report_written}
use Rattle.act1_report.proofs.write.report_text.Goals as goal

pub returns : goal.returns
returns c =
    report_written c.args.report.now c.new-text.result.items _ _ _ _ _ c.new-text.ensures.items c.in_ok-write_header.ensures c.in_ok-write_plan.ensures c.in_ok-write_channel.ensures
    c.in_ok-write_log.ensures c.in_ok-write_word.ensures
