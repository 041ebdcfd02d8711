use Rattle.act1_logtext.proofs.AnswerWrites.{log_written}
use Rattle.act1_logtext.proofs.logs.log_text.Goals as goal

pub returns : goal.returns
returns c = log_written c.new-text.result.items _ _ _ c.args.log.now.steps c.new-text.ensures.items c.log_table.ensures c.as_slice.ensures c.in_ok-write_steps.ensures
