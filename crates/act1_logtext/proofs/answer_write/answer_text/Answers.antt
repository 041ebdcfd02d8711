use Rattle.act1_logtext.proofs.AnswerWrites.{answer_written}
use Rattle.act1_logtext.proofs.answer_write.answer_text.Goals as goal

pub returns : goal.returns
returns c =
    answer_written c.args.answer.now c.new-text.result.items _ _ _ c.new-text.ensures.items c.in_ok-write_header.ensures c.in_ok-write_body.ensures c.in_ok-write_word.ensures
