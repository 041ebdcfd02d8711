-- How lines that were written are read.
use Rattle.std.proofs.Common.{List, [], subst}
use Rattle.act1_bliftext.specs.Lines.{Line, text_lines, over}
use Rattle.act1_bliftext.specs.Statements.{Say}
use Rattle.act1_bliftext.specs.Laws.{SaidIsRead, SaidKeepsRules, WrittenLinesAreRead}
use Rattle.act1_bliftext.proofs.LineAdds.{quiet_lines_add, said_lines_add}
use Rattle.act1_bliftext.proofs.PlaceLemmas.{from_last}
use Rattle.act1_bliftext.proofs.PlainTexts.{fine_words_are_read}
use Rattle.act1_bliftext.proofs.Valid.{says_valid}
use Rattle.act1_bliftext.proofs.WholeLines.{still_faultless}

said_keeps_rules : SaidKeepsRules
said_keeps_rules lines model names said free says = says_valid (over lines []) model names said (still_faultless [] lines tt free) says

said_is_read : SaidIsRead
said_is_read bytes s free says = record { faultless = free; says = subst (λ (above : List Line). Say above s.model s.names s.statements) (from_last (text_lines bytes)) says }

pub written_lines_are_read : WrittenLinesAreRead
written_lines_are_read = record { words = fine_words_are_read; said = said_lines_add; quiet = quiet_lines_add; rules = said_keeps_rules; read = said_is_read }
