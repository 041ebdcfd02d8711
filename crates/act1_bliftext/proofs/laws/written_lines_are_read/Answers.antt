use Rattle.act1_bliftext.proofs.WrittenLines.{written_lines_are_read}
use Rattle.act1_bliftext.proofs.laws.written_lines_are_read.Goals as goal

pub returns : goal.returns
returns c = written_lines_are_read
