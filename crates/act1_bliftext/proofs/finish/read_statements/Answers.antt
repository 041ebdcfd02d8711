use Rattle.act1_bliftext.specs.Lines.{text_lines}
use Rattle.act1_bliftext.proofs.PlaceLemmas.{is_whole}
use Rattle.act1_bliftext.proofs.finish.read_statements.Goals as goal

pub statements_of-requires : goal.statements_of-requires
statements_of-requires c = is_whole (text_lines c.args.bytes.now) c.in_ok-reading.reading c.in_ok-reading.ensures
