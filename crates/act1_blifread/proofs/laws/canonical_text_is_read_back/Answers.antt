use Rattle.act1_blifread.proofs.CanonicalBlif.{canonical_is_blif}
use Rattle.act1_blifread.proofs.laws.canonical_text_is_read_back.Goals as goal

pub returns : goal.returns
returns c = canonical_is_blif c.written_lines_are_read.ensures
