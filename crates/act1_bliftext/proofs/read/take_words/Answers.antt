use Rattle.act1_bliftext.proofs.WholeLines.{nothing_taken}
use Rattle.act1_bliftext.proofs.read.take_words.Goals as goal

pub returns-in-empty-clause-takes : goal.returns-in-empty-clause-takes
returns-in-empty-clause-takes c = λ above r. nothing_taken above c.args.number c.args.words.now c.args.reading.now c.in-empty.len_below r
