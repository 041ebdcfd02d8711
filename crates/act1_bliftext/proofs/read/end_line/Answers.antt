use Rattle.std.proofs.Common.{refl}
use Rattle.act1_bliftext.proofs.PlaceLemmas.{behind_line}
use Rattle.act1_bliftext.proofs.read.end_line.Goals as goal

pub returns-clause-goes : goal.returns-clause-goes
returns-clause-goes c = λ all raws h.
    let old = c.args.place.now in
    behind_line all raws old (record { reading = c.take_words.new.reading; words = c.clear.new.self; first = old.number; number = old.number }) c.take_words.new.reading
    c.as_slice.result.now c.as_slice.ensures h (c.in_ok-take_words.ensures.takes h.above h.read) refl refl refl c.clear.ensures.items
