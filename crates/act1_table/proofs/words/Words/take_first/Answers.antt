use Rattle.std.proofs.Common.{◌+◌, sym, ◌∙◌}
use Rattle.std.proofs.lemmas.List.{take_rest}
use Rattle.act1_table.proofs.WordCuts.{cut_word}
use Rattle.act1_table.proofs.words.Words.take_first.Goals as goal

pub returns-in-Some : goal.returns-in-Some
returns-in-Some c =
    let bytes = c.self.inside.rest.now in
    sym c.self.view_is ∙ rw (c.if-self.false, take_rest bytes (c.in-Some.end + 1)) (cut_word c.in-Some.end bytes (sym c.in-Some.is ∙ c.first_space.ensures))
