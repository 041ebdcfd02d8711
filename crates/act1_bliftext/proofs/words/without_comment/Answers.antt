use Rattle.std.proofs.Common.{◌==◌, sym, ◌∙◌}
use Rattle.act1_bliftext.proofs.Backslashes.{before_found, before_none}
use Rattle.act1_bliftext.proofs.words.without_comment.Goals as goal

pub returns-in-Some : goal.returns-in-Some
returns-in-Some c = before_found (λ b. b == 35) c.in-Some.start c.args.line.now (sym c.in-Some.is ∙ c.first_place.ensures)

pub returns-in-None : goal.returns-in-None
returns-in-None c = before_none (λ b. b == 35) c.args.line.now (sym c.in-None.is ∙ c.first_place.ensures)
