use Rattle.std.proofs.Common.{◌∙◌}
use Rattle.act1_words.proofs.NumberReads.{number_read}
use Rattle.act1_words.proofs.arguments.number_or.Goals as goal

pub returns-in-Some : goal.returns-in-Some
returns-in-Some c = rw c.in-Some.is (c.unwrap_or.ensures ∙ number_read c.in-Some.text.now c.parse.result c.parse.ensures.value.0)
