use Rattle.clap.specs.Words.{app_of}
use Rattle.act1_words.proofs.Apps.{cover_steps}
use Rattle.act1_words.proofs.cover_words.cover_app.Goals as goal

pub returns : goal.returns
returns c = cover_steps (app_of c.plain_command-plain.result) (app_of c.in_ok-whole.whole)
    c.plain_command-plain.ensures c.in_ok-whole.ensures
