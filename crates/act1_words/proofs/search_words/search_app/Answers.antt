use Rattle.clap.specs.Words.{app_of}
use Rattle.act1_words.proofs.Apps.{search_steps}
use Rattle.act1_words.proofs.search_words.search_app.Goals as goal

pub returns : goal.returns
returns c = search_steps (app_of c.plain_command-plain.result) (app_of c.in_ok-job.job) (app_of c.in_ok-whole.whole)
    c.plain_command-plain.ensures c.in_ok-job.ensures c.in_ok-whole.ensures
