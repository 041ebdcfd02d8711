use Rattle.clap.specs.Words.{app_of}
use Rattle.act1_words.proofs.Apps.{check_steps}
use Rattle.act1_words.proofs.check_words.check_app.Goals as goal

pub returns : goal.returns
returns c = check_steps (app_of c.plain_command-plain.result) (app_of c.in_ok-device.device) (app_of c.in_ok-whole.whole)
    c.plain_command-plain.ensures c.in_ok-device.ensures c.in_ok-whole.ensures
