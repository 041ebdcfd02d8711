use Rattle.clap.specs.Words.{app_of}
use Rattle.act1_words.proofs.Apps.{extract_steps}
use Rattle.act1_words.proofs.extract_words.extract_app.Goals as goal

pub returns : goal.returns
returns c = extract_steps (app_of c.plain_command-plain.result) (app_of c.in_ok-device.device) (app_of c.in_ok-fuses.fuses) (app_of c.in_ok-whole.whole)
    c.plain_command-plain.ensures c.in_ok-device.ensures c.in_ok-fuses.ensures c.in_ok-whole.ensures
