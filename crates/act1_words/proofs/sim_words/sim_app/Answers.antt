use Rattle.clap.specs.Words.{app_of}
use Rattle.act1_words.proofs.Apps.{sim_steps}
use Rattle.act1_words.proofs.sim_words.sim_app.Goals as goal

pub returns : goal.returns
returns c = sim_steps (app_of c.plain_command-plain.result) (app_of c.in_ok-device.device) (app_of c.in_ok-fuses.fuses) (app_of c.in_ok-vectors.vectors) (app_of c.in_ok-whole.whole)
    c.plain_command-plain.ensures c.in_ok-device.ensures c.in_ok-fuses.ensures c.in_ok-vectors.ensures c.in_ok-whole.ensures
