use Rattle.clap.specs.Words.{app_of}
use Rattle.act1_words.proofs.Apps.{flow_steps}
use Rattle.act1_words.proofs.flow_words.flow_app.Goals as goal

pub returns : goal.returns
returns c = flow_steps (app_of c.plain_command-plain.result) (app_of c.in_ok-device.device) (app_of c.in_ok-blif.blif) (app_of c.in_ok-fuses.fuses) (app_of c.in_ok-report.report) (app_of c.in_ok-k.k) (app_of c.in_ok-budget.budget) (app_of c.in_ok-seed.seed) (app_of c.in_ok-jobs.jobs) (app_of c.in_ok-whole.whole)
    c.plain_command-plain.ensures c.in_ok-device.ensures c.in_ok-blif.ensures c.in_ok-fuses.ensures c.in_ok-report.ensures c.in_ok-k.ensures c.in_ok-budget.ensures c.in_ok-seed.ensures c.in_ok-jobs.ensures c.in_ok-whole.ensures
