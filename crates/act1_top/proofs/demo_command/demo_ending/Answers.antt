use Rattle.std.proofs.Common.{inr}
use Rattle.act1_frame.proofs.Stages.{on_ok, on_err}
use Rattle.act1_top.specs.DemoCommand.{DemoMayEnd, DemoNetEnds}
use Rattle.act1_top.proofs.demo_command.demo_ending.Goals as goal

pub returns-clause-ok : goal.returns-clause-ok
returns-clause-ok g c =
    let before = g.F.Files.seen c.args.files.now in
    let after = g.F.Files.seen c.device_under.new.files in
    on_ok (DemoNetEnds c.args.words.now c.in_ok-device.device) (DemoMayEnd c.args.words.now before after) (λ e h. inr (c.in_ok-device.device, c.in_ok-device.ensures.ok, h)) c.demo_ends.result c.demo_ends.ensures.ok

pub returns-clause-err : goal.returns-clause-err
returns-clause-err g c =
    let before = g.F.Files.seen c.args.files.now in
    let after = g.F.Files.seen c.device_under.new.files in
    on_err (DemoNetEnds c.args.words.now c.in_ok-device.device) (DemoMayEnd c.args.words.now before after) (λ e h. inr (c.in_ok-device.device, c.in_ok-device.ensures.ok, h)) c.demo_ends.result c.demo_ends.ensures.err
