use Rattle.std.proofs.Common.{inl, inr}
use Rattle.act1_top.specs.DemoCommand.{demo_settings, no_helping}
use Rattle.act1_top.proofs.FlowAnswers.{cause_is}
use Rattle.act1_top.proofs.demo_command.counter_ends.Goals as goal

pub returns-in_ok-routed_ending-in-Ok : goal.returns-in_ok-routed_ending-in-Ok
returns-in_ok-routed_ending-in-Ok c =
    let routed = c.in-Ok.routed in
    let is = c.in-Ok.ensures in
    inr (is.pads, routed.fuses, routed.«modules», c.in_ok-lines-in-Ok.lines.items, is.realizes, c.in_ok-lines-in-Ok.ensures, c.in_ok-routed_ending-in-Ok.ensures)

pub returns-in_ok-stopped_ending-in-Err : goal.returns-in_ok-stopped_ending-in-Err
returns-in_ok-stopped_ending-in-Err c =
    let why = c.in-Err.stop in
    let cause = cause_is c.args.device.now c.args.net.now demo_settings no_helping why c.in_ok-stopped_ending-in-Err.ensures.cause c.in-Err.ensures in
    inl (why, cause, c.in_ok-stopped_ending-in-Err.ensures.is)
