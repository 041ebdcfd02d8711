use Rattle.std.proofs.Common.{inl, inr}
use Rattle.std.proofs.lemmas.Result.{err_from_is_err_and}
use Rattle.act1_frame.proofs.Stages.{found_before, stops_before, on_stop}
use Rattle.act1_top.specs.CheckCommand.{report_file, CheckMayEnd, ReportAccepted, ReportRefused}
use Rattle.act1_top.proofs.check_command.check_ending.Goals as goal

pub returns-in_err-report_under-clause-err : goal.returns-in_err-report_under-clause-err
returns-in_err-report_under-clause-err g c =
    let before = g.F.Files.seen c.args.files.now in
    let first = g.F.Files.seen c.device_under.new.files in
    let after = g.F.Files.seen c.report_under.new.files in
    let p = err_from_is_err_and c.from_residual-in_err-report_under.result c.from_residual-in_err-report_under.ensures.1 in
    rw (p.1, p.2)
    (on_stop _ (CheckMayEnd c.args.words.now before after)
    (λ e h. inr (c.in_ok-device.device, c.in_ok-device.ensures.ok, inl (stops_before before first after c.device_under.ensures.files (report_file c.args.words.now.report) (ReportRefused c.in_ok-device.device) e h)))
    c.in_err-report_under.field-0.0 c.in_err-report_under.ensures.err)

pub returns-clause-ok : goal.returns-clause-ok
returns-clause-ok g c =
    let before = g.F.Files.seen c.args.files.now in
    let first = g.F.Files.seen c.device_under.new.files in
    let after = g.F.Files.seen c.report_under.new.files in
    inr (
      c.in_ok-device.device,
      c.in_ok-device.ensures.ok,
      inr (
        c.in_ok-report_under.field-0,
        found_before before first after c.device_under.ensures.files (report_file c.args.words.now.report) (ReportAccepted c.in_ok-device.device) c.in_ok-report_under.field-0 c.in_ok-report_under.ensures.ok,
        c.in_ok-accepted_ending.ensures,
      ),
    )
