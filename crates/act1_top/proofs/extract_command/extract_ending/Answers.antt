use Rattle.std.proofs.Common.{inl, inr}
use Rattle.std.proofs.lemmas.Result.{err_from_is_err_and}
use Rattle.act1_fuses.specs.Reads.{IsTextOf}
use Rattle.act1_frame.proofs.Stages.{only_on, found_before, stops_before, on_stop, on_ok, on_err}
use Rattle.act1_top.specs.Files.{file_of, FusesRefused}
use Rattle.act1_top.specs.ExtractCommand.{ExtractEnds, ExtractMayEnd}
use Rattle.act1_top.proofs.extract_command.extract_ending.Goals as goal

pub returns-in_err-file-clause-err : goal.returns-in_err-file-clause-err
returns-in_err-file-clause-err g c =
    let before = g.F.Files.seen c.args.files.now in
    let first = g.F.Files.seen c.device_under.new.files in
    let after = g.F.Files.seen c.fuses_under.new.files in
    let p = err_from_is_err_and c.from_residual-in_err-file.result c.from_residual-in_err-file.ensures.1 in
    rw (p.1, p.2)
    (on_stop _ (ExtractMayEnd c.args.words.now before after)
    (λ e h. inr (c.in_ok-device.device, c.in_ok-device.ensures.ok, inl (stops_before before first after c.device_under.ensures.files (file_of c.args.words.now.fuses) (FusesRefused c.in_ok-device.device) e h)))
    c.in_err-file.field-0.0 c.in_err-file.ensures.err)

pub returns-clause-ok : goal.returns-clause-ok
returns-clause-ok g c =
    let before = g.F.Files.seen c.args.files.now in
    let first = g.F.Files.seen c.device_under.new.files in
    let after = g.F.Files.seen c.fuses_under.new.files in
    on_ok (ExtractEnds c.args.words.now.blif c.in_ok-device.device c.in_ok-file.file) (ExtractMayEnd c.args.words.now before after)
    (λ e h. inr (
      c.in_ok-device.device,
      c.in_ok-device.ensures.ok,
      inr (
        c.in_ok-file.file,
        found_before before first after c.device_under.ensures.files (file_of c.args.words.now.fuses) (IsTextOf c.in_ok-device.device) c.in_ok-file.file c.in_ok-file.ensures.ok,
        h,
      ),
    ))
    c.extract_ends.result c.extract_ends.ensures.ok

pub returns-clause-err : goal.returns-clause-err
returns-clause-err g c =
    let before = g.F.Files.seen c.args.files.now in
    let first = g.F.Files.seen c.device_under.new.files in
    let after = g.F.Files.seen c.fuses_under.new.files in
    on_err (ExtractEnds c.args.words.now.blif c.in_ok-device.device c.in_ok-file.file) (ExtractMayEnd c.args.words.now before after)
    (λ e h. inr (
      c.in_ok-device.device,
      c.in_ok-device.ensures.ok,
      inr (
        c.in_ok-file.file,
        found_before before first after c.device_under.ensures.files (file_of c.args.words.now.fuses) (IsTextOf c.in_ok-device.device) c.in_ok-file.file c.in_ok-file.ensures.ok,
        h,
      ),
    ))
    c.extract_ends.result c.extract_ends.ensures.err
