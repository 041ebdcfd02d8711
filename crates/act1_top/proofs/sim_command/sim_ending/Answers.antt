use Rattle.std.proofs.Common.{inl, inr, List, ℕ, subst}
use Rattle.std.proofs.lemmas.Result.{err_from_is_err_and}
use Rattle.act1_fuses.specs.Reads.{IsTextOf}
use Rattle.act1_frame.specs.Reading.{AreBytes}
use Rattle.act1_frame.specs.Stages.{NeverRefused}
use Rattle.act1_frame.proofs.Stages.{only_on, found_before, stops_before, on_stop, on_ok, on_err}
use Rattle.act1_top.specs.Files.{file_of, FusesRefused}
use Rattle.act1_top.specs.SimCommand.{SimEnds, SimMayEnd}
use Rattle.act1_top.proofs.sim_command.sim_ending.Goals as goal

pub returns-in_err-file-clause-err : goal.returns-in_err-file-clause-err
returns-in_err-file-clause-err g c =
    let before = g.F.Files.seen c.args.files.now in
    let first = g.F.Files.seen c.device_under.new.files in
    let after = g.F.Files.seen c.fuses_under.new.files in
    let p = err_from_is_err_and c.from_residual-in_err-file.result c.from_residual-in_err-file.ensures.1 in
    rw (p.1, p.2)
    (on_stop _ (SimMayEnd c.args.words.now before after)
    (λ e h. inr (c.in_ok-device.device, c.in_ok-device.ensures.ok, inl (stops_before before first after c.device_under.ensures.files (file_of c.args.words.now.fuses) (FusesRefused c.in_ok-device.device) e h)))
    c.in_err-file.field-0.0 c.in_err-file.ensures.err)

pub returns-in_err-bytes-clause-err : goal.returns-in_err-bytes-clause-err
returns-in_err-bytes-clause-err g c =
    let before = g.F.Files.seen c.args.files.now in
    let first = g.F.Files.seen c.device_under.new.files in
    let second = g.F.Files.seen c.fuses_under.new.files in
    let after = g.F.Files.seen c.bytes_under.new.files in
    let both = only_on before first second c.device_under.ensures.files c.fuses_under.ensures.files in
    let p = err_from_is_err_and c.from_residual-in_err-bytes.result c.from_residual-in_err-bytes.ensures.1 in
    rw (p.1, p.2)
    (on_stop _ (SimMayEnd c.args.words.now before after)
    (λ e h. inr (
      c.in_ok-device.device,
      c.in_ok-device.ensures.ok,
      inr (
        c.in_ok-file.file,
        found_before before first after c.device_under.ensures.files (file_of c.args.words.now.fuses) (IsTextOf c.in_ok-device.device) c.in_ok-file.file c.in_ok-file.ensures.ok,
        inl (stops_before before second after both (file_of c.args.words.now.vectors) NeverRefused e h),
      ),
    ))
    c.in_err-bytes.field-0.0 c.in_err-bytes.ensures.err)

pub returns-clause-ok : goal.returns-clause-ok
returns-clause-ok g c =
    let before = g.F.Files.seen c.args.files.now in
    let first = g.F.Files.seen c.device_under.new.files in
    let second = g.F.Files.seen c.fuses_under.new.files in
    let after = g.F.Files.seen c.bytes_under.new.files in
    let both = only_on before first second c.device_under.ensures.files c.fuses_under.ensures.files in
    on_ok (SimEnds c.args.words.now.fill c.in_ok-device.device c.in_ok-file.file c.deref.result.now) (SimMayEnd c.args.words.now before after)
    (λ e h. inr (
      c.in_ok-device.device,
      c.in_ok-device.ensures.ok,
      inr (
        c.in_ok-file.file,
        found_before before first after c.device_under.ensures.files (file_of c.args.words.now.fuses) (IsTextOf c.in_ok-device.device) c.in_ok-file.file c.in_ok-file.ensures.ok,
        inr (c.in_ok-bytes.bytes.items, found_before before second after both (file_of c.args.words.now.vectors) AreBytes c.in_ok-bytes.bytes.items c.in_ok-bytes.ensures.ok, subst (λ (b : List ℕ). SimEnds c.args.words.now.fill c.in_ok-device.device c.in_ok-file.file b e) c.deref.ensures.value h),
      ),
    ))
    c.sim_ends.result c.sim_ends.ensures.ok

pub returns-clause-err : goal.returns-clause-err
returns-clause-err g c =
    let before = g.F.Files.seen c.args.files.now in
    let first = g.F.Files.seen c.device_under.new.files in
    let second = g.F.Files.seen c.fuses_under.new.files in
    let after = g.F.Files.seen c.bytes_under.new.files in
    let both = only_on before first second c.device_under.ensures.files c.fuses_under.ensures.files in
    on_err (SimEnds c.args.words.now.fill c.in_ok-device.device c.in_ok-file.file c.deref.result.now) (SimMayEnd c.args.words.now before after)
    (λ e h. inr (
      c.in_ok-device.device,
      c.in_ok-device.ensures.ok,
      inr (
        c.in_ok-file.file,
        found_before before first after c.device_under.ensures.files (file_of c.args.words.now.fuses) (IsTextOf c.in_ok-device.device) c.in_ok-file.file c.in_ok-file.ensures.ok,
        inr (c.in_ok-bytes.bytes.items, found_before before second after both (file_of c.args.words.now.vectors) AreBytes c.in_ok-bytes.bytes.items c.in_ok-bytes.ensures.ok, subst (λ (b : List ℕ). SimEnds c.args.words.now.fill c.in_ok-device.device c.in_ok-file.file b e) c.deref.ensures.value h),
      ),
    ))
    c.sim_ends.result c.sim_ends.ensures.err
