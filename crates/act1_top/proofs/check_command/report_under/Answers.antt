use Rattle.std.proofs.Common.{List, ℕ, Result, Ok, Err, IfOk, subst}
use Rattle.act1_outside.specs.Outside.{Shelf}
use Rattle.act1_frame.specs.Reading.{Found, WasRead, Wanted}
use Rattle.act1_top.specs.CheckCommand.{report_file, ReportAccepted}
use Rattle.act1_top.proofs.check_command.report_under.Goals as goal

-- what was read is found where it is a text
found_of : {X E : Type 0} (IsText : List ℕ → X → Type 0) (before : Shelf) (wanted : Wanted) (bytes : List ℕ) → WasRead before wanted bytes → (r : Result X E) → IfOk r (IsText bytes) → IfOk r (Found IsText before wanted)
found_of IsText before wanted bytes read (Ok x) h = record { bytes = bytes; read = read; text = h }
found_of IsText before wanted bytes read (Err e) h = tt

pub returns-in-Ok-clause-ok : goal.returns-in-Ok-clause-ok
returns-in-Ok-clause-ok g c =
    found_of (ReportAccepted c.args.device.now) (g.F.Files.seen c.args.files.now) (report_file c.args.name.now) c.in-Ok.bytes.items c.in-Ok.ensures.ok c.report_of.result
    (subst (λ (b : List ℕ). IfOk c.report_of.result (ReportAccepted c.args.device.now b)) c.deref.ensures.value c.report_of.ensures.ok)
