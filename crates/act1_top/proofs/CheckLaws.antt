-- What the command `check` owes, and what its status 0 says.
use Rattle.std.proofs.Common.{ℕ, ◌≡◌, ◌≢◌, ◌≤◌, List, [], ◌∷◌, Result, Ok, Err, inl, inr, refl, sym, ap, subst, ◌∙◌, arith}
use Rattle.act1_outside.specs.Outside.{Shelf}
use Rattle.act1_device.specs.declared.device.Device.{Device}
use Rattle.act1_devread.specs.Text.{DeviceText}
use Rattle.act1_report.specs.declared.fault.ReportFault.{ReportFault}
use Rattle.act1_report.specs.declared.fault.ReportFault.TheVariants as fault
use Rattle.act1_report.specs.Checks.{ReportChecks}
use Rattle.act1_frame.specs.declared.ending.Ending.{Ending}
use Rattle.act1_frame.specs.Endings.{printed}
use Rattle.act1_frame.specs.Leaving.{Leaves, PrintsAll}
use Rattle.act1_frame.specs.Reading.{Found}
use Rattle.act1_frame.specs.Stages.{Reads}
use Rattle.act1_frame.specs.World.{World}
use Rattle.act1_frame.proofs.Fine.{IsFine, content, done_content, reads_fine, refused_apart, refused_fine, status_of_text, text_fine, went_on}
use Rattle.act1_frame.proofs.One.{IsExact, one_of, refused_exact}
use Rattle.act1_frame.proofs.Runs.{IsLawful, done_said, text_printed}
use Rattle.act1_frame.proofs.Stages.{reads_after}
use Rattle.act1_words.specs.declared.command.CheckWords.{CheckWords}
use Rattle.act1_top.specs.CheckCommand.{accepted_text, check_reads, report_fault_words, report_file, CheckIsDone, CheckMayEnd, ReportAccepted, ReportRefused}
use Rattle.act1_top.specs.Files.{file_of, DeviceRefused}
use Rattle.act1_top.specs.Laws.{TextsAreOne}
use Rattle.act1_top.proofs.Places.{first_of, second_of}
use Rattle.act1_top.proofs.TextsRead.{device_apart, device_exact, device_fine}

-- a report that is accepted ends so, and the stage behind the device file
abbrev Ends : Unit {0} → Ending → Type 0
Ends found e = e ≡ printed accepted_text

abbrev Rest : CheckWords → Shelf → Shelf → Device → Ending → Type 0
Rest words before after dev = Reads (ReportAccepted dev) (ReportRefused dev) before after (report_file words.report) Ends

-- it writes no file
abbrev no_writes : ℕ → List (List ℕ)
no_writes status = []

abbrev Has : Device → List ℕ → ReportFault → Type 0
Has dev bytes why = (why ≢ fault.Memory) × ReportChecks dev bytes (Err why)

-- a report is never both accepted and refused
never : TextsAreOne → (dev : Device) (bytes : List ℕ) (found : Unit {0}) (why : ReportFault) → ReportAccepted dev bytes found → Has dev bytes why → ⊥
never laws dev bytes found why h (other, k) =
    let one : Result (Unit {0}) ReportFault = Ok found in
    let two : Result (Unit {0}) ReportFault = Err why in
    let same : one ≡ two = laws.one_report_answer dev bytes one two (λ n. cc) (λ n. other (cc)) h k in
    cc

report_exact : TextsAreOne → (dev : Device) → IsExact (ReportAccepted dev) (ReportRefused dev)
report_exact laws dev = refused_exact (ReportAccepted dev) 12 report_fault_words (Has dev) (never laws dev) (λ bytes found other h k. refl)

-- what is refused has the status of its refusal
report_apart : (status : ℕ) → status ≢ 12 → (dev : Device) (bytes : List ℕ) (e : Ending) → ReportRefused dev bytes e → e.status ≢ status
report_apart status other dev bytes e h = refused_apart 12 status report_fault_words (Has dev bytes) e (λ n. other (sym n)) h

module _ (Usage : Type 0) (words : CheckWords) (before after : Shelf) where
  report_fine : (dev : Device) (bytes : List ℕ) (e : Ending) → ReportRefused dev bytes e → IsFine Usage (check_reads words) no_writes before after e
  report_fine dev bytes e h = refused_fine Usage (check_reads words) no_writes before after 12 report_fault_words (Has dev bytes) e (content 12 (omega arith) (λ n. absurd (omega (arith, n)))) h

  fine : (e : Ending) → CheckMayEnd words before after e → IsFine Usage (check_reads words) no_writes before after e
  fine =
      reads_fine Usage (check_reads words) no_writes before after DeviceText DeviceRefused (file_of words.device) (Rest words before after)
      (first_of (file_of words.device) (report_file words.report ∷ [])) (device_fine Usage (check_reads words) no_writes before after) (λ dev.
      reads_fine Usage (check_reads words) no_writes before after (ReportAccepted dev) (ReportRefused dev) (report_file words.report) Ends
      (second_of (file_of words.device) (report_file words.report) []) (report_fine dev)
      (λ found e h. text_fine Usage (check_reads words) no_writes before after 0 accepted_text e done_content h))

pub check_lawful : TextsAreOne → (Usage : Type 0) (words : CheckWords) → IsLawful Usage (check_reads words) [] no_writes (λ e. ⊥) (CheckMayEnd words)
check_lawful laws Usage words = record {
  fine = λ before after e h. fine Usage words before after e h;
  later = λ before mid after same.
      reads_after before mid after same DeviceText DeviceRefused (file_of words.device) (Rest words before mid) (Rest words before after) (λ dev.
      reads_after before mid after same (ReportAccepted dev) (ReportRefused dev) (report_file words.report) Ends Ends (λ found e k. k));
  one = λ before after told no_fault e p h k. inl (
      one_of before after told (file_of words.device) (λ f. no_fault (file_of words.device, first_of (file_of words.device) (report_file words.report ∷ []), f)) DeviceText DeviceRefused (device_exact laws) (Rest words before after) (λ dev d.
      one_of before after told (report_file words.report) (λ f. no_fault (report_file words.report, second_of (file_of words.device) (report_file words.report) [], f)) (ReportAccepted dev) (ReportRefused dev) (report_exact laws dev) Ends (λ found r a b x y.
      status_of_text 0 accepted_text a x ∙ sym (status_of_text 0 accepted_text b y))) e p h k);
  named = λ status name h. h;
}

-- what was found where the command didn't stop at a file
record IsBehind (words : CheckWords) (before : Shelf) (e : Ending) : Type 0 where
  dev : Device
  device : Found DeviceText before (file_of words.device) dev
  report : Found (ReportAccepted dev) before (report_file words.report) tt
  ends : e ≡ printed accepted_text

behind : (words : CheckWords) (before after : Shelf) (status : ℕ) → status ≢ 2 → status ≢ 16 → status ≢ 5 → status ≢ 12 → (e : Ending) → CheckMayEnd words before after e → e.status ≡ status → IsBehind words before e
behind words before after status two sixteen five twelve e may is =
    let d = went_on DeviceText DeviceRefused before after (file_of words.device) (Rest words before after) status two sixteen (device_apart status five) e may is in
    let r = went_on (ReportAccepted d.0) (ReportRefused d.0) before after (report_file words.report) Ends status two sixteen (report_apart status twelve d.0) e d.2 is in
    record { dev = d.0; device = d.1; report = r.1; ends = r.2 }

pub check_done : TextsAreOne → (words : CheckWords) (before : World) (result : ℕ) (after : World) (e : Ending) → CheckMayEnd words before.shelf after.shelf e → Leaves e before.shelf before.paper result after.shelf after.paper → e.status ≡ 0 → result ≡ 0
    → CheckIsDone words before after
check_done laws words before result after e may leaves zero r =
    let s = behind words before.shelf after.shelf 0 (λ n. absurd (omega (arith, n))) (λ n. absurd (omega (arith, n))) (λ n. absurd (omega (arith, n))) (λ n. absurd (omega (arith, n))) e may zero in
    let is_text = s.report.text.1 in
    let set = s.report.text.2 in
    record {
      device_bytes = s.device.bytes;
      report_bytes = s.report.bytes;
      dev = s.dev;
      report = s.report.text.0;
      problem = set.0;
      device_held = s.device.read.held;
      device_text = s.device.text;
      report_held = s.report.read.held;
      report_text = is_text;
      sets = set.1;
      accepted = set.2;
      none = laws.logs_refute set.0 s.report.text.0.log.steps set.2;
      printed = subst (λ (t : List ℕ). PrintsAll t before.paper after.paper) (ap (λ (p : Ending). p.text) s.ends)
          (text_printed 0 done_said e before.shelf before.paper result after.shelf after.paper (ap (λ (p : Ending). p.file) s.ends) leaves r);
    }

-- it never has an answer of routes or of a search
pub check_never : (words : CheckWords) (before after : Shelf) (e : Ending) → CheckMayEnd words before after e → 9 ≤ e.status → e.status ≤ 11 → ⊥
check_never words before after e may low high =
    let s = behind words before after e.status (λ n. absurd (omega (arith, low, n))) (λ n. absurd (omega (arith, high, n))) (λ n. absurd (omega (arith, low, n))) (λ n. absurd (omega (arith, high, n))) e may refl in
    let zero = status_of_text 0 accepted_text e s.ends in
    absurd (omega (arith, low, zero))
