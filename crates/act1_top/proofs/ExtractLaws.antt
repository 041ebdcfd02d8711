-- What the command `extract` owes, and what its status 0 says.
use Rattle.std.proofs.Common.{ℕ, zero, suc, get_or, ◌≡◌, ◌≢◌, ◌≤◌, ◌<◌, ◌==◌, Bool, true, false, cond, List, [], ◌∷◌, length, Some, Contains, inl, inr, refl, sym, ap, subst, ◌∙◌, arith}
use Rattle.act1_outside.specs.Outside.{Shelf}
use Rattle.act1_base.proofs.ListGets.{some_is}
use Rattle.act1_blif.specs.declared.blif.Blif.{Blif}
use Rattle.act1_blif.specs.Text.{blif_text}
use Rattle.act1_device.specs.declared.device.Device.{Device}
use Rattle.act1_devread.specs.Text.{DeviceText}
use Rattle.act1_fuses.specs.declared.fuses.FuseFile.{FuseFile}
use Rattle.act1_fuses.specs.Reads.{IsTextOf}
use Rattle.act1_fuses.specs.Rules.{KeepsRules}
use Rattle.act1_frame.specs.declared.ending.Ending.{Ending}
use Rattle.act1_frame.specs.declared.ending.FileText.{FileText}
use Rattle.act1_frame.specs.Leaving.{Leaves, PrintsAll}
use Rattle.act1_frame.specs.Reading.{Found}
use Rattle.act1_frame.specs.Stages.{Reads}
use Rattle.act1_frame.specs.World.{World}
use Rattle.act1_frame.proofs.Fine.{IsFine, content, done_content, text_fine, reads_fine, status_of_text, went_on}
use Rattle.act1_frame.proofs.One.{one_of}
use Rattle.act1_frame.proofs.Runs.{IsLawful, done_said, file_written}
use Rattle.act1_frame.proofs.Stages.{reads_after}
use Rattle.act1_words.specs.declared.command.ExtractWords.{ExtractWords}
use Rattle.act1_top.specs.Files.{file_of, DeviceRefused, FusesRefused}
use Rattle.act1_top.specs.Laws.{TextsAreOne}
use Rattle.act1_top.specs.ExtractCommand.{extract_reads, extract_refusal, extract_writes, extract_writes_at, extracted_ending, extracted_text, ExtractEnds, ExtractIsDone, ExtractMayEnd}
use Rattle.act1_top.proofs.Places.{first_of, second_of}
use Rattle.act1_top.proofs.TextsRead.{device_exact, fuses_exact, device_fine, fuses_fine, device_apart, fuses_apart}

-- the stages behind the device file
abbrev Rest : ExtractWords → Shelf → Shelf → Device → Ending → Type 0
Rest words before after dev = Reads (IsTextOf dev) (FusesRefused dev) before after (file_of words.fuses) (ExtractEnds words.blif dev)

-- the status of an ending
status_of : (e p : Ending) → e ≡ p → e.status ≡ p.status
status_of e p h = ap (λ (x : Ending). x.status) h

module _ (Usage : Type 0) (words : ExtractWords) (before after : Shelf) where
  abbrev Fine : Ending → Type 0
  Fine = IsFine Usage (extract_reads words) (extract_writes_at words) before after

  extracted_fine : (net : Blif) → Fine (extracted_ending words.blif net)
  extracted_fine net = record {
    words = λ n. absurd (omega (arith, n));
    three = λ n. absurd (omega (arith, n));
    read = λ n. absurd (omega (arith, n));
    long = λ n. absurd (omega (arith, n));
    file = λ f h. subst (λ (g : FileText). Contains (words.blif ∷ []) g.name) (some_is (record { name = words.blif; bytes = blif_text net }) f h) (first_of words.blif []);
  }

  ends_fine : (dev : Device) (file : FuseFile) (e : Ending) → ExtractEnds words.blif dev file e → Fine e
  ends_fine dev file e (inl (net, h, is)) = subst Fine (sym is) (extracted_fine net)
  ends_fine dev file e (inr (why, other, h, is)) = text_fine Usage (extract_reads words) (extract_writes_at words) before after 13 (extract_refusal why).text e (content 13 (omega arith) (λ n. absurd (omega (arith, n)))) is

  fine : (e : Ending) → ExtractMayEnd words before after e → Fine e
  fine =
      reads_fine Usage (extract_reads words) (extract_writes_at words) before after DeviceText DeviceRefused (file_of words.device) (Rest words before after) (first_of (file_of words.device) (file_of words.fuses ∷ []))
      (device_fine Usage (extract_reads words) (extract_writes_at words) before after) (λ dev.
      reads_fine Usage (extract_reads words) (extract_writes_at words) before after (IsTextOf dev) (FusesRefused dev) (file_of words.fuses) (ExtractEnds words.blif dev) (second_of (file_of words.device) (file_of words.fuses) [])
      (fuses_fine Usage (extract_reads words) (extract_writes_at words) before after dev) (ends_fine dev))

same_status : TextsAreOne → (name : List ℕ) (dev : Device) (file : FuseFile) → KeepsRules dev file → (e p : Ending) → ExtractEnds name dev file e → ExtractEnds name dev file p → e.status ≡ p.status
same_status laws name dev file keeps e p (inl (net, h, is)) (inl (other, k, are)) = status_of e (extracted_ending name net) is ∙ sym (status_of p (extracted_ending name other) are)
same_status laws name dev file keeps e p (inl (net, h, is)) (inr (why, other, k, are)) = absurd (laws.extract_never dev file keeps net why other h k)
same_status laws name dev file keeps e p (inr (why, other, k, are)) (inl (net, h, is)) = absurd (laws.extract_never dev file keeps net why other h k)
same_status laws name dev file keeps e p (inr (why, other, h, is)) (inr (next, apart, k, are)) = status_of_text 13 (extract_refusal why).text e is ∙ sym (status_of_text 13 (extract_refusal next).text p are)

pub extract_lawful : TextsAreOne → (Usage : Type 0) (words : ExtractWords) → IsLawful Usage (extract_reads words) (extract_writes words) (extract_writes_at words) (λ e. ⊥) (ExtractMayEnd words)
extract_lawful laws Usage words = record {
  fine = λ before after e h. fine Usage words before after e h;
  later = λ before mid after same.
      reads_after before mid after same DeviceText DeviceRefused (file_of words.device) (Rest words before mid) (Rest words before after) (λ dev.
      reads_after before mid after same (IsTextOf dev) (FusesRefused dev) (file_of words.fuses) (ExtractEnds words.blif dev) (ExtractEnds words.blif dev) (λ file e k. k));
  one = λ before after told no_fault e p h k. inl (
      one_of before after told (file_of words.device) (λ f. no_fault (file_of words.device, first_of (file_of words.device) (file_of words.fuses ∷ []), f)) DeviceText DeviceRefused (device_exact laws) (Rest words before after) (λ dev d.
      one_of before after told (file_of words.fuses) (λ f. no_fault (file_of words.fuses, second_of (file_of words.device) (file_of words.fuses) [], f)) (IsTextOf dev) (FusesRefused dev) (fuses_exact laws dev) (ExtractEnds words.blif dev) (λ file g.
      same_status laws words.blif dev file g.text.0)) e p h k);
  named = λ status name h. named_by (status == 0) name h;
}
  where
    named_by : (done : Bool) (name : List ℕ) → Contains (cond done (words.blif ∷ []) []) name → Contains (extract_writes words) name
    named_by true name h = h
    named_by false name h = absurd (omega (arith, h.1))

-- what was found where the command didn't stop at a file
record IsBehind (words : ExtractWords) (before after : Shelf) (e : Ending) : Type 0 where
  dev : Device
  file : FuseFile
  device : Found DeviceText before (file_of words.device) dev
  fuses : Found (IsTextOf dev) before (file_of words.fuses) file
  ends : ExtractEnds words.blif dev file e

behind : (words : ExtractWords) (before after : Shelf) (status : ℕ) → status ≢ 2 → status ≢ 16 → status ≢ 5 → status ≢ 6 → (e : Ending) → ExtractMayEnd words before after e → e.status ≡ status → IsBehind words before after e
behind words before after status two sixteen five six e may is =
    let d = went_on DeviceText DeviceRefused before after (file_of words.device) (Rest words before after) status two sixteen (device_apart status five) e may is in
    let f = went_on (IsTextOf d.0) (FusesRefused d.0) before after (file_of words.fuses) (ExtractEnds words.blif d.0) status two sixteen (fuses_apart status six d.0) e d.2 is in
    record { dev = d.0; file = f.0; device = d.1; fuses = f.1; ends = f.2 }

module _ (words : ExtractWords) (before : World) (result : ℕ) (after : World) (e : Ending) where
  done_by : (s : IsBehind words before.shelf after.shelf e) → ExtractEnds words.blif s.dev s.file e → Leaves e before.shelf before.paper result after.shelf after.paper → e.status ≡ 0 → result ≡ 0 → ExtractIsDone words before after
  done_by s (inr (why, other, h, is)) leaves nought r = let thirteen = status_of_text 13 (extract_refusal why).text e is in absurd (omega (arith, nought, thirteen))
  done_by s (inl (net, h, is)) leaves nought r =
      let w = file_written 0 done_said e (record { name = words.blif; bytes = blif_text net }) before.shelf before.paper result after.shelf after.paper (ap (λ (p : Ending). p.file) is) leaves r in
      record {
        device_bytes = s.device.bytes;
        fuses_bytes = s.fuses.bytes;
        dev = s.dev;
        file = s.file;
        net = net;
        device_held = s.device.read.held;
        device_text = s.device.text;
        fuses_held = s.fuses.read.held;
        fuses_text = s.fuses.text.1;
        keeps = s.fuses.text.0;
        extracted = h;
        written = w.holds;
        printed = subst (λ (t : List ℕ). PrintsAll t before.paper after.paper) (ap (λ (p : Ending). p.text) is) w.printed;
      }

  pub extract_done : ExtractMayEnd words before.shelf after.shelf e → Leaves e before.shelf before.paper result after.shelf after.paper → e.status ≡ 0 → result ≡ 0 → ExtractIsDone words before after
  extract_done may leaves nought r =
      let s = behind words before.shelf after.shelf 0 (λ n. absurd (omega (arith, n))) (λ n. absurd (omega (arith, n))) (λ n. absurd (omega (arith, n))) (λ n. absurd (omega (arith, n))) e may nought in
      done_by s s.ends leaves nought r

-- it never has an answer of routes or of a search
pub extract_never : (words : ExtractWords) (before after : Shelf) (e : Ending) → ExtractMayEnd words before after e → 9 ≤ e.status → e.status ≤ 11 → ⊥
extract_never words before after e may low high = by s.ends
  where
    s : IsBehind words before after e
    s = behind words before after e.status (λ n. absurd (omega (arith, low, n))) (λ n. absurd (omega (arith, high, n))) (λ n. absurd (omega (arith, low, n))) (λ n. absurd (omega (arith, low, n))) e may refl

    by : ExtractEnds words.blif s.dev s.file e → ⊥
    by (inl (net, h, is)) = let nought = status_of e (extracted_ending words.blif net) is in absurd (omega (arith, low, nought))
    by (inr (why, n, h, is)) = let thirteen = status_of_text 13 (extract_refusal why).text e is in absurd (omega (arith, high, thirteen))
