-- What the command `sim` owes, and what its status 0 says.
use Rattle.std.proofs.Common.{ℕ, ◌≡◌, ◌≢◌, ◌≤◌, Bool, List, [], ◌∷◌, inl, inr, refl, sym, ap, subst, ◌∙◌, arith}
use Rattle.act1_outside.specs.Outside.{Shelf}
use Rattle.act1_device.specs.declared.device.Device.{Device}
use Rattle.act1_devread.specs.Text.{DeviceText}
use Rattle.act1_fuses.specs.declared.fuses.FuseFile.{FuseFile}
use Rattle.act1_fuses.specs.Reads.{IsTextOf}
use Rattle.act1_fuses.specs.Rules.{KeepsRules}
use Rattle.act1_sim.specs.declared.fault.SimFault.{SimFault}
use Rattle.act1_sim.specs.declared.fault.SimFault.TheVariants as fault
use Rattle.act1_sim.specs.Simulation.{Simulates}
use Rattle.act1_frame.specs.declared.ending.Ending.{Ending}
use Rattle.act1_frame.specs.Leaving.{Leaves, PrintsAll}
use Rattle.act1_frame.specs.Reading.{Found, AreBytes}
use Rattle.act1_frame.specs.Stages.{Reads, NeverRefused}
use Rattle.act1_frame.specs.World.{World}
use Rattle.act1_frame.proofs.Fine.{IsFine, IsOfContent, content, done_content, text_fine, reads_fine, status_of_text, went_on}
use Rattle.act1_frame.proofs.One.{bytes_exact, one_of}
use Rattle.act1_frame.proofs.Runs.{IsLawful, done_said, text_printed}
use Rattle.act1_frame.proofs.Stages.{reads_after}
use Rattle.act1_words.specs.declared.command.SimWords.{SimWords}
use Rattle.act1_top.specs.Files.{file_of, DeviceRefused, FusesRefused}
use Rattle.act1_top.specs.Laws.{TextsAreOne}
use Rattle.act1_top.specs.SimCommand.{sim_reads, sim_status, sim_refusal, SimEnds, SimMayEnd, SimIsDone}
use Rattle.act1_top.proofs.Places.{first_of, second_of, third_of}
use Rattle.act1_top.proofs.TextsRead.{device_exact, fuses_exact, device_fine, fuses_fine, device_apart, fuses_apart}

-- the stages behind the antifuse file, and behind the device file
abbrev Vectors : SimWords → Shelf → Shelf → Device → FuseFile → Ending → Type 0
Vectors words before after dev file = Reads AreBytes NeverRefused before after (file_of words.vectors) (SimEnds words.fill dev file)

abbrev Rest : SimWords → Shelf → Shelf → Device → Ending → Type 0
Rest words before after dev = Reads (IsTextOf dev) (FusesRefused dev) before after (file_of words.fuses) (Vectors words before after dev)

-- it writes no file
abbrev no_writes : ℕ → List (List ℕ)
no_writes status = []

content_of : (why : SimFault) → why ≢ fault.Memory → IsOfContent (sim_status why)
content_of (fault.Array a) other = content 13 (omega arith) (λ n. absurd (omega (arith, n)))
content_of (fault.Vector line) other = content 7 (omega arith) (λ n. absurd (omega (arith, n)))
content_of (fault.Unsettled cycle spot) other = content 14 (omega arith) (λ n. absurd (omega (arith, n)))
content_of fault.Memory other = absurd (other refl)

not_zero : (why : SimFault) → sim_status why ≢ 0
not_zero (fault.Array a) e = absurd (omega (arith, e))
not_zero (fault.Vector line) e = absurd (omega (arith, e))
not_zero (fault.Unsettled cycle spot) e = absurd (omega (arith, e))
not_zero fault.Memory e = absurd (omega (arith, e))

module _ (Usage : Type 0) (words : SimWords) (before after : Shelf) where
  ends_fine : (dev : Device) (file : FuseFile) (bytes : List ℕ) (e : Ending) → SimEnds words.fill dev file bytes e → IsFine Usage (sim_reads words) no_writes before after e
  ends_fine dev file bytes e (inl (text, h, is)) = text_fine Usage (sim_reads words) no_writes before after 0 text e done_content is
  ends_fine dev file bytes e (inr (why, other, h, is)) = text_fine Usage (sim_reads words) no_writes before after (sim_status why) (sim_refusal why).text e (content_of why other) is

  fine : (e : Ending) → SimMayEnd words before after e → IsFine Usage (sim_reads words) no_writes before after e
  fine =
      reads_fine Usage (sim_reads words) no_writes before after DeviceText DeviceRefused (file_of words.device) (Rest words before after)
      (first_of (file_of words.device) (file_of words.fuses ∷ file_of words.vectors ∷ [])) (device_fine Usage (sim_reads words) no_writes before after) (λ dev.
      reads_fine Usage (sim_reads words) no_writes before after (IsTextOf dev) (FusesRefused dev) (file_of words.fuses) (Vectors words before after dev)
      (second_of (file_of words.device) (file_of words.fuses) (file_of words.vectors ∷ [])) (fuses_fine Usage (sim_reads words) no_writes before after dev) (λ file.
      reads_fine Usage (sim_reads words) no_writes before after AreBytes NeverRefused (file_of words.vectors) (SimEnds words.fill dev file)
      (third_of (file_of words.device) (file_of words.fuses) (file_of words.vectors) []) (λ bytes e h. absurd h) (ends_fine dev file)))

same_status : TextsAreOne → (fill : Bool) (dev : Device) (file : FuseFile) → KeepsRules dev file → (bytes : List ℕ) (e p : Ending) → SimEnds fill dev file bytes e → SimEnds fill dev file bytes p → e.status ≡ p.status
same_status laws fill dev file keeps bytes e p (inl (text, h, is)) (inl (other, k, are)) = status_of_text 0 text e is ∙ sym (status_of_text 0 other p are)
same_status laws fill dev file keeps bytes e p (inl (text, h, is)) (inr (why, other, k, are)) = absurd (laws.sim_never dev file bytes fill keeps text why other h k)
same_status laws fill dev file keeps bytes e p (inr (why, other, k, are)) (inl (text, h, is)) = absurd (laws.sim_never dev file bytes fill keeps text why other h k)
same_status laws fill dev file keeps bytes e p (inr (why, other, h, is)) (inr (next, apart, k, are)) =
    status_of_text (sim_status why) (sim_refusal why).text e is
    ∙ ap sim_status (laws.one_refusal dev file bytes fill keeps why next other apart h k)
    ∙ sym (status_of_text (sim_status next) (sim_refusal next).text p are)

pub sim_lawful : TextsAreOne → (Usage : Type 0) (words : SimWords) → IsLawful Usage (sim_reads words) [] no_writes (λ e. ⊥) (SimMayEnd words)
sim_lawful laws Usage words = record {
  fine = λ before after e h. fine Usage words before after e h;
  later = λ before mid after same.
      reads_after before mid after same DeviceText DeviceRefused (file_of words.device) (Rest words before mid) (Rest words before after) (λ dev.
      reads_after before mid after same (IsTextOf dev) (FusesRefused dev) (file_of words.fuses) (Vectors words before mid dev) (Vectors words before after dev) (λ file.
      reads_after before mid after same AreBytes NeverRefused (file_of words.vectors) (SimEnds words.fill dev file) (SimEnds words.fill dev file) (λ bytes e k. k)));
  one = λ before after told no_fault e p h k. inl (
      one_of before after told (file_of words.device) (λ f. no_fault (file_of words.device, first_of (file_of words.device) (file_of words.fuses ∷ file_of words.vectors ∷ []), f)) DeviceText DeviceRefused (device_exact laws) (Rest words before after) (λ dev d.
      one_of before after told (file_of words.fuses) (λ f. no_fault (file_of words.fuses, second_of (file_of words.device) (file_of words.fuses) (file_of words.vectors ∷ []), f)) (IsTextOf dev) (FusesRefused dev) (fuses_exact laws dev) (Vectors words before after dev) (λ file g.
      one_of before after told (file_of words.vectors) (λ f. no_fault (file_of words.vectors, third_of (file_of words.device) (file_of words.fuses) (file_of words.vectors) [], f)) AreBytes NeverRefused bytes_exact (SimEnds words.fill dev file) (λ bytes v.
      same_status laws words.fill dev file g.text.0 bytes))) e p h k);
  named = λ status name h. h;
}

-- what was found where the command didn't stop at a file
record IsBehind (words : SimWords) (before after : Shelf) (e : Ending) : Type 0 where
  dev : Device
  file : FuseFile
  bytes : List ℕ
  device : Found DeviceText before (file_of words.device) dev
  fuses : Found (IsTextOf dev) before (file_of words.fuses) file
  vectors : Found AreBytes before (file_of words.vectors) bytes
  ends : SimEnds words.fill dev file bytes e

behind : (words : SimWords) (before after : Shelf) (status : ℕ) → status ≢ 2 → status ≢ 16 → status ≢ 5 → status ≢ 6 → (e : Ending) → SimMayEnd words before after e → e.status ≡ status → IsBehind words before after e
behind words before after status two sixteen five six e may is =
    let d = went_on DeviceText DeviceRefused before after (file_of words.device) (Rest words before after) status two sixteen (device_apart status five) e may is in
    let f = went_on (IsTextOf d.0) (FusesRefused d.0) before after (file_of words.fuses) (Vectors words before after d.0) status two sixteen (fuses_apart status six d.0) e d.2 is in
    let v = went_on AreBytes NeverRefused before after (file_of words.vectors) (SimEnds words.fill d.0 f.0) status two sixteen (λ bytes p h n. h) e f.2 is in
    record { dev = d.0; file = f.0; bytes = v.0; device = d.1; fuses = f.1; vectors = v.1; ends = v.2 }

module _ (words : SimWords) (before : World) (result : ℕ) (after : World) where
  at_end : (dev : Device) (file : FuseFile) (bytes : List ℕ) (e : Ending) → Found DeviceText before.shelf (file_of words.device) dev → Found (IsTextOf dev) before.shelf (file_of words.fuses) file
      → Found AreBytes before.shelf (file_of words.vectors) bytes → SimEnds words.fill dev file bytes e → Leaves e before.shelf before.paper result after.shelf after.paper → e.status ≡ 0 → result ≡ 0 → SimIsDone words before after
  at_end dev file bytes e d f v (inr (why, other, h, is)) leaves zero r = elim (not_zero why (sym (status_of_text (sim_status why) (sim_refusal why).text e is) ∙ zero)) [ ]
  at_end dev file bytes e d f v (inl (text, h, is)) leaves zero r = record {
    device_bytes = d.bytes;
    fuses_bytes = f.bytes;
    vectors_bytes = v.bytes;
    dev = dev;
    file = file;
    text = text;
    device_held = d.read.held;
    device_text = d.text;
    fuses_held = f.read.held;
    fuses_text = f.text.1;
    keeps = f.text.0;
    vectors_held = v.read.held;
    simulates = subst (λ (b : List ℕ). Simulates dev file b words.fill text) v.text h;
    printed = subst (λ (t : List ℕ). PrintsAll t before.paper after.paper) (ap (λ (p : Ending). p.text) is)
        (text_printed 0 done_said e before.shelf before.paper result after.shelf after.paper (ap (λ (p : Ending). p.file) is) leaves r);
  }

  pub sim_done : (e : Ending) → SimMayEnd words before.shelf after.shelf e → Leaves e before.shelf before.paper result after.shelf after.paper → e.status ≡ 0 → result ≡ 0 → SimIsDone words before after
  sim_done e may leaves zero r =
      let s = behind words before.shelf after.shelf 0 (λ n. absurd (omega (arith, n))) (λ n. absurd (omega (arith, n))) (λ n. absurd (omega (arith, n))) (λ n. absurd (omega (arith, n))) e may zero in
      at_end s.dev s.file s.bytes e s.device s.fuses s.vectors s.ends leaves zero r

-- it never has an answer of routes or of a search
pub sim_never : (words : SimWords) (before after : Shelf) (e : Ending) → SimMayEnd words before after e → 9 ≤ e.status → e.status ≤ 11 → ⊥
sim_never words before after e may low high = by s.ends
  where
    s : IsBehind words before after e
    s = behind words before after e.status (λ n. absurd (omega (arith, low, n))) (λ n. absurd (omega (arith, high, n))) (λ n. absurd (omega (arith, low, n))) (λ n. absurd (omega (arith, low, n))) e may refl

    other : (why : SimFault) → 9 ≤ sim_status why → sim_status why ≤ 11 → ⊥
    other (fault.Array a) l h = absurd (omega (arith, h))
    other (fault.Vector line) l h = absurd (omega (arith, l))
    other (fault.Unsettled cycle spot) l h = absurd (omega (arith, h))
    other fault.Memory l h = absurd (omega (arith, h))

    by : SimEnds words.fill s.dev s.file s.bytes e → ⊥
    by (inl (text, h, is)) = let zero = status_of_text 0 text e is in absurd (omega (arith, low, zero))
    by (inr (why, n, h, is)) =
        let same = status_of_text (sim_status why) (sim_refusal why).text e is in
        other why (subst (λ (x : ℕ). 9 ≤ x) same low) (subst (λ (x : ℕ). x ≤ 11) same high)
