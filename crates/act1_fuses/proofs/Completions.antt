-- Lines of an antifuse file that are taken can be completed to a text: by those of the header, `device` and `end` that are missing.
use Rattle.std.proofs.Common.{ℕ, ◌≡◌, ◌≢◌, ◌≤◌, ◌⊎◌, ◌==◌, Bool, true, false, cond, IsTrue, List, [], ◌∷◌, Option, Some, None, Result, Ok, Err, codes, refl, ap, subst, ◌∙◌, inl, inr, arith}
use Rattle.std.specs.Prelude.{IsOk}
use Rattle.std.specs.Str.{bytes_eq}
use Rattle.std.specs.List.{AllByRecursion}
use Rattle.std.proofs.lemmas.Bool.{cases_eq}
use Rattle.std.proofs.lemmas.Slice.Eq.{bytes_eq-Decides}
use Rattle.act1_base.specs.FirstFault.{IsCompleted, CanBeCompleted, ReadsTheTexts, Runs}
use Rattle.act1_base.specs.Words.{words_of}
use Rattle.act1_base.specs.declared.texts.TextFault.{TextFault}
use Rattle.act1_base.proofs.FirstFaults.{is_one_line, fault_is_first, first_is_fault}
use Rattle.act1_base.proofs.TextLines.{IsWithout, joined, joined_without}
use Rattle.act1_device.specs.declared.device.Device.{Device}
use Rattle.act1_device.specs.Laws.{DevicesAreSmall}
use Rattle.act1_fuses.specs.declared.fault.FuseKind.{FuseKind}
use Rattle.act1_fuses.specs.declared.fault.FuseKind.TheVariants as kind
use Rattle.act1_fuses.specs.declared.form.FuseLine.{FuseLine}
use Rattle.act1_fuses.specs.declared.form.FuseLine.TheVariants as form
use Rattle.act1_fuses.specs.declared.form.FuseState.{FuseState}
use Rattle.act1_fuses.specs.Forms.{form_of}
use Rattle.act1_fuses.specs.Laws.{EachTextIsReadOrRefused, FaultsAreFirstLines}
use Rattle.act1_fuses.specs.Reading.{place_of, may_follow, fault_of, state_with, step_of_words, has_ended, fuse_rules, fuse_reading}
use Rattle.act1_fuses.specs.Reads.{IsFuseText, IsFirstFault}
use Rattle.act1_fuses.proofs.Blanks.{code, named_without}
use Rattle.act1_fuses.proofs.Bounds.{fits_of}
use Rattle.act1_fuses.proofs.ReadAgain.{passes, line_runs, follow_8}
use Rattle.act1_fuses.proofs.ReadBack.{last, text_is_read}
use Rattle.act1_fuses.proofs.ReadLaw.{device_name, read_is_text}
use Rattle.act1_fuses.proofs.ReadStates.{stepped}
use Rattle.act1_fuses.proofs.ReadWhole.{fine_device}
use Rattle.act1_fuses.proofs.Written.{device_form}

place_of_line : (l : FuseLine) → place_of l ≤ 8
place_of_line form.Header = omega arith
place_of_line (form.Device name) = omega arith
place_of_line (form.Clock name) = omega arith
place_of_line (form.In pad name) = omega arith
place_of_line (form.Out pad name) = omega arith
place_of_line (form.Start row column init name) = omega arith
place_of_line (form.Fuse numbers site) = omega arith
place_of_line form.End = omega arith

module _ (dev : Device) where
  -- a line that is taken is one of the eight kinds
  place_by : (s u : FuseState) (l : Option FuseLine) (ended : Bool) → cond ended (Err kind.End) (step_of_words dev s l) ≡ Ok u → u.place ≤ 8
  place_by s u l true h = cc
  place_by s u None false h = cc
  place_by s u (Some l) false h =
      let is = (stepped dev s u l (fault_of dev s l) refl h).1 in
      subst (λ (t : FuseState). t.place ≤ 8) is (place_of_line l)

  reached : (lines : List (List ℕ)) (s t : FuseState) → s.place ≤ 8 → Runs (fuse_rules dev) s lines t → t.place ≤ 8
  reached [] s t low h = subst (λ (u : FuseState). u.place ≤ 8) h low
  reached (line ∷ lines) s t low h = reached lines h.0 t (place_by s h.0 (form_of (words_of line)) (has_ended s) h.1) h.2

  -- a line of these words comes first, and then what completes the state behind it
  after_line : (s : FuseState) (word : List ℕ) (words : List (List ℕ)) (l : FuseLine) → AllByRecursion (IsWithout 32) (word ∷ words) → AllByRecursion (IsWithout 10) (word ∷ words)
      → form_of (word ∷ words) ≡ Some l → s.place ≢ 8 → fault_of dev s l ≡ None → IsCompleted (fuse_rules dev) (state_with s l) → IsCompleted (fuse_rules dev) s
  after_line s word words l blanks feeds is inside none c = record {
    more = joined (word ∷ words) ∷ c.more;
    last = c.last;
    end = c.end;
    lines = (is_one_line (joined (word ∷ words)) (joined_without 10 32 refl (word ∷ words) feeds), c.lines);
    runs = (state_with s l, line_runs dev s word words l blanks is inside none, c.runs);
    ends = c.ends;
  }

  end_of : (s : FuseState) → s.place ≡ 8 → cond (s.place == 8) (Ok s) (Err kind.End) ≡ Ok s
  end_of s e = ap (λ (p : ℕ). cond (p == 8) (Ok s) (Err kind.End)) e

  at_end : (s : FuseState) → s.place ≡ 8 → IsCompleted (fuse_rules dev) s
  at_end s e = record { more = []; last = s; end = s; lines = tt; runs = refl; ends = end_of s e }

  inside : (s : FuseState) → 2 ≤ s.place → s.place ≤ 7 → IsCompleted (fuse_rules dev) s
  inside s low high =
      after_line s (codes "end") [] form.End (code 32 (omega arith) (codes "end") refl, tt) (code 10 (omega arith) (codes "end") refl, tt) refl (λ e8. omega (arith, e8, high))
      (passes (may_follow s.place 8) kind.Order [] (follow_8 s.place low high) refl) (at_end (state_with s form.End) refl)

  follow_1 : (p : ℕ) → p ≡ 0 → IsTrue (may_follow p 1)
  follow_1 p e = ap (λ (q : ℕ). may_follow q 1) e

  follow_2 : (p : ℕ) → p ≡ 1 → IsTrue (may_follow p 2)
  follow_2 p e = ap (λ (q : ℕ). may_follow q 2) e

  behind_header : (s : FuseState) → s.place ≡ 1 → IsCompleted (fuse_rules dev) s
  behind_header s e =
      let fine = fine_device dev.name (device_name dev) in
      after_line s (codes "device") (dev.name ∷ []) (form.Device dev.name) (named_without 32 (omega arith) (codes "device") dev.name refl fine) (named_without 10 (omega arith) (codes "device") dev.name refl fine)
      (device_form dev.name fine) (λ e8. omega (arith, e8, e))
      (passes (may_follow s.place 2) kind.Order ((bytes_eq dev.name dev.name, kind.Device) ∷ []) (follow_2 s.place e) (passes (bytes_eq dev.name dev.name) kind.Device [] ((bytes_eq-Decides dev.name dev.name).1 refl) refl))
      (inside (state_with s (form.Device dev.name)) (omega arith) (omega arith))

  at_start : (s : FuseState) → s.place ≡ 0 → IsCompleted (fuse_rules dev) s
  at_start s e =
      after_line s (codes "act1") (codes "fuses" ∷ codes "1" ∷ []) form.Header
      (code 32 (omega arith) (codes "act1") refl, (code 32 (omega arith) (codes "fuses") refl, (code 32 (omega arith) (codes "1") refl, tt)))
      (code 10 (omega arith) (codes "act1") refl, (code 10 (omega arith) (codes "fuses") refl, (code 10 (omega arith) (codes "1") refl, tt)))
      refl (λ e8. omega (arith, e8, e)) (passes (may_follow s.place 1) kind.Order [] (follow_1 s.place e) refl) (behind_header (state_with s form.Header) refl)

  completed : (s : FuseState) → s.place ≤ 8 → IsCompleted (fuse_rules dev) s
  completed s low = by (cases_eq s.place 0) (cases_eq s.place 1) (cases_eq s.place 8)
    where
      by : (s.place ≡ 0) ⊎ (s.place ≢ 0) → (s.place ≡ 1) ⊎ (s.place ≢ 1) → (s.place ≡ 8) ⊎ (s.place ≢ 8) → IsCompleted (fuse_rules dev) s
      by (inl e) b c = at_start s e
      by (inr a) (inl e) c = behind_header s e
      by (inr a) (inr b) (inl e) = at_end s e
      by (inr a) (inr b) (inr c) = inside s (omega arith) (omega arith)

  pub lines_complete : CanBeCompleted (fuse_rules dev)
  lines_complete lines s runs = completed s (reached lines _ s (omega arith) runs)

  ok_if : (r : Result FuseState (TextFault FuseKind)) (t : FuseState) → r ≡ Ok t → IsOk r
  ok_if r t e = cc

  text_if : (bytes : List ℕ) (r : Result FuseState (TextFault FuseKind)) → fuse_reading dev bytes ≡ r → IsOk r → IsFuseText dev bytes
  text_if bytes (Ok t) e h = (t.file, read_is_text dev bytes t e)
  text_if bytes (Err fault) e h = cc

  pub texts_are_read : DevicesAreSmall → ReadsTheTexts (fuse_rules dev) (IsFuseText dev)
  texts_are_read small bytes = (
    λ is. let fits = fits_of small dev is.0 is.1.0 in ok_if (fuse_reading dev bytes) (last dev is.0 is.1.0 fits) (ap (fuse_reading dev) is.1.1 ∙ text_is_read dev is.0 is.1.0 fits),
    λ h. text_if bytes (fuse_reading dev bytes) refl h,
  )

  each_by : (bytes : List ℕ) (r : Result FuseState (TextFault FuseKind)) → fuse_reading dev bytes ≡ r → IsFuseText dev bytes ⊎ ((line : ℕ) × (k : FuseKind) × IsFirstFault dev bytes line k)
  each_by bytes (Ok t) e = inl (t.file, read_is_text dev bytes t e)
  each_by bytes (Err fault) e = inr (fault.line, fault.kind, e)

pub each_text : EachTextIsReadOrRefused
each_text dev bytes = each_by dev bytes (fuse_reading dev bytes) refl

pub first_lines : DevicesAreSmall → FaultsAreFirstLines
first_lines small dev bytes line = (
  λ f. fault_is_first (fuse_rules dev) (IsFuseText dev) (texts_are_read dev small) (lines_complete dev) bytes (record { line = line; kind = f.0 }) f.1,
  λ f. first_is_fault (fuse_rules dev) (IsFuseText dev) (texts_are_read dev small) (lines_complete dev) bytes line f,
)
