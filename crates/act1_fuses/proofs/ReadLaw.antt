-- A text that is read to its end is that of the file that its lines leave, and the file keeps the rules.
use Rattle.std.proofs.Common.{ℕ, ◌≡◌, ◌≤◌, ◌==◌, nat_le, nat_lt, Bool, true, false, not, ◌&&◌, ◌||◌, cond, IsTrue, List, [], ◌∷◌, ◌++◌, length, Option, Some, None, Ok, Err, refl, sym, ap, subst, ◌∙◌, arith}
use Rattle.std.specs.List.{list_all}
use Rattle.std.specs.Str.{bytes_eq}
use Rattle.std.proofs.lemmas.List.Elements.{All-from_recursion}
use Rattle.std.proofs.lemmas.Slice.Eq.{bytes_eq-Decides}
use Rattle.std.proofs.lemmas.Bool.Decides.{nat_tests}
use Rattle.act1_base.specs.Words.{words_of, text_of_lines}
use Rattle.act1_base.proofs.TextLaws.{read_is_said}
use Rattle.act1_device.specs.declared.device.Device.{Device}
use Rattle.act1_device.specs.Rules.{is_device, is_device_name, is_within, are_channels, are_in_order, is_long, is_place, are_apart}
use Rattle.act1_fuses.specs.declared.fault.FuseKind.TheVariants as kind
use Rattle.act1_fuses.specs.declared.form.FuseLine.{FuseLine}
use Rattle.act1_fuses.specs.declared.form.FuseLine.TheVariants as form
use Rattle.act1_fuses.specs.declared.form.FuseState.{FuseState}
use Rattle.act1_fuses.specs.Forms.{form_of}
use Rattle.act1_fuses.specs.Given.{is_among, is_clock}
use Rattle.act1_fuses.specs.Reading.{may_follow, comes_after, is_free_pad, rules_of, fault_of, step_of_words, has_ended, first_state, fuse_rules, fuse_reading}
use Rattle.act1_fuses.specs.Rules.{port_names, start_names, KeepsRules}
use Rattle.act1_fuses.specs.SiteTest.{is_site}
use Rattle.act1_fuses.specs.Text.{file_lines, fuse_text}
use Rattle.act1_fuses.proofs.LineForms.{Reads, words_said, words_are}
use Rattle.act1_fuses.proofs.ReadStates.{IsGood, said, said_at, both, passed, stepped, Next, next_header, next_device, next_clock, next_end}
use Rattle.act1_fuses.proofs.ReadPorts.{pad_fits, next_in, next_out, below_of}
use Rattle.act1_fuses.proofs.ReadSites.{next_start, next_fuse}
use Rattle.act1_fuses.proofs.SiteTests.{site_if}

small_sizes : (a b c d e f g h : Bool) → IsTrue (a && b && c && d && e && f && g && h) → IsTrue b × IsTrue c × IsTrue a
small_sizes a b c d e f g h valid =
    let front = both (a && b && c) d (both (a && b && c && d) e (both (a && b && c && d && e) f (both (a && b && c && d && e && f) g (both (a && b && c && d && e && f && g) h valid).0).0).0).0 in
    let two = both (a && b) c front.0 in
    ((both a b two.0).1, two.1, (both a b two.0).0)

sizes_of : (dev : Device) → IsTrue (is_within 1 32 dev.rows) × IsTrue (is_within 2 64 dev.columns) × IsTrue (is_device_name dev.name)
unfolding is_device
sizes_of dev =
    small_sizes (is_device_name dev.name) (is_within 1 32 dev.rows) (is_within 2 64 dev.columns) (nat_le dev.below 32) (nat_le dev.above 32)
    (are_channels dev.rows dev.columns dev.tracks && are_in_order dev.tracks) (nat_le (length dev.longs) 32 && list_all (is_long dev.rows) dev.longs)
    (list_all (is_place dev.rows dev.columns) dev.pads && are_apart dev.pads) dev.valid

within_is : (low high n : ℕ) → IsTrue (is_within low high n) → n ≤ high
within_is low high n h = grind (arith, nat_tests)

pub few_rows : (dev : Device) → dev.rows ≤ 32
few_rows dev = within_is 1 32 dev.rows (sizes_of dev).0

pub few_columns : (dev : Device) → dev.columns ≤ 64
few_columns dev = within_is 2 64 dev.columns (sizes_of dev).1

pub device_name : (dev : Device) → IsTrue (is_device_name dev.name)
device_name dev = (sizes_of dev).2

module _ (dev : Device) (s : FuseState) (good : IsGood dev s) where
  put : (l : FuseLine) (words : List (List ℕ)) → words ≡ words_said l → Next dev s l (words_said l) → Next dev s l words
  put l words same next = subst (Next dev s l) (sym same) next

  -- a line that keeps the rules
  line_kept : (l : FuseLine) (words : List (List ℕ)) → Reads words l → fault_of dev s l ≡ None → Next dev s l words
  line_kept form.Header words reads h =
      let p = passed (may_follow s.place 1) kind.Order (rules_of dev s form.Header) h in
      put form.Header words (reads.1 tt) (next_header dev s good p.0)
  line_kept (form.Device name) words reads h =
      let p = passed (may_follow s.place 2) kind.Order (rules_of dev s (form.Device name)) h in
      let q = passed (bytes_eq name dev.name) kind.Device [] p.1 in
      put (form.Device name) words (reads.1 tt) (next_device dev s good name p.0 ((bytes_eq-Decides name dev.name).0 q.0))
  line_kept (form.Clock name) words reads h =
      let p = passed (may_follow s.place 3) kind.Order (rules_of dev s (form.Clock name)) h in
      put (form.Clock name) words (reads.1 tt) (next_clock dev s good name p.0 reads.0)
  line_kept (form.In pad name) words reads h =
      let p = passed (may_follow s.place 4) kind.Order (rules_of dev s (form.In pad name)) h in
      let free = not (is_clock s.file.clock name || is_among name (port_names s.file.ins)) in
      let q = passed (is_free_pad dev s.file pad) kind.Pad ((free, kind.Name) ∷ []) p.1 in
      let r = passed free kind.Name [] q.1 in
      put (form.In pad name) words (reads.1 (pad_fits dev s good pad name reads.0 q.0)) (next_in dev s good pad name reads.0 q.0 p.0 r.0)
  line_kept (form.Out pad name) words reads h =
      let p = passed (may_follow s.place 5) kind.Order (rules_of dev s (form.Out pad name)) h in
      let free = not (is_clock s.file.clock name || is_among name (port_names s.file.outs)) in
      let q = passed (is_free_pad dev s.file pad) kind.Pad ((free, kind.Name) ∷ []) p.1 in
      let r = passed free kind.Name [] q.1 in
      put (form.Out pad name) words (reads.1 (pad_fits dev s good pad name reads.0 q.0)) (next_out dev s good pad name reads.0 q.0 p.0 r.0)
  line_kept (form.Start row column init name) words reads h =
      let p = passed (may_follow s.place 6) kind.Order (rules_of dev s (form.Start row column init name)) h in
      let on = nat_lt row dev.rows && nat_lt column dev.columns in
      let free = not (is_clock s.file.clock name || is_among name (port_names s.file.ins) || is_among name (start_names s.file.starts)) in
      let q = passed (comes_after s 6 (row ∷ column ∷ [])) kind.Order ((on, kind.Site) ∷ (free, kind.Name) ∷ []) p.1 in
      let r = passed on kind.Site ((free, kind.Name) ∷ []) q.1 in
      let t = passed free kind.Name [] r.1 in
      let spot = both (nat_lt row dev.rows) (nat_lt column dev.columns) r.0 in
      let rows = few_rows dev in
      let columns = few_columns dev in
      let low = below_of row dev.rows spot.0 in
      let left = below_of column dev.columns spot.1 in
      put (form.Start row column init name) words (reads.1 (omega (arith, rows, low), omega (arith, columns, left))) (next_start dev s good row column init name reads.0.0 reads.0.1 p.0 q.0 r.0 t.0)
  line_kept (form.Fuse numbers None) words reads h =
      let p = passed (may_follow s.place 7) kind.Order (rules_of dev s (form.Fuse numbers None)) h in
      let q = passed (comes_after s 7 numbers) kind.Order ((false, kind.Site) ∷ []) p.1 in
      let r = passed false kind.Site [] q.1 in
      absurd (no_truth r.0)
    where
      no_truth : IsTrue false → ⊥
      no_truth e = cc
  line_kept (form.Fuse numbers (Some site)) words reads h =
      let p = passed (may_follow s.place 7) kind.Order (rules_of dev s (form.Fuse numbers (Some site))) h in
      let q = passed (comes_after s 7 numbers) kind.Order ((is_site dev site, kind.Site) ∷ []) p.1 in
      let r = passed (is_site dev site) kind.Site [] q.1 in
      put (form.Fuse numbers (Some site)) words (reads.1 tt) (next_fuse dev s good numbers site reads.0 p.0 q.0 (site_if dev site r.0))
  line_kept form.End words reads h =
      let p = passed (may_follow s.place 8) kind.Order (rules_of dev s form.End) h in
      put form.End words (reads.1 tt) (next_end dev s good p.0)

  abbrev IsNext : List (List ℕ) → FuseState → Type 0
  IsNext words u = IsGood dev u × (said u ≡ said s ++ words ∷ [])

  by_form : (words : List (List ℕ)) (u : FuseState) (o : Option FuseLine) → form_of words ≡ o → step_of_words dev s o ≡ Ok u → IsNext words u
  by_form words u None e h = cc
  by_form words u (Some l) e h =
      let st = stepped dev s u l (fault_of dev s l) refl h in
      subst (IsNext words) st.1 (line_kept l words (words_are words l e) st.0)

  by_end : (words : List (List ℕ)) (u : FuseState) (ended : Bool) → cond ended (Err kind.End) (step_of_words dev s (form_of words)) ≡ Ok u → IsNext words u
  by_end words u true h = cc
  by_end words u false h = by_form words u (form_of words) refl h

-- no line so far
good_start : (dev : Device) → IsGood dev first_state
good_start dev = record {
  kept = record {
    names = All-from_recursion _ [] tt;
    inputs = λ i j d low within. absurd (omega arith);
    outputs = λ i j d low within. absurd (omega arith);
    clock = tt;
    pads = All-from_recursion _ [] tt;
    once = λ i j d low within. absurd (omega arith);
    starts = All-from_recursion _ [] tt;
    spots_rise = tt;
    sites = All-from_recursion _ [] tt;
    sites_rise = tt;
  };
  device = λ p. absurd (omega arith);
  no_clock = λ p. refl;
  no_ins = λ p. refl;
  no_outs = λ p. refl;
  no_starts = λ p. refl;
  no_sites = λ p. refl;
  start_last = λ p. absurd (omega arith);
  site_last = λ p. absurd (omega arith);
}

at_eight : (place : ℕ) (ended : Bool) → (place == 8) ≡ ended → IsTrue ended → place ≡ 8
at_eight place ended e h = grind (arith, nat_tests)

ends_at : (s t : FuseState) (ended : Bool) → has_ended s ≡ ended → cond ended (Ok s) (Err kind.End) ≡ Ok t → (s.place ≡ 8) × (s ≡ t)
ends_at s t true e h = (at_eight s.place true e refl, cc)
ends_at s t false e h = cc

rules_kept : (dev : Device) (s : FuseState) → IsGood dev s → s.place ≡ 8 → KeepsRules dev s.file
rules_kept dev s good at = record {
  device = good.device (omega arith);
  names = good.kept.names;
  inputs = good.kept.inputs;
  outputs = good.kept.outputs;
  clock = good.kept.clock;
  pads = good.kept.pads;
  once = good.kept.once;
  starts = good.kept.starts;
  spots_rise = good.kept.spots_rise;
  sites = good.kept.sites;
  sites_rise = good.kept.sites_rise;
}

-- a text that is read to its end
pub read_is_text : (dev : Device) (bytes : List ℕ) (t : FuseState) → fuse_reading dev bytes ≡ Ok t → KeepsRules dev t.file × (bytes ≡ fuse_text t.file)
read_is_text dev bytes t h =
    let is = read_is_said (fuse_rules dev) (IsGood dev) said (λ s u line good step. by_end dev s good (words_of line) u (has_ended s) step) (good_start dev) refl bytes t h in
    let end = ends_at is.last t (has_ended is.last) refl is.ends in
    let lines : said is.last ≡ file_lines is.last.file = ap (λ (p : ℕ). said_at p is.last.file) end.0 in
    subst (λ (u : FuseState). KeepsRules dev u.file × (bytes ≡ fuse_text u.file)) end.1
    (rules_kept dev is.last is.good end.0, is.text ∙ ap text_of_lines lines)
