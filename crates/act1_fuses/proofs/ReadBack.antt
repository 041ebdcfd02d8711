-- A file's text is read as that file and as no other, and isn't refused.
use Rattle.std.proofs.Common.{ℕ, ◌≡◌, ◌≤◌, ◌==◌, cond, IsTrue, List, [], ◌∷◌, ◌++◌, map, Option, Some, None, Result, Ok, Err, codes, refl, sym, ap, ◌∙◌, arith}
use Rattle.std.specs.List.{AllByRecursion}
use Rattle.std.proofs.lemmas.List.Elements.{recursion_from_All}
use Rattle.act1_base.specs.Names.{is_name}
use Rattle.act1_base.specs.declared.texts.TextFault.{TextFault}
use Rattle.act1_base.proofs.TextLines.{IsWithout}
use Rattle.act1_base.proofs.TextLaws.{written_is_read}
use Rattle.act1_device.specs.declared.device.Device.{Device}
use Rattle.act1_fuses.specs.declared.fault.FuseKind.{FuseKind}
use Rattle.act1_fuses.specs.declared.fault.FuseKind.TheVariants as kind
use Rattle.act1_fuses.specs.declared.form.FuseState.{FuseState}
use Rattle.act1_fuses.specs.declared.fuses.FuseFile.{FuseFile}
use Rattle.act1_fuses.specs.declared.fuses.Port.{Port}
use Rattle.act1_fuses.specs.declared.fuses.StartAt.{StartAt}
use Rattle.act1_fuses.proofs.Fields.{SiteFits, FitsFields}
use Rattle.act1_fuses.specs.Reading.{fuse_rules, fuse_reading}
use Rattle.act1_fuses.specs.Rules.{port_names, start_names, IsApart, IsStart, KeepsRules}
use Rattle.act1_fuses.specs.Text.{clock_lines, port_words, start_words, site_words, file_lines, fuse_text}
use Rattle.act1_fuses.proofs.Blanks.{code, named_without, port_without, start_without, site_without, append_without, map_without}
use Rattle.act1_fuses.proofs.ReadLaw.{few_rows, few_columns}
use Rattle.act1_fuses.proofs.ReadStates.{names_of, header}
use Rattle.act1_fuses.proofs.ReadWhole.{device_fine, all_run}

abbrev NoFeeds : List (List ℕ) → Type 0
NoFeeds words = AllByRecursion (IsWithout 10) words

module _ {X : Type 0} where
  rec_left : (P : X → Type 0) (xs ys : List X) → AllByRecursion P (xs ++ ys) → AllByRecursion P xs
  rec_left P [] ys h = tt
  rec_left P (x ∷ xs) ys h = (h.0, rec_left P xs ys h.1)

  rec_right : (P : X → Type 0) (xs ys : List X) → AllByRecursion P (xs ++ ys) → AllByRecursion P ys
  rec_right P [] ys h = h
  rec_right P (x ∷ xs) ys h = rec_right P xs ys h.1

  rec_map : {Y : Type 0} (P : X → Type 0) (g : Y → X) (ys : List Y) → AllByRecursion P (map g ys) → AllByRecursion (λ y. P (g y)) ys
  rec_map P g [] h = tt
  rec_map P g (y ∷ ys) h = (h.0, rec_map P g ys h.1)

  rec_both : (P Q : X → Type 0) (xs : List X) → AllByRecursion P xs → AllByRecursion Q xs → AllByRecursion (λ x. P x × Q x) xs
  rec_both P Q [] h k = tt
  rec_both P Q (x ∷ xs) h k = ((h.0, k.0), rec_both P Q xs h.1 k.1)

module _ (dev : Device) (f : FuseFile) (keeps : KeepsRules dev f) (fits : FitsFields f) where
  abbrev Fine : List ℕ → Type 0
  Fine name = IsTrue (is_name name)

  names : AllByRecursion Fine (names_of f)
  names = recursion_from_All Fine (names_of f) keeps.names

  port_lines : (word : List ℕ) (ports : List Port) → IsWithout 10 word → AllByRecursion (λ (p : Port). p.pad ≤ 65535) ports → AllByRecursion Fine (port_names ports) → ((p : Port) → (p.pad ≤ 65535) × Fine p.name → NoFeeds (port_words word p)) → AllByRecursion NoFeeds (map (port_words word) ports)
  port_lines word ports h pads fine each =
      map_without 10 (omega arith) (port_words word) (λ (p : Port). (p.pad ≤ 65535) × Fine p.name) each ports
      (rec_both (λ (p : Port). p.pad ≤ 65535) (λ (p : Port). Fine p.name) ports pads (rec_map Fine (λ (p : Port). p.name) ports fine))

  start_line : (q : StartAt) → IsStart dev q × Fine q.name → NoFeeds (start_words q)
  start_line q h =
      let rows = few_rows dev in
      let columns = few_columns dev in
      let row = h.0.row in
      let column = h.0.column in
      let init = h.0.init in
      start_without 10 (omega arith) q.spot.row q.spot.column q.init q.name (omega (arith, rows, row)) (omega (arith, columns, column)) (omega (arith, init)) h.1

  clock_line : (clock : Option (List ℕ)) (all : List (List ℕ)) → IsApart clock all → AllByRecursion NoFeeds (clock_lines clock)
  clock_line None all h = tt
  clock_line (Some c) all h = (named_without 10 (omega arith) (codes "clock") c refl h.0, tt)

  no_feeds : AllByRecursion NoFeeds (file_lines f)
  no_feeds =
      let pads = recursion_from_All (λ (p : Port). p.pad ≤ 65535) (f.ins ++ f.outs) fits.pads in
      let ports = rec_left Fine (port_names f.ins ++ port_names f.outs) (start_names f.starts) names in
      let head : AllByRecursion NoFeeds (header ∷ (codes "device" ∷ f.device ∷ []) ∷ clock_lines f.clock) = (
        (code 10 (omega arith) (codes "act1") refl, (code 10 (omega arith) (codes "fuses") refl, (code 10 (omega arith) (codes "1") refl, tt))),
        (named_without 10 (omega arith) (codes "device") f.device refl (device_fine dev f keeps fits), clock_line f.clock (names_of f) keeps.clock),
      ) in
      let ins = port_lines (codes "in") f.ins (code 10 (omega arith) (codes "in") refl) (rec_left (λ (p : Port). p.pad ≤ 65535) f.ins f.outs pads) (rec_left Fine (port_names f.ins) (port_names f.outs) ports)
      (λ p h. port_without 10 (omega arith) (codes "in") p.pad p.name refl h.0 h.1) in
      let outs = port_lines (codes "out") f.outs (code 10 (omega arith) (codes "out") refl) (rec_right (λ (p : Port). p.pad ≤ 65535) f.ins f.outs pads) (rec_right Fine (port_names f.ins) (port_names f.outs) ports)
      (λ p h. port_without 10 (omega arith) (codes "out") p.pad p.name refl h.0 h.1) in
      let starts = map_without 10 (omega arith) start_words (λ (q : StartAt). IsStart dev q × Fine q.name) start_line f.starts
      (rec_both (IsStart dev) (λ (q : StartAt). Fine q.name) f.starts (recursion_from_All (IsStart dev) f.starts keeps.starts) (rec_map Fine (λ (q : StartAt). q.name) f.starts (rec_right Fine (port_names f.ins ++ port_names f.outs) (start_names f.starts) names))) in
      let sites = map_without 10 (omega arith) site_words SiteFits (λ site h. site_without 10 (omega arith) site h) f.sites (recursion_from_All SiteFits f.sites fits.sites) in
      let end : AllByRecursion NoFeeds ((codes "end" ∷ []) ∷ []) = ((code 10 (omega arith) (codes "end") refl, tt), tt) in
      let front : List (List (List ℕ)) = header ∷ (codes "device" ∷ f.device ∷ []) ∷ clock_lines f.clock in
      let in_lines = map (port_words (codes "in")) f.ins in
      let out_lines = map (port_words (codes "out")) f.outs in
      let begins = map start_words f.starts in
      let fuses = map site_words f.sites in
      let a = append_without 10 (omega arith) front in_lines head ins in
      let b = append_without 10 (omega arith) (front ++ in_lines) out_lines a outs in
      let c = append_without 10 (omega arith) (front ++ in_lines ++ out_lines) begins b starts in
      let d = append_without 10 (omega arith) (front ++ in_lines ++ out_lines ++ begins) fuses c sites in
      append_without 10 (omega arith) (front ++ in_lines ++ out_lines ++ begins ++ fuses) ((codes "end" ∷ []) ∷ []) d end

  abbrev pub last : FuseState
  last = (all_run dev f keeps fits).last

  abbrev end_at : ℕ → Result FuseState FuseKind
  end_at place = cond (place == 8) (Ok last) (Err kind.End)

  ended : (place : ℕ) → place ≡ 8 → end_at place ≡ Ok last
  ended place e = ap end_at e

  -- the text is read to its end
  pub text_is_read : fuse_reading dev (fuse_text f) ≡ Ok last
  text_is_read = written_is_read (fuse_rules dev) (file_lines f) last last no_feeds (all_run dev f keeps fits).runs (ended last.place (all_run dev f keeps fits).is.place)

  one_state : (s t : FuseState) (r : Result FuseState (TextFault FuseKind)) → r ≡ Ok s → r ≡ Ok t → s ≡ t
  one_state s t r h k = cc

  no_state : (s : FuseState) (fault : TextFault FuseKind) (r : Result FuseState (TextFault FuseKind)) → r ≡ Ok s → r ≡ Err fault → ⊥
  no_state s fault r h k = cc

  -- the text is read as the file
  pub read_as : (bytes : List ℕ) (t : FuseState) → bytes ≡ fuse_text f → fuse_reading dev bytes ≡ Ok t → t.file ≡ f
  read_as bytes t is h =
      let same = one_state last t (fuse_reading dev bytes) (ap (fuse_reading dev) is ∙ text_is_read) h in
      sym (ap (λ (s : FuseState). s.file) same) ∙ (all_run dev f keeps fits).is.file

  -- and not refused
  pub not_refused : (bytes : List ℕ) (fault : TextFault FuseKind) → bytes ≡ fuse_text f → fuse_reading dev bytes ≡ Err fault → ⊥
  not_refused bytes fault is h = no_state last fault (fuse_reading dev bytes) (ap (fuse_reading dev) is ∙ text_is_read) h

-- files of one text are the same
pub one_text : (dev : Device) (f : FuseFile) (kept : KeepsRules dev f) (fits : FitsFields f) (g : FuseFile) (keeps : KeepsRules dev g) (in_fields : FitsFields g) → fuse_text f ≡ fuse_text g → f ≡ g
one_text dev f kept fits g keeps in_fields same =
    let t : FuseState = last dev f kept fits in
    let read = text_is_read dev f kept fits in
    sym (read_as dev f kept fits (fuse_text f) t refl read) ∙ read_as dev g keeps in_fields (fuse_text f) t same read
