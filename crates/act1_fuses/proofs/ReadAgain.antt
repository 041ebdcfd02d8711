-- The lines of a file's ports, as they are read again.
use Rattle.std.proofs.Common.{ℕ, ◌≡◌, ◌≢◌, ◌<◌, ◌≤◌, ◌==◌, nat_le, nat_lt, Bool, true, false, not, ◌&&◌, ◌||◌, cond, IsTrue, List, [], ◌∷◌, ◌++◌, length, map, Option, Some, None, Ok, Err, codes, refl, sym, ap, subst, ◌∙◌, append_assoc, arith}
use Rattle.std.specs.Fmt.{decimal}
use Rattle.std.specs.List.{AllByRecursion}
use Rattle.std.proofs.lemmas.List.{append-nil, map-append}
use Rattle.std.proofs.lemmas.Bool.Decides.{nat_tests}
use Rattle.act1_base.specs.Names.{is_name}
use Rattle.act1_base.proofs.TextLines.{IsWithout, joined, words_again}
use Rattle.act1_base.specs.FirstFault.{Runs}
use Rattle.act1_device.specs.declared.device.Device.{Device}
use Rattle.act1_device.specs.declared.device.Site.{Site}
use Rattle.act1_fuses.specs.declared.fault.FuseKind.{FuseKind}
use Rattle.act1_fuses.specs.declared.fault.FuseKind.TheVariants as kind
use Rattle.act1_fuses.specs.declared.form.FuseLine.{FuseLine}
use Rattle.act1_fuses.specs.declared.form.FuseLine.TheVariants as form
use Rattle.act1_fuses.specs.declared.form.FuseState.{FuseState}
use Rattle.act1_fuses.specs.declared.fuses.FuseFile.{FuseFile}
use Rattle.act1_fuses.specs.declared.fuses.Port.{Port}
use Rattle.act1_fuses.specs.declared.fuses.StartAt.{StartAt}
use Rattle.act1_fuses.proofs.Fields.{FitsFields}
use Rattle.act1_fuses.specs.Forms.{form_of}
use Rattle.act1_fuses.specs.Given.{is_among, is_clock}
use Rattle.act1_fuses.specs.Reading.{may_follow, is_free_pad, uses_pad, first_failing, fault_of, state_with, unless, step_of_words, has_ended, fuse_rules}
use Rattle.act1_fuses.specs.Rules.{port_names, start_names, KeepsRules}
use Rattle.act1_fuses.specs.Text.{port_words}
use Rattle.act1_fuses.proofs.Blanks.{port_without}
use Rattle.act1_fuses.proofs.Middles.{all_at, pairs_at, none_among, none_uses, apart_at, any_parts}
use Rattle.act1_fuses.proofs.Pushes.{not_or}
use Rattle.act1_fuses.proofs.ReadStates.{names_of, sources_of, is_not}
use Rattle.act1_fuses.proofs.Written.{in_form, out_form}

pub passes : (b : Bool) (k : FuseKind) (tests : List (Bool × FuseKind)) → IsTrue b → first_failing tests ≡ None → first_failing ((b, k) ∷ tests) ≡ None
passes true k tests h rest = rest
passes false k tests h rest = cc

not_true : (b : Bool) → b ≡ false → IsTrue (not b)
not_true true h = cc
not_true false h = refl

other : {X : Type 0} (b : Bool) (x o : X) → b ≡ false → cond b x o ≡ o
other true x o h = cc
other false x o h = refl

-- a line whose words are read as a line that keeps the rules
pub line_runs : (dev : Device) (s : FuseState) (word : List ℕ) (words : List (List ℕ)) (l : FuseLine) → AllByRecursion (IsWithout 32) (word ∷ words) → form_of (word ∷ words) ≡ Some l → s.place ≢ 8 → fault_of dev s l ≡ None
    → (fuse_rules dev).after s (joined (word ∷ words)) ≡ Ok (state_with s l)
line_runs dev s word words l without is inside none =
    other (has_ended s) (Err kind.End) _ (is_not s.place 8 inside)
    ∙ ap (λ (ws : List (List ℕ)). step_of_words dev s (form_of ws)) (words_again 32 word words without)
    ∙ ap (step_of_words dev s) is
    ∙ ap (λ (fault : Option FuseKind). unless fault (state_with s l)) none

-- the lines lead from the state to one of which this holds
pub record To (dev : Device) (s : FuseState) (lines : List (List (List ℕ))) (Holds : FuseState → Type 0) : Type 0 where
  pub last : FuseState
  pub runs : Runs (fuse_rules dev) s (map joined lines) last
  pub is : Holds last

pub no_lines : (dev : Device) (s : FuseState) (Holds : FuseState → Type 0) → Holds s → To dev s [] Holds
no_lines dev s Holds h = record { last = s; runs = refl; is = h }

pub line_more : (dev : Device) (s next : FuseState) (words : List (List ℕ)) (lines : List (List (List ℕ))) (Holds : FuseState → Type 0) → (fuse_rules dev).after s (joined words) ≡ Ok next → To dev next lines Holds → To dev s (words ∷ lines) Holds
line_more dev s next words lines Holds step t = record { last = t.last; runs = (next, step, t.runs); is = t.is }

runs_on : (dev : Device) (s t u : FuseState) (xs ys : List (List ℕ)) → Runs (fuse_rules dev) s xs t → Runs (fuse_rules dev) t ys u → Runs (fuse_rules dev) s (xs ++ ys) u
runs_on dev s t u [] ys h k = subst (λ (v : FuseState). Runs (fuse_rules dev) v ys u) (sym h) k
runs_on dev s t u (x ∷ xs) ys h k = (h.0, h.1, runs_on dev h.0 t u xs ys h.2 k)

-- and then on by more lines
pub and_on : (dev : Device) (s : FuseState) (xs ys : List (List (List ℕ))) (Middle Holds : FuseState → Type 0) → To dev s xs Middle → ((t : FuseState) → Middle t → To dev t ys Holds) → To dev s (xs ++ ys) Holds
and_on dev s xs ys Middle Holds t on =
    let u = on t.last t.is in record {
      last = u.last;
      runs = subst (λ (lines : List (List ℕ)). Runs (fuse_rules dev) s lines u.last) (sym (map-append joined xs ys)) (runs_on dev s t.last u.last (map joined xs) (map joined ys) t.runs u.runs);
      is = u.is;
    }

pub follow_4 : (p : ℕ) → 2 ≤ p → p ≤ 4 → IsTrue (may_follow p 4)
follow_4 p low high = grind (arith, nat_tests)

pub follow_5 : (p : ℕ) → 2 ≤ p → p ≤ 5 → IsTrue (may_follow p 5)
follow_5 p low high = grind (arith, nat_tests)

pub follow_6 : (p : ℕ) → 2 ≤ p → p ≤ 6 → IsTrue (may_follow p 6)
follow_6 p low high = grind (arith, nat_tests)

pub follow_7 : (p : ℕ) → 2 ≤ p → p ≤ 7 → IsTrue (may_follow p 7)
follow_7 p low high = grind (arith, nat_tests)

pub follow_8 : (p : ℕ) → 2 ≤ p → p ≤ 7 → IsTrue (may_follow p 8)
follow_8 p low high = grind (arith, nat_tests)

free_pad : (pad n : ℕ) (used : Bool) → pad ≤ 65535 → pad < n → used ≡ false → IsTrue (nat_le pad 65535 && nat_lt pad n && not used)
free_pad pad n true low has h = cc
free_pad pad n false low has h = grind (arith, nat_tests)

-- a file with these lists alone
abbrev pub part_of : FuseFile → List Port → List Port → List StartAt → List Site → FuseFile
part_of f ins outs starts sites = record { device = f.device; clock = f.clock; ins = ins; outs = outs; starts = starts; sites = sites }

-- an element in the first or in the second of some lists
pub in_first : {X : Type 0} (a b c d : List X) (x : X) → (a ++ x ∷ b) ++ c ++ d ≡ a ++ x ∷ ((b ++ c) ++ d)
in_first a b c d x = ap (λ l. l ++ d) (append_assoc a (x ∷ b) c) ∙ append_assoc a (x ∷ (b ++ c)) d

pub in_second : {X : Type 0} (a b c d : List X) (x : X) → d ++ (a ++ x ∷ b) ++ c ≡ (d ++ a) ++ x ∷ (b ++ c)
in_second a b c d x = ap (λ l. l ++ c) (sym (append_assoc d a (x ∷ b))) ∙ append_assoc (d ++ a) (x ∷ b) c

module _ (dev : Device) (f : FuseFile) (keeps : KeepsRules dev f) (fits : FitsFields f) where
  name_of : (a b : List (List ℕ)) (name : List ℕ) → names_of f ≡ a ++ name ∷ b → IsTrue (is_name name)
  name_of a b name e = all_at (λ (n : List ℕ). IsTrue (is_name n)) (names_of f) a name b e keeps.names

  -- the state among the inputs
  pub record AtIns (before : List Port) (s : FuseState) : Type 0 where
    pub file : s.file ≡ part_of f before [] [] []
    pub low : 2 ≤ s.place
    pub high : s.place ≤ 4

  -- and among the outputs
  pub record AtOuts (before : List Port) (s : FuseState) : Type 0 where
    pub file : s.file ≡ part_of f f.ins before [] []
    pub low : 2 ≤ s.place
    pub high : s.place ≤ 5

  no_fault_in : (place : ℕ) (last : List ℕ) (g : FuseFile) (port : Port) → 2 ≤ place → place ≤ 4 → IsTrue (is_free_pad dev g port.pad) → (is_clock g.clock port.name || is_among port.name (port_names g.ins)) ≡ false
      → fault_of dev (record { place = place; last = last; file = g }) (form.In port.pad port.name) ≡ None
  no_fault_in place last g port low high free new =
      let is_new = not (is_clock g.clock port.name || is_among port.name (port_names g.ins)) in
      passes (may_follow place 4) kind.Order ((is_free_pad dev g port.pad, kind.Pad) ∷ (is_new, kind.Name) ∷ []) (follow_4 place low high)
      (passes (is_free_pad dev g port.pad) kind.Pad ((is_new, kind.Name) ∷ []) free (passes is_new kind.Name [] (not_true _ new) refl))

  no_fault_out : (place : ℕ) (last : List ℕ) (g : FuseFile) (port : Port) → 2 ≤ place → place ≤ 5 → IsTrue (is_free_pad dev g port.pad) → (is_clock g.clock port.name || is_among port.name (port_names g.outs)) ≡ false
      → fault_of dev (record { place = place; last = last; file = g }) (form.Out port.pad port.name) ≡ None
  no_fault_out place last g port low high free new =
      let is_new = not (is_clock g.clock port.name || is_among port.name (port_names g.outs)) in
      passes (may_follow place 5) kind.Order ((is_free_pad dev g port.pad, kind.Pad) ∷ (is_new, kind.Name) ∷ []) (follow_5 place low high)
      (passes (is_free_pad dev g port.pad) kind.Pad ((is_new, kind.Name) ∷ []) free (passes is_new kind.Name [] (not_true _ new) refl))

  -- the lines of the inputs that are left
  pub ins_run : (rest before : List Port) → f.ins ≡ before ++ rest → (s : FuseState) → AtIns before s → To dev s (map (port_words (codes "in")) rest) (AtIns f.ins)
  ins_run [] before e s at = no_lines dev s (AtIns f.ins) (record { file = at.file ∙ ap (λ (ports : List Port). part_of f ports [] [] []) (sym (e ∙ append-nil before)); low = at.low; high = at.high })
  ins_run (port ∷ rest) before e s at =
      let ports : f.ins ++ f.outs ≡ before ++ port ∷ (rest ++ f.outs) = ap (λ (l : List Port). l ++ f.outs) e ∙ append_assoc before (port ∷ rest) f.outs in
      let split : port_names f.ins ≡ port_names before ++ port.name ∷ port_names rest = ap port_names e ∙ map-append (λ (p : Port). p.name) before (port ∷ rest) in
      let names : names_of f ≡ port_names before ++ port.name ∷ ((port_names rest ++ port_names f.outs) ++ start_names f.starts)
      = ap (λ (l : List (List ℕ)). l ++ port_names f.outs ++ start_names f.starts) split ∙ in_first (port_names before) (port_names rest) (port_names f.outs) (start_names f.starts) port.name in
      let sources : sources_of f ≡ port_names before ++ port.name ∷ (port_names rest ++ start_names f.starts)
      = ap (λ (l : List (List ℕ)). l ++ start_names f.starts) split ∙ append_assoc (port_names before) (port.name ∷ port_names rest) (start_names f.starts) in
      let low : port.pad ≤ 65535 = all_at (λ (p : Port). p.pad ≤ 65535) (f.ins ++ f.outs) before port (rest ++ f.outs) ports fits.pads in
      let has : port.pad < length dev.pads = all_at (λ (p : Port). p.pad < length dev.pads) (f.ins ++ f.outs) before port (rest ++ f.outs) ports keeps.pads in
      let unused = none_uses port.pad before (pairs_at (λ (a b : Port). a.pad ≢ b.pad) (f.ins ++ f.outs) before port (rest ++ f.outs) ports keeps.once) in
      let fine = name_of (port_names before) _ port.name names in
      let new = not_or _ (is_among port.name (port_names before)) (apart_at f.clock (names_of f) (port_names before) port.name _ names keeps.clock)
      (none_among port.name (port_names before) (pairs_at (λ (a b : List ℕ). a ≢ b) (sources_of f) (port_names before) port.name _ sources keeps.inputs)) in
      let fault : fault_of dev s (form.In port.pad port.name) ≡ None
      = subst (λ (g : FuseFile). fault_of dev (record { place = s.place; last = s.last; file = g }) (form.In port.pad port.name) ≡ None) (sym at.file)
      (no_fault_in s.place s.last (part_of f before [] [] []) port at.low at.high (free_pad port.pad (length dev.pads) _ low has (not_or (uses_pad port.pad before) false unused refl)) new) in
      let next : FuseState = state_with s (form.In port.pad port.name) in
      let high = at.high in
      let step = line_runs dev s (codes "in") (decimal port.pad ∷ port.name ∷ []) (form.In port.pad port.name)
      (port_without 32 (omega arith) (codes "in") port.pad port.name refl low fine)
      (in_form port.pad port.name low fine) (λ e8. omega (arith, e8, high)) fault in
      line_more dev s next (port_words (codes "in") port) (map (port_words (codes "in")) rest) (AtIns f.ins) step
      (ins_run rest (before ++ port ∷ []) (e ∙ sym (append_assoc before (port ∷ []) rest)) next
      (record { file = ap (λ (g : FuseFile). part_of g (g.ins ++ port ∷ []) g.outs g.starts g.sites) at.file; low = omega arith; high = omega arith }))

  -- the lines of the outputs that are left
  pub outs_run : (rest before : List Port) → f.outs ≡ before ++ rest → (s : FuseState) → AtOuts before s → To dev s (map (port_words (codes "out")) rest) (AtOuts f.outs)
  outs_run [] before e s at = no_lines dev s (AtOuts f.outs) (record { file = at.file ∙ ap (λ (ports : List Port). part_of f f.ins ports [] []) (sym (e ∙ append-nil before)); low = at.low; high = at.high })
  outs_run (port ∷ rest) before e s at =
      let ports : f.ins ++ f.outs ≡ (f.ins ++ before) ++ port ∷ rest = ap (λ (l : List Port). f.ins ++ l) e ∙ sym (append_assoc f.ins before (port ∷ rest)) in
      let split : port_names f.outs ≡ port_names before ++ port.name ∷ port_names rest = ap port_names e ∙ map-append (λ (p : Port). p.name) before (port ∷ rest) in
      let names : names_of f ≡ (port_names f.ins ++ port_names before) ++ port.name ∷ (port_names rest ++ start_names f.starts)
      = ap (λ (l : List (List ℕ)). port_names f.ins ++ l ++ start_names f.starts) split ∙ in_second (port_names before) (port_names rest) (start_names f.starts) (port_names f.ins) port.name in
      let low : port.pad ≤ 65535 = all_at (λ (p : Port). p.pad ≤ 65535) (f.ins ++ f.outs) (f.ins ++ before) port rest ports fits.pads in
      let has : port.pad < length dev.pads = all_at (λ (p : Port). p.pad < length dev.pads) (f.ins ++ f.outs) (f.ins ++ before) port rest ports keeps.pads in
      let unused = any_parts (λ (p : Port). p.pad == port.pad) f.ins before (none_uses port.pad (f.ins ++ before) (pairs_at (λ (a b : Port). a.pad ≢ b.pad) (f.ins ++ f.outs) (f.ins ++ before) port rest ports keeps.once)) in
      let fine = name_of (port_names f.ins ++ port_names before) _ port.name names in
      let new = not_or _ (is_among port.name (port_names before)) (apart_at f.clock (names_of f) (port_names f.ins ++ port_names before) port.name _ names keeps.clock)
      (none_among port.name (port_names before) (pairs_at (λ (a b : List ℕ). a ≢ b) (port_names f.outs) (port_names before) port.name _ split keeps.outputs)) in
      let fault : fault_of dev s (form.Out port.pad port.name) ≡ None
      = subst (λ (g : FuseFile). fault_of dev (record { place = s.place; last = s.last; file = g }) (form.Out port.pad port.name) ≡ None) (sym at.file)
      (no_fault_out s.place s.last (part_of f f.ins before [] []) port at.low at.high (free_pad port.pad (length dev.pads) _ low has unused) new) in
      let next : FuseState = state_with s (form.Out port.pad port.name) in
      let high = at.high in
      let step = line_runs dev s (codes "out") (decimal port.pad ∷ port.name ∷ []) (form.Out port.pad port.name)
      (port_without 32 (omega arith) (codes "out") port.pad port.name refl low fine)
      (out_form port.pad port.name low fine) (λ e8. omega (arith, e8, high)) fault in
      line_more dev s next (port_words (codes "out") port) (map (port_words (codes "out")) rest) (AtOuts f.outs) step
      (outs_run rest (before ++ port ∷ []) (e ∙ sym (append_assoc before (port ∷ []) rest)) next
      (record { file = ap (λ (g : FuseFile). part_of g g.ins (g.outs ++ port ∷ []) g.starts g.sites) at.file; low = omega arith; high = omega arith }))
