-- The names that lines gave, kept in tables.
use Rattle.std.proofs.Common.{ℕ, ◌≡◌, nat_lt, Bool, true, false, true≢false, not, ◌||◌, ◌&&◌, List, [], ◌∷◌, Some, None, Result, Ok, Err, IfOk, refl, sym, ap, ◌∙◌}
use Rattle.std.specs.Bool.{⊤}
use Rattle.std.specs.List.{list_any}
use Rattle.std.specs.Str.{bytes_eq}
use Rattle.std.proofs.lemmas.List.{map-append}
use Rattle.std.proofs.lemmas.Slice.Eq.{bytes_eq-Decides}
use Rattle.act1_base.specs.declared.texts.Stop.{Stop}
use Rattle.act1_device.specs.declared.device.Device.{Device}
use Rattle.act1_fuses.specs.declared.fault.FuseKind.{FuseKind}
use Rattle.act1_fuses.specs.declared.fault.FuseKind.TheVariants as kind
use Rattle.act1_fuses.specs.declared.form.FuseLine.{FuseLine}
use Rattle.act1_fuses.specs.declared.form.FuseLine.TheVariants as form
use Rattle.act1_fuses.specs.declared.form.FuseState.{FuseState}
use Rattle.act1_fuses.specs.declared.fuses.FuseFile.{FuseFile}
use Rattle.act1_fuses.specs.declared.fuses.Port.{Port}
use Rattle.act1_fuses.specs.declared.fuses.StartAt.{StartAt}
use Rattle.act1_fuses.specs.declared.given.GivenNames.{GivenNames}
use Rattle.act1_fuses.specs.Given.{given_of, is_own_name, given_with, is_among, is_clock}
use Rattle.act1_fuses.specs.Reading.{is_free_pad, may_follow, comes_after, rules_of, fault_of, file_with, step}
use Rattle.act1_fuses.specs.ReadingSteps.{Takes}
use Rattle.act1_fuses.specs.Rules.{port_names, start_names}
use Rattle.act1_fuses.proofs.ReadStates.{passed, stepped}

-- equality of names is the same both ways
turned_test : (a b : List ℕ) (p q : Bool) → bytes_eq a b ≡ p → bytes_eq b a ≡ q → p ≡ q
turned_test a b true true e h = refl
turned_test a b false false e h = refl
turned_test a b true false e h = absurd (true≢false (sym ((bytes_eq-Decides b a).1 (sym ((bytes_eq-Decides a b).0 e))) ∙ h))
turned_test a b false true e h = absurd (true≢false (sym ((bytes_eq-Decides a b).1 (sym ((bytes_eq-Decides b a).0 h))) ∙ e))

-- a name is looked for from either side
pub turned : (name : List ℕ) (names : List (List ℕ)) → list_any (bytes_eq name) names ≡ is_among name names
turned name [] = refl
turned name (other ∷ names) = ap (λ (b : Bool). b || list_any (bytes_eq name) names) (turned_test name other (bytes_eq name other) (bytes_eq other name) refl refl) ∙ ap (λ (b : Bool). bytes_eq other name || b) (turned name names)

-- the names of a file with a line more
given_more : (f : FuseFile) (line : FuseLine) → given_of (file_with f line) ≡ given_with (given_of f) line
given_more f form.Header = refl
given_more f (form.Device name) = refl
given_more f (form.Clock name) = refl
given_more f (form.In pad name) = ap (λ (l : List (List ℕ)). record (given_of f) { ins = l }) (map-append (λ (port : Port). port.name) f.ins (record { pad = pad; name = name } ∷ []))
given_more f (form.Out pad name) = ap (λ (l : List (List ℕ)). record (given_of f) { outs = l }) (map-append (λ (port : Port). port.name) f.outs (record { pad = pad; name = name } ∷ []))
given_more f (form.Start row column init name) =
    ap (λ (l : List (List ℕ)). record (given_of f) { starts = l }) (map-append (λ (start : StartAt). start.name) f.starts (record { spot = record { row = row; column = column }; init = init; name = name } ∷ []))
given_more f (form.Fuse numbers None) = refl
given_more f (form.Fuse numbers (Some site)) = refl
given_more f form.End = refl

module _ (dev : Device) (s : FuseState) where
  -- a line without a fault gives a name of its own
  own_name : (line : FuseLine) → fault_of dev s line ≡ None → is_own_name (given_of s.file) s.file.clock line ≡ true
  own_name (form.In pad name) h =
      let free = not (is_clock s.file.clock name || is_among name (port_names s.file.ins)) in
      let p = passed (may_follow s.place 4) kind.Order (rules_of dev s (form.In pad name)) h in
      let q = passed (is_free_pad dev s.file pad) kind.Pad ((free, kind.Name) ∷ []) p.1 in
      (passed free kind.Name [] q.1).0
  own_name (form.Out pad name) h =
      let free = not (is_clock s.file.clock name || is_among name (port_names s.file.outs)) in
      let p = passed (may_follow s.place 5) kind.Order (rules_of dev s (form.Out pad name)) h in
      let q = passed (is_free_pad dev s.file pad) kind.Pad ((free, kind.Name) ∷ []) p.1 in
      (passed free kind.Name [] q.1).0
  own_name (form.Start row column init name) h =
      let on = nat_lt row dev.rows && nat_lt column dev.columns in
      let free = not (is_clock s.file.clock name || is_among name (port_names s.file.ins) || is_among name (start_names s.file.starts)) in
      let p = passed (may_follow s.place 6) kind.Order (rules_of dev s (form.Start row column init name)) h in
      let q = passed (comes_after s 6 (row ∷ column ∷ [])) kind.Order ((on, kind.Site) ∷ (free, kind.Name) ∷ []) p.1 in
      let r = passed on kind.Site ((free, kind.Name) ∷ []) q.1 in
      (passed free kind.Name [] r.1).0
  own_name form.Header h = refl
  own_name (form.Device name) h = refl
  own_name (form.Clock name) h = refl
  own_name (form.Fuse numbers site) h = refl
  own_name form.End h = refl

  -- the names of the tables go on with the file
  pub names_go_on : (line : FuseLine) (t : FuseState) (is_own : Bool) (old new : GivenNames) → old ≡ given_of s.file → is_own ≡ is_own_name old s.file.clock line
      → (is_own ≡ true → new ≡ given_with old line) → step dev s line ≡ Ok t → new ≡ given_of t.file
  names_go_on line t is_own old new kept own more h =
      let next = stepped dev s t line (fault_of dev s line) refl h in
      let is_true : is_own ≡ true = own ∙ ap (λ (g : GivenNames). is_own_name g s.file.clock line) kept ∙ own_name line next.0 in
      more is_true ∙ ap (λ (g : GivenNames). given_with g line) kept ∙ sym (given_more s.file line) ∙ ap (λ (u : FuseState). given_of u.file) next.1

  -- the same after a call, which may have been refused
  pub names_after : (line : FuseLine) (t : FuseState) (is_own : Bool) (old new : GivenNames) (result : Result ⊤ (Stop FuseKind)) → old ≡ given_of s.file → is_own ≡ is_own_name old s.file.clock line
      → (is_own ≡ true → new ≡ given_with old line) → Takes (step dev s line) t result → IfOk result (λ (done : ⊤). new ≡ given_of t.file)
  names_after line t is_own old new (Ok done) kept own more h = names_go_on line t is_own old new kept own more h
  names_after line t is_own old new (Err stop) kept own more h = tt
