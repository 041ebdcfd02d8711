-- A row.
use Rattle.std.proofs.Common.{ℕ, ◌≡◌, ◌+◌, ◌-◌, ◌≤◌, ◌||◌, not, Bool, true, false, if◌then◌else◌, ◌⊎◌, inl, inr, List, [], ◌∷◌, ◌++◌, length, map, Option, Some, None, Result, Ok, Err, IfOk, OnOk, refl, ap, sym, subst, ◌∙◌, arith, length-append}
use Rattle.std.proofs.lemmas.List.{length-map, map-append}
use Rattle.std.specs.Prelude.{slice_get}
use Rattle.act1_base.specs.declared.texts.Stop.{Stop}
use Rattle.act1_base.specs.declared.texts.Stop.TheVariants.{Fault, Memory}
use Rattle.act1_logic.specs.declared.cover.Mark.{Mark}
use Rattle.act1_logic.specs.declared.cover.Row.{Row}
use Rattle.act1_bliftext.specs.Lines.{Line}
use Rattle.act1_bliftext.specs.Forms.{form_of, names_by}
use Rattle.act1_bliftext.specs.Rows.{is_row_of, is_one, value_by, marks_by, mark_of, row_value, row_marks, is_mixed, output_of, differ}
use Rattle.act1_bliftext.specs.Tables.{with_names, AreNumbersOf}
use Rattle.act1_bliftext.specs.Faults.{names_above, has_end, is_byte_fault, is_end_form, is_row_form, fault_of, fits_under, fits_form, head_above, rows_above}
use Rattle.act1_bliftext.specs.Statements.{AreSaid, earlier_blocks, model_of, marks_in}
use Rattle.act1_bliftext.specs.ReadingSteps.{left, IsRead, TakesLine, Stands, IsOpen, OpenSays, RowAdded, RowGives, HasRow, UnderGives, mixes, value_after, takes_rows, is_names_form, open_marks}
use Rattle.act1_bliftext.specs.declared.form.Form.{Form}
use Rattle.act1_bliftext.specs.declared.form.Form.TheVariants as form
use Rattle.act1_bliftext.specs.declared.fault.BlifKind.{BlifKind}
use Rattle.act1_bliftext.specs.declared.fault.BlifKind.TheVariants as kind
use Rattle.act1_bliftext.specs.declared.open_names.OpenNames.{OpenNames}
use Rattle.act1_bliftext.specs.declared.reading.Reading.{Reading}
use Rattle.act1_bliftext.proofs.FaultParts.{of_row, if_so}

-- there are as many numbers as names
pub as_many : (names : List (List ℕ)) (numbers : List ℕ) (words : List (List ℕ)) → AreNumbersOf names numbers words → length numbers ≡ length words
as_many names numbers words h = sym (length-map numbers (slice_get names)) ∙ ap length h ∙ length-map words Some

-- why a row is refused
abbrev Refused : OpenNames → List ℕ → List (List ℕ) → BlifKind → Type 0
Refused n first rest k =
    ((k ≡ kind.Row) × (is_row_of (length n.inputs) first rest ≡ false))
    ⊎ ((k ≡ kind.Mixed) × (is_row_of (length n.inputs) first rest ≡ true) × (mixes n.rows n.value (is_one (value_by first rest)) ≡ true))

row_stops : (n : OpenNames) (first : List ℕ) (rest : List (List ℕ)) (k : BlifKind) → RowGives n first rest (Err (Fault k)) → Refused n first rest k
row_stops n first [] kind.Row h = inl (refl, h)
row_stops n first [] kind.Mixed h = inr (refl, h.0, h.1)
row_stops n first [] k h = elim h [ ]
row_stops n first (value ∷ []) kind.Row h = inl (refl, h)
row_stops n first (value ∷ []) kind.Mixed h = inr (refl, h.0, h.1)
row_stops n first (value ∷ []) k h = elim h [ ]
row_stops n first (value ∷ more ∷ rest) k h = inl (cc, refl)

-- what a row adds
abbrev Added : OpenNames → List ℕ → List (List ℕ) → OpenNames → Type 0
Added n first rest new =
    (is_row_of (length n.inputs) first rest ≡ true) × (mixes n.rows n.value (is_one (value_by first rest)) ≡ false) × HasRow n (map mark_of (marks_by first rest)) (is_one (value_by first rest)) new

row_adds : (n new : OpenNames) (first : List ℕ) (rest : List (List ℕ)) → RowGives n first rest (Ok new) → Added n first rest new
row_adds n new first [] h = h
row_adds n new first (value ∷ []) h = h
row_adds n new first (value ∷ more ∷ rest) h = elim h [ ]

-- the first of the rows so far
pub mixes_is : (rows : List Row) (lines : List Line) (value v : Bool) → marks_in rows ≡ map row_marks lines → value ≡ output_of lines → mixes rows value v ≡ is_mixed lines v
mixes_is [] [] value v h k = refl
mixes_is [] (x ∷ lines) value v h k = cc
mixes_is (r ∷ rows) [] value v h k = cc
mixes_is (r ∷ rows) (x ∷ lines) value v h k = ap (λ (b : Bool). differ b v) k

value_is : (rows : List Row) (lines : List Line) (line : Line) (value : Bool) → marks_in rows ≡ map row_marks lines → value ≡ output_of lines → value_after rows value (row_value line) ≡ output_of (lines ++ line ∷ [])
value_is [] [] line value h k = refl
value_is [] (x ∷ lines) line value h k = cc
value_is (r ∷ rows) [] line value h k = cc
value_is (r ∷ rows) (x ∷ lines) line value h k = k

-- where no row may stand
no_row_fits : (f : Form) (width : ℕ) (first : List ℕ) (rest : List (List ℕ)) → is_names_form f ≡ false → fits_form f width first rest ≡ false
no_row_fits form.Names width first rest h = cc
no_row_fits form.Model width first rest h = refl
no_row_fits form.Inputs width first rest h = refl
no_row_fits form.Outputs width first rest h = refl
no_row_fits form.Clock width first rest h = refl
no_row_fits form.Latch width first rest h = refl
no_row_fits form.End width first rest h = refl
no_row_fits form.Unknown width first rest h = refl
no_row_fits form.Row width first rest h = refl

pub none_fits : (head : Option Line) (first : List ℕ) (rest : List (List ℕ)) → takes_rows head ≡ false → fits_under head first rest ≡ false
none_fits None first rest h = refl
none_fits (Some head) first rest h = no_row_fits (form_of head.first) (length head.rest - 1) first rest h

width_is : (names : List (List ℕ)) (head : Line) (rows : List Line) (n : OpenNames) → OpenSays names head rows n → length head.rest - 1 ≡ length n.inputs
width_is names head rows n s =
    let many = as_many names (n.inputs ++ n.output ∷ []) head.rest s.numbers in
    omega (arith, length-append n.inputs (n.output ∷ []))

-- under an open `.names` its inputs decide
pub fits_is : (above : List Line) (names : List (List ℕ)) (n : OpenNames) (first : List ℕ) (rest : List (List ℕ)) → IsOpen above names n → fits_under (head_above above) first rest ≡ is_row_of (length n.inputs) first rest
fits_is above names n first rest o =
    ap (λ (h : Option Line). fits_under h first rest) o.is_head
    ∙ ap (λ (f : Form). fits_form f (length o.head.rest - 1) first rest) o.says.form
    ∙ ap (λ (w : ℕ). is_row_of w first rest) (width_is names o.head (rows_above above) n o.says)

model_row : (above : List Line) (line head : Line) → head_above above ≡ Some head → model_of (line ∷ above) ≡ model_of above
model_row [] line head h = cc
model_row (n ∷ above) line head h = refl

-- the output character of a row is 1
abbrev pub value_of_row : Line → Bool
value_of_row line = is_one (value_by line.first line.rest)

module _ (above : List Line) (line : Line) (is : form_of line.first ≡ form.Row) (byte : is_byte_fault line.first line.rest ≡ false) where
  mixed_is : (n : OpenNames) → IsOpen above (names_above above) n → mixes n.rows n.value (value_of_row line) ≡ is_mixed (rows_above above) (row_value line)
  mixed_is n o = mixes_is n.rows (rows_above above) n.value (value_of_row line) o.says.rows o.says.value

  refused : (n : OpenNames) (k : BlifKind) → IsOpen above (names_above above) n → Refused n line.first line.rest k → fault_of above line ≡ Some k
  refused n k o (inl (k_is, fails)) =
      of_row above line is byte
      ∙ ap (λ (b : Bool). if_so (not b) kind.Row (if_so (is_mixed (rows_above above) (row_value line)) kind.Mixed (if_so (has_end above) kind.After None))) (fits_is above (names_above above) n line.first line.rest o ∙ fails)
      ∙ ap Some (sym k_is)
  refused n k o (inr (k_is, fits, mixed)) =
      of_row above line is byte
      ∙ ap (λ (b : Bool). if_so (not b) kind.Row (if_so (is_mixed (rows_above above) (row_value line)) kind.Mixed (if_so (has_end above) kind.After None))) (fits_is above (names_above above) n line.first line.rest o ∙ fits)
      ∙ ap (λ (b : Bool). if_so b kind.Mixed (if_so (has_end above) kind.After None)) (sym (mixed_is n o) ∙ mixed)
      ∙ ap Some (sym k_is)

  faultless : (n : OpenNames) → IsOpen above (names_above above) n → is_row_of (length n.inputs) line.first line.rest ≡ true → mixes n.rows n.value (value_of_row line) ≡ false → fault_of above line ≡ None
  faultless n o fits mixed =
      of_row above line is byte
      ∙ ap (λ (b : Bool). if_so (not b) kind.Row (if_so (is_mixed (rows_above above) (row_value line)) kind.Mixed (if_so (has_end above) kind.After None))) (fits_is above (names_above above) n line.first line.rest o ∙ fits)
      ∙ ap (λ (b : Bool). if_so b kind.Mixed (if_so (has_end above) kind.After None)) (sym (mixed_is n o) ∙ mixed)
      ∙ ap (λ (b : Bool). if_so b kind.After None) o.running

  pub same_names : names_above (line ∷ above) ≡ names_above above
  same_names = ap (λ (f : Form). with_names (names_above above) (names_by f line.rest)) is

  rows_more : rows_above (line ∷ above) ≡ rows_above above ++ line ∷ []
  rows_more = ap (λ (f : Form). if is_row_form f then rows_above above ++ line ∷ [] else []) is

  head_same : head_above (line ∷ above) ≡ head_above above
  head_same = ap (λ (f : Form). if is_row_form f then head_above above else Some line) is

  pub earlier_same : earlier_blocks (line ∷ above) ≡ earlier_blocks above
  earlier_same = rw is refl

  still_says : (n new : OpenNames) (head : Line) → OpenSays (names_above above) head (rows_above above) n → HasRow n (row_marks line) (value_of_row line) new → OpenSays (names_above above) head (rows_above above ++ line ∷ []) new
  still_says n new head s h = record {
    line = h.line ∙ s.line;
    form = s.form;
    numbers = rw (h.inputs, h.output) s.numbers;
    value = h.value ∙ value_is n.rows (rows_above above) line n.value s.rows s.value;
    rows = h.rows ∙ ap (λ (ms : List (List Mark)). ms ++ row_marks line ∷ []) s.rows ∙ sym (map-append row_marks (rows_above above) (line ∷ []));
  }

  pub still_open : (n new : OpenNames) → IsOpen above (names_above above) n → HasRow n (row_marks line) (value_of_row line) new → IsOpen (line ∷ above) (names_above (line ∷ above)) new
  still_open n new o h = record {
    head = o.head;
    is_head = head_same ∙ o.is_head;
    running = rw is o.running;
    says = rw (same_names, rows_more) (still_says n new o.head o.says h);
  }

module _ (above : List Line) (line : Line) (old : Reading) (is : form_of line.first ≡ form.Row) (byte : is_byte_fault line.first line.rest ≡ false) (r : IsRead above old) where
  row_ok : (n : OpenNames) (new : Reading) → AreSaid (names_above above) (earlier_blocks above) old.statements → IsOpen above (names_above above) n → RowAdded n line.first line.rest old new → TakesLine above line (Ok new)
  row_ok n new said o added =
      let adds = row_adds n added.names_now line.first line.rest added.row in (
        faultless above line is byte n o adds.0 adds.1,
        record {
          model = added.model ∙ r.model ∙ sym (model_row above line o.head o.is_head);
          names = added.names ∙ r.names ∙ sym (same_names above line is byte);
          later = added.later;
          ended = added.ended ∙ r.ended ∙ ap (λ (f : Form). is_end_form f || has_end above) (sym is);
          said = subst (λ (p : Option OpenNames). Stands (line ∷ above) (names_above (line ∷ above)) new.statements p) (sym added.is_open)
              (rw (same_names above line is byte, earlier_same above line is byte, added.statements) said, still_open above line is byte n added.names_now o adds.2);
        },
      )

  row_taken : (p : Option OpenNames) (result : Result Reading (Stop BlifKind)) → Stands above (names_above above) old.statements p → UnderGives p line.first line.rest old result → TakesLine above line result
  row_taken None result stands gives =
      subst (λ (q : Result Reading (Stop BlifKind)). TakesLine above line q) (sym gives)
      (of_row above line is byte ∙ ap (λ (b : Bool). if_so (not b) kind.Row (if_so (is_mixed (rows_above above) (row_value line)) kind.Mixed (if_so (has_end above) kind.After None))) (none_fits (head_above above) line.first line.rest stands.1))
  row_taken (Some n) (Ok new) stands gives = row_ok n new stands.0 stands.1 gives
  row_taken (Some n) (Err (Fault k)) stands gives = refused above line is byte n k stands.1 (row_stops n line.first line.rest k gives)
  row_taken (Some n) (Err Memory) stands gives = tt

-- the reading after a row is that of the lines with it
pub takes_row : (above : List Line) (line : Line) (old : Reading) (result : Result Reading (Stop BlifKind)) → IsRead above old → form_of line.first ≡ form.Row → is_byte_fault line.first line.rest ≡ false
    → UnderGives old.open_names line.first line.rest old result → TakesLine above line result
takes_row above line old result r is byte gives = row_taken above line old is byte r old.open_names result r.said gives

marks_fit : (first : List ℕ) (rest : List (List ℕ)) → length (map mark_of (marks_by first rest)) ≤ length first
marks_fit first [] = omega arith
marks_fit first (value ∷ rest) = omega (arith, length-map first mark_of)

under_marks : (p : Option OpenNames) (first : List ℕ) (rest : List (List ℕ)) (old : Reading) (result : Result Reading (Stop BlifKind)) → UnderGives p first rest old result → IfOk result (λ r. open_marks r.open_names ≤ open_marks p + length first)
under_marks None first rest old (Ok new) h = cc
under_marks None first rest old (Err stop) h = tt
under_marks (Some n) first rest old (Ok new) h =
    let count = (row_adds n h.names_now first rest h.row).2.count in
    let few = marks_fit first rest in
    let is = ap open_marks h.is_open in
    omega (arith, count, few, is)
under_marks (Some n) first rest old (Err stop) h = tt

-- a row adds no more marks than it has bytes
-- what holds of a state that was changed in its place
pub holds_of : {State Stopped : Type 0} (P : State → Type 0) (new : State) (result : Result (Unit {0}) Stopped) → IfOk (left new result) P → OnOk result (P new)
holds_of P new (Ok done) h = h
holds_of P new (Err stop) h = tt

pub row_marks_fit : (first : List ℕ) (rest : List (List ℕ)) (old : Reading) (result : Result Reading (Stop BlifKind)) → UnderGives old.open_names first rest old result → IfOk result (λ r. open_marks r.open_names ≤ open_marks old.open_names + length first)
row_marks_fit first rest old result h = under_marks old.open_names first rest old result h

-- what a row gives under an open `.names`
pub under_open : (p : Option OpenNames) (n now : OpenNames) (first : List ℕ) (rest : List (List ℕ)) (old new : Reading) → p ≡ Some n → new.open_names ≡ Some now → RowGives n first rest (Ok now)
    → new.model ≡ old.model → new.names ≡ old.names → new.statements ≡ old.statements → new.is_later ≡ true → new.has_ended ≡ old.has_ended → UnderGives p first rest old (Ok new)
under_open p n now first rest old new is is_open row model names statements later ended =
    subst (λ (q : Option OpenNames). UnderGives q first rest old (Ok new)) (sym is)
    (record { names_now = now; is_open = is_open; row = row; model = model; names = names; statements = statements; later = later; ended = ended })
