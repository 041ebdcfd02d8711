-- A line that is no row.
use Rattle.std.proofs.Common.{ℕ, ◌≡◌, ◌≤◌, ◌||◌, Bool, true, false, cond, List, [], ◌∷◌, Option, Some, None, Result, Ok, Err, IfOk, refl, ap, sym, ◌∙◌, arith}
use Rattle.std.specs.Option.{option_or}
use Rattle.act1_base.specs.declared.texts.Stop.{Stop}
use Rattle.act1_base.specs.declared.texts.Stop.TheVariants.{Fault, Memory}
use Rattle.act1_bliftext.specs.Lines.{Line}
use Rattle.act1_bliftext.specs.Forms.{form_of, names_by}
use Rattle.act1_bliftext.specs.Tables.{with_names}
use Rattle.act1_bliftext.specs.Faults.{names_above, has_end, is_later, is_byte_fault, is_after_fault, is_end_form}
use Rattle.act1_bliftext.specs.Statements.{AreSaid, blocks_above, model_of, model_by}
use Rattle.act1_bliftext.specs.ReadingSteps.{IsRead, IsClosed, IsNoRow, FormGives, Adds, IsOpened, TakesLine, Stands, own_fault, place_fault, rest_fault, model_after, open_marks, mark_count}
use Rattle.act1_bliftext.specs.declared.form.Form.{Form}
use Rattle.act1_bliftext.specs.declared.form.Form.TheVariants as form
use Rattle.act1_bliftext.specs.declared.fault.BlifKind.{BlifKind}
use Rattle.act1_bliftext.specs.declared.fault.BlifKind.TheVariants as kind
use Rattle.act1_bliftext.specs.declared.open_names.OpenNames.{OpenNames}
use Rattle.act1_bliftext.specs.declared.reading.Reading.{Reading}
use Rattle.act1_bliftext.proofs.FaultParts.{of_no_row, parts}
use Rattle.act1_bliftext.proofs.Blocks.{closes_said, stands_quiet, stands_said, stands_names}

-- the reading's fields are those of the lines above
rest_is : (above : List Line) (line : Line) (old closed : Reading) (f : Form) → IsRead above old → IsClosed old closed → rest_fault f closed line.rest ≡ parts above f line
rest_is above line old closed f r c =
    let own = own_fault f line.rest in
    ap (λ (b : Bool). option_or own (place_fault f b closed.has_ended closed.names line.rest)) (c.later ∙ r.later)
    ∙ ap (λ (b : Bool). option_or own (place_fault f (is_later above) b closed.names line.rest)) (c.ended ∙ r.ended)
    ∙ ap (λ (ns : List (List ℕ)). option_or own (place_fault f (is_later above) (has_end above) ns line.rest)) (c.names ∙ r.names)

pub none_behind : (own place : Option BlifKind) → option_or own place ≡ None → place ≡ None
none_behind None place h = h
none_behind (Some k) place h = cc

pub not_so : (b : Bool) (k : BlifKind) (rest : Option BlifKind) → cond b (Some k) rest ≡ None → b ≡ false
not_so true k rest h = cc
not_so false k rest h = refl

pub not_after : (above : List Line) (line : Line) (f : Form) → parts above f line ≡ None → is_after_fault f (is_later above) (has_end above) ≡ false
not_after above line f h = not_so (is_after_fault f (is_later above) (has_end above)) kind.After _ (none_behind (own_fault f line.rest) (place_fault f (is_later above) (has_end above) (names_above above) line.rest) h)

first_model : (f : Form) (rest : List (List ℕ)) → model_after f rest None ≡ model_by f rest
first_model form.Model rest = refl
first_model form.Inputs rest = refl
first_model form.Outputs rest = refl
first_model form.Clock rest = refl
first_model form.Names rest = refl
first_model form.Latch rest = refl
first_model form.End rest = refl
first_model form.Unknown rest = refl
first_model form.Row rest = refl

later_model : (f : Form) (rest : List (List ℕ)) (old : Option (List ℕ)) (ended : Bool) → is_after_fault f true ended ≡ false → model_after f rest old ≡ old
later_model form.Model rest old ended h = cc
later_model form.Inputs rest old ended h = refl
later_model form.Outputs rest old ended h = refl
later_model form.Clock rest old ended h = refl
later_model form.Names rest old ended h = refl
later_model form.Latch rest old ended h = refl
later_model form.End rest old ended h = refl
later_model form.Unknown rest old ended h = refl
later_model form.Row rest old ended h = refl

model_next : (above : List Line) (line : Line) (f : Form) (old : Option (List ℕ)) → form_of line.first ≡ f → is_after_fault f (is_later above) (has_end above) ≡ false → old ≡ model_of above
    → model_after f line.rest old ≡ model_of (line ∷ above)
model_next [] line f old is h m = ap (model_after f line.rest) m ∙ first_model f line.rest ∙ ap (λ (g : Form). model_by g line.rest) (sym is)
model_next (n ∷ above) line f old is h m = later_model f line.rest old (has_end (n ∷ above)) h ∙ m

-- what becomes of the statements
stands_form : (above : List Line) (line : Line) (f : Form) (closed new : Reading) → form_of line.first ≡ f → IsNoRow f → is_after_fault f (is_later above) (has_end above) ≡ false
    → new.names ≡ names_above (line ∷ above) → AreSaid (names_above above) (blocks_above above) closed.statements → Adds f line.number line.rest closed new
    → Stands (line ∷ above) (names_above (line ∷ above)) new.statements new.open_names
stands_form above line form.Model closed new is h after known said added = stands_quiet above line form.Model closed.statements new.statements new.open_names is refl refl refl said added.0 added.1
stands_form above line form.Inputs closed new is h after known said added = stands_said above line form.Inputs closed.statements new.statements new.open_names new.names is refl refl refl known said added.0 added.1
stands_form above line form.Outputs closed new is h after known said added = stands_said above line form.Outputs closed.statements new.statements new.open_names new.names is refl refl refl known said added.0 added.1
stands_form above line form.Clock closed new is h after known said added = stands_said above line form.Clock closed.statements new.statements new.open_names new.names is refl refl refl known said added.0 added.1
stands_form above line form.Names closed new is h after known said added = stands_names above line closed.statements new.statements new.open_names new.names is after known said added.0 added.1
stands_form above line form.Latch closed new is h after known said added = stands_said above line form.Latch closed.statements new.statements new.open_names new.names is refl refl refl known said added.0 added.1
stands_form above line form.End closed new is h after known said added = stands_quiet above line form.End closed.statements new.statements new.open_names is refl refl refl said added.0 added.1
stands_form above line form.Unknown closed new is h after known said added = stands_quiet above line form.Unknown closed.statements new.statements new.open_names is refl refl refl said added.0 added.1
stands_form above line form.Row closed new is h after known said added = elim h [ ]

-- the reading after the line is that of the lines with it
pub takes_form : (above : List Line) (line : Line) (f : Form) (old closed : Reading) (result : Result Reading (Stop BlifKind)) → IsRead above old → IsClosed old closed → form_of line.first ≡ f → IsNoRow f
    → is_byte_fault line.first line.rest ≡ false → FormGives f line.number line.rest closed result → TakesLine above line result
takes_form above line f old closed (Ok new) r c is h byte gives =
    let faultless : parts above f line ≡ None = sym (rest_is above line old closed f r c) ∙ gives.0 in
    let after = not_after above line f faultless in
    let known : new.names ≡ names_above (line ∷ above) = gives.1.names ∙ ap (λ (ns : List (List ℕ)). with_names ns (names_by f line.rest)) (c.names ∙ r.names)
    ∙ ap (λ (g : Form). with_names (names_above above) (names_by g line.rest)) (sym is) in
    let said = closes_said above (names_above above) old.statements closed.statements old.open_names r.said c.said in (
      of_no_row above line f is h byte ∙ faultless,
      record {
        model = gives.1.model ∙ model_next above line f closed.model is after (c.model ∙ r.model);
        names = known;
        later = gives.1.later;
        ended = gives.1.ended ∙ ap (λ (b : Bool). is_end_form f || b) (c.ended ∙ r.ended) ∙ ap (λ (g : Form). is_end_form g || has_end above) (sym is);
        said = stands_form above line f closed new is h after known said gives.1.said;
      },
    )
takes_form above line f old closed (Err (Fault k)) r c is h byte gives = of_no_row above line f is h byte ∙ sym (rest_is above line old closed f r c) ∙ gives
takes_form above line f old closed (Err Memory) r c is h byte gives = tt

none_open : (o : Option OpenNames) (n : ℕ) → o ≡ None → open_marks o ≤ n
none_open None n h = omega arith
none_open (Some names) n h = cc

opened_marks : (names : List (List ℕ)) (number : ℕ) (rest : List (List ℕ)) (o : Option OpenNames) (n : ℕ) → IsOpened names number rest o → open_marks o ≤ n
opened_marks names number rest None n h = elim h [ ]
opened_marks names number rest (Some o) n h = let none : mark_count o.rows ≡ 0 = ap mark_count h.rows in omega arith

form_marks : (f : Form) (number : ℕ) (rest : List (List ℕ)) (closed new : Reading) (n : ℕ) → IsNoRow f → Adds f number rest closed new → open_marks new.open_names ≤ n
form_marks form.Model number rest closed new n h a = none_open new.open_names n a.1
form_marks form.Inputs number rest closed new n h a = none_open new.open_names n a.1
form_marks form.Outputs number rest closed new n h a = none_open new.open_names n a.1
form_marks form.Clock number rest closed new n h a = none_open new.open_names n a.1
form_marks form.Names number rest closed new n h a = opened_marks new.names number rest new.open_names n a.1
form_marks form.Latch number rest closed new n h a = none_open new.open_names n a.1
form_marks form.End number rest closed new n h a = none_open new.open_names n a.1
form_marks form.Unknown number rest closed new n h a = none_open new.open_names n a.1
form_marks form.Row number rest closed new n h a = elim h [ ]

-- no mark is left open
pub gives_marks : (f : Form) (number : ℕ) (rest : List (List ℕ)) (closed : Reading) (result : Result Reading (Stop BlifKind)) (n : ℕ) → IsNoRow f → FormGives f number rest closed result → IfOk result (λ r. open_marks r.open_names ≤ n)
gives_marks f number rest closed (Ok new) n h gives = form_marks f number rest closed new n h gives.1.said
gives_marks f number rest closed (Err stop) n h gives = tt

-- a form that isn't that of a row
pub no_row : (f : Form) → (f ≡ form.Row → ⊥) → IsNoRow f
no_row form.Row h = h refl
no_row form.Model h = tt
no_row form.Inputs h = tt
no_row form.Outputs h = tt
no_row form.Clock h = tt
no_row form.Names h = tt
no_row form.Latch h = tt
no_row form.End h = tt
no_row form.Unknown h = tt
