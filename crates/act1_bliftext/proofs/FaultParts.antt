-- The first fault of a line, form by form.
use Rattle.std.proofs.Common.{◌≡◌, ◌||◌, not, nat_lt, Bool, true, false, cond, List, [], ◌∷◌, length, Option, Some, None, refl, ap, ◌∙◌}
use Rattle.std.specs.Option.{option_or, is_none}
use Rattle.std.specs.List.{find}
use Rattle.act1_bliftext.specs.Lines.{Line}
use Rattle.act1_bliftext.specs.Forms.{form_of, latch_start, is_other_latch}
use Rattle.act1_bliftext.specs.Rows.{is_mixed, row_value}
use Rattle.act1_bliftext.specs.Faults.{has_fault, line_kinds, fault_of, is_byte_fault, head_above, rows_above, names_above, has_end, is_later, fits_under}
use Rattle.act1_bliftext.specs.ReadingSteps.{own_fault, place_fault, IsNoRow}
use Rattle.act1_bliftext.specs.declared.form.Form.{Form}
use Rattle.act1_bliftext.specs.declared.form.Form.TheVariants as form
use Rattle.act1_bliftext.specs.declared.fault.BlifKind.{BlifKind}
use Rattle.act1_bliftext.specs.declared.fault.BlifKind.TheVariants as kind

-- a test before other things that may be found
abbrev pub if_so : Bool → BlifKind → Option BlifKind → Option BlifKind
if_so b k rest = cond b (Some k) rest

or_after : (b : Bool) (k : BlifKind) (rest more : Option BlifKind) → if_so b k (option_or rest more) ≡ option_or (if_so b k rest) more
or_after true k rest more = refl
or_after false k rest more = refl

-- the first fault by the form
pub of_form : (above : List Line) (line : Line) (f : Form) → form_of line.first ≡ f → fault_of above line ≡ find (has_fault above f line) line_kinds
unfolding fault_of
of_form above line f is = ap (λ (g : Form). find (has_fault above g line) line_kinds) is

-- a fault of the bytes is the first
pub byte_first : (above : List Line) (line : Line) → is_byte_fault line.first line.rest ≡ true → fault_of above line ≡ Some kind.Byte
unfolding fault_of
byte_first above line h = ap (λ (b : Bool). if_so b kind.Byte (find (has_fault above (form_of line.first) line) (kind.Word ∷ kind.Shape ∷ kind.Row ∷ kind.Mixed ∷ kind.LatchKind ∷ kind.Init ∷ kind.After ∷ kind.Limit ∷ []))) h

abbrev behind_byte : List Line → Form → Line → Option BlifKind
behind_byte above f line = find (has_fault above f line) (kind.Word ∷ kind.Shape ∷ kind.Row ∷ kind.Mixed ∷ kind.LatchKind ∷ kind.Init ∷ kind.After ∷ kind.Limit ∷ [])

no_byte : (above : List Line) (line : Line) (f : Form) → is_byte_fault line.first line.rest ≡ false → find (has_fault above f line) line_kinds ≡ behind_byte above f line
no_byte above line f h = ap (λ (b : Bool). if_so b kind.Byte (behind_byte above f line)) h

-- its own faults, and then those of its place
abbrev pub parts : List Line → Form → Line → Option BlifKind
parts above f line = option_or (own_fault f line.rest) (place_fault f (is_later above) (has_end above) (names_above above) line.rest)

in_parts : (above : List Line) (line : Line) (f : Form) → IsNoRow f → behind_byte above f line ≡ parts above f line
in_parts above line form.Model h = or_after (nat_lt 1 (length line.rest)) kind.Shape None (place_fault form.Model (is_later above) (has_end above) (names_above above) line.rest)
in_parts above line form.Inputs h = refl
in_parts above line form.Outputs h = refl
in_parts above line form.Clock h = refl
in_parts above line form.Names h = or_after (nat_lt (length line.rest) 1) kind.Shape None (place_fault form.Names (is_later above) (has_end above) (names_above above) line.rest)
in_parts above line form.Latch h =
    let place = place_fault form.Latch (is_later above) (has_end above) (names_above above) line.rest in
    let long = nat_lt (length line.rest) 2 || nat_lt 5 (length line.rest) in
    let other = is_other_latch line.rest in
    let start = is_none (latch_start line.rest) in
    ap (λ (r : Option BlifKind). if_so long kind.Shape (if_so other kind.LatchKind r)) (or_after start kind.Init None place)
    ∙ ap (λ (r : Option BlifKind). if_so long kind.Shape r) (or_after other kind.LatchKind (if_so start kind.Init None) place)
    ∙ or_after long kind.Shape (if_so other kind.LatchKind (if_so start kind.Init None)) place
in_parts above line form.End h = or_after (nat_lt 0 (length line.rest)) kind.Shape None (place_fault form.End (is_later above) (has_end above) (names_above above) line.rest)
in_parts above line form.Unknown h = refl
in_parts above line form.Row h = elim h [ ]

-- a line that is no row has its own faults first, and then those of its place
pub of_no_row : (above : List Line) (line : Line) (f : Form) → form_of line.first ≡ f → IsNoRow f → is_byte_fault line.first line.rest ≡ false → fault_of above line ≡ parts above f line
of_no_row above line f is h byte = of_form above line f is ∙ no_byte above line f byte ∙ in_parts above line f h

-- a row
pub of_row : (above : List Line) (line : Line) → form_of line.first ≡ form.Row → is_byte_fault line.first line.rest ≡ false
    → fault_of above line ≡ if_so (not (fits_under (head_above above) line.first line.rest)) kind.Row (if_so (is_mixed (rows_above above) (row_value line)) kind.Mixed (if_so (has_end above) kind.After None))
of_row above line is byte = of_form above line form.Row is ∙ no_byte above line form.Row byte
