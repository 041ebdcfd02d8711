-- Tables of forms, as data. The tables of the code are seen as these.
use Rattle.std.specs.Prelude.{ℕ, List, [], ◌∷◌, map}
use Rattle.std.specs.Borrow.{Bor}
use Rattle.act1_table.specs.declared.forms.Limit.{Limit}
use Rattle.act1_table.specs.declared.forms.Limit.TheVariants.{Most}
use Rattle.act1_table.specs.declared.forms.Part as coded_part
use Rattle.act1_table.specs.declared.forms.Part.TheVariants as part
use Rattle.act1_table.specs.declared.forms.Field as coded_field
use Rattle.act1_table.specs.declared.forms.Field.TheVariants as field
use Rattle.act1_table.specs.declared.forms.Form as coded_form

-- a part of a word: these bytes, or a number
pub data Part : Type 0 where
  Text : (bytes : List ℕ) → Part
  Number : (limit : Limit) → Part

-- what may stand as a word: a name, or a word of one of these ways, whose parts stand one behind the other
pub data Field : Type 0 where
  Name : Field
  OneOf : (ways : List (List Part)) → Field

-- the form of a line: its first words, and each word behind them
pub record Form : Type 0 where
  pub fields : List Field
  pub rest : Field

-- this word and no other
abbrev pub word : List ℕ → Field
word bytes = OneOf ((Text bytes ∷ []) ∷ [])

-- a number of at most this
abbrev pub up_to : ℕ → Field
up_to most = OneOf ((Number (Most most) ∷ []) ∷ [])

-- no word
abbrev pub nothing : Field
nothing = OneOf []

abbrev pub part_of : coded_part.Part → Part
part_of (part.Text text) = Text text.now
part_of (part.Number limit) = Number limit

abbrev pub parts_of : List coded_part.Part → List Part
parts_of parts = map part_of parts

abbrev pub ways_of : List (Bor (List coded_part.Part)) → List (List Part)
ways_of ways = map (λ (way : Bor (List coded_part.Part)). parts_of way.now) ways

abbrev pub field_of : coded_field.Field → Field
field_of field.Name = Name
field_of (field.OneOf ways) = OneOf (ways_of ways.now)

abbrev pub fields_of : List coded_field.Field → List Field
fields_of fields = map field_of fields

abbrev pub form_of : coded_form.Form → Form
form_of form = record { fields = fields_of form.fields.now; rest = field_of form.rest }

-- the table of the code
abbrev pub table_of : List coded_form.Form → List Form
table_of table = map form_of table
