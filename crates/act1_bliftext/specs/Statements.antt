-- What the lines of a BLIF text say. Lines above are listed from the nearest to the first.
use Rattle.std.specs.Prelude.{ℕ, ◌≡◌, ◌++◌, Bool, true, false, if◌then◌else◌, List, [], ◌∷◌, length, map, Option, Some, None, reverse}
use Rattle.act1_logic.specs.declared.cover.Mark.{Mark}
use Rattle.act1_logic.specs.declared.cover.Row.{Row}
use Rattle.act1_bliftext.specs.Lines.{Line, text_lines}
use Rattle.act1_bliftext.specs.Forms.{form_of, names_in, latch_start, model_name}
use Rattle.act1_bliftext.specs.Rows.{row_marks, output_of}
use Rattle.act1_bliftext.specs.Tables.{AreNumbersOf}
use Rattle.act1_bliftext.specs.Faults.{is_row_form, head_above, rows_above, names_above, first_fault}
use Rattle.act1_bliftext.specs.declared.form.Form.{Form}
use Rattle.act1_bliftext.specs.declared.form.Form.TheVariants as form
use Rattle.act1_bliftext.specs.declared.statement.NumberedStatement.{NumberedStatement}
use Rattle.act1_bliftext.specs.declared.statement.Statement.{Statement}
use Rattle.act1_bliftext.specs.declared.statement.Statement.TheVariants.{Inputs, Outputs, Clock, Names, Latch}
use Rattle.act1_bliftext.specs.declared.statements.Statements.{Statements}

-- the name behind `.model`, where the first line has that form
abbrev pub model_by : Form → List (List ℕ) → Option (List ℕ)
model_by form.Model rest = model_name rest
model_by _ rest = None

abbrev pub model_of : List Line → Option (List ℕ)
model_of [] = None
model_of (line ∷ []) = model_by (form_of line.first) line.rest
model_of (line ∷ next ∷ above) = model_of (next ∷ above)

-- a line that isn't a row, with the rows under it
pub record Block : Type 0 where
  pub head : Line
  pub rows : List Line

-- a line with the rows under it
abbrev pub block_with : Line → List Line → Block
block_with head rows = record { head = head; rows = rows }

-- lines of this form say something of the netlist
abbrev pub is_said : Form → Bool
is_said form.Inputs = true
is_said form.Outputs = true
is_said form.Clock = true
is_said form.Names = true
is_said form.Latch = true
is_said _ = false

-- a line with its rows, if it says something of the netlist
abbrev pub block_of : Option Line → List Line → List Block
block_of None rows = []
block_of (Some head) rows = if is_said (form_of head.first) then block_with head rows ∷ [] else []

-- the blocks above, in the order of the text, without the last one, to which more rows may come
abbrev pub earlier_blocks : List Line → List Block
earlier_blocks [] = []
earlier_blocks (line ∷ above) = if is_row_form (form_of line.first) then earlier_blocks above else earlier_blocks above ++ block_of (head_above above) (rows_above above)

-- all blocks of the lines above, in the order of the text
abbrev pub blocks_above : List Line → List Block
blocks_above above = earlier_blocks above ++ block_of (head_above above) (rows_above above)

-- the form of a statement's line
abbrev pub form_in : Statement → Form
form_in (Inputs names) = form.Inputs
form_in (Outputs names) = form.Outputs
form_in (Clock names) = form.Clock
form_in (Names inputs output cover) = form.Names
form_in (Latch input output control init) = form.Latch

-- no number or one
abbrev pub control_number : Option ℕ → List ℕ
control_number None = []
control_number (Some n) = n ∷ []

-- the numbers of a statement, in the order of its line's names
abbrev pub numbers_in : Statement → List ℕ
numbers_in (Inputs names) = names
numbers_in (Outputs names) = names
numbers_in (Clock names) = names
numbers_in (Names inputs output cover) = inputs ++ output ∷ []
numbers_in (Latch input output control init) = input ∷ output ∷ control_number control

-- the marks of each row
abbrev pub marks_in : List Row → List (List Mark)
marks_in rows = map (λ (row : Row). row.marks) rows

-- what a statement says beside names: a cover has the rows of its `.names` and their output character, and a latch its init
abbrev pub SaysRest : Line → List Line → Statement → Type 0
SaysRest head rows (Names inputs output cover) = (cover.width ≡ length inputs) × (cover.output ≡ output_of rows) × (marks_in cover.rows ≡ map row_marks rows)
SaysRest head rows (Latch input output control init) = latch_start head.rest ≡ Some init
SaysRest head rows _ = Unit {0}

-- a statement says what a line with its rows says, where names are numbered by these names
pub record Says (names : List (List ℕ)) (block : Block) (numbered : NumberedStatement) : Type 0 where
  pub line : numbered.line ≡ block.head.number
  pub form : form_of block.head.first ≡ form_in numbered.statement
  pub numbers : AreNumbersOf names (numbers_in numbered.statement) (names_in block.head)
  pub beside : SaysRest block.head block.rows numbered.statement

-- statements say what blocks say, one for one
abbrev pub AreSaid : List (List ℕ) → List Block → List NumberedStatement → Type 0
AreSaid names [] [] = Unit {0}
AreSaid names (block ∷ blocks) (numbered ∷ statements) = Says names block numbered × AreSaid names blocks statements
AreSaid names _ _ = ⊥

-- what lines without a fault say: the model's name, the names in the order of their first use, and the statements
pub record Say (above : List Line) (name : Option (List ℕ)) (known : List (List ℕ)) (said : List NumberedStatement) : Type 0 where
  pub model : name ≡ model_of above
  pub names : known ≡ names_above above
  pub statements : AreSaid known (blocks_above above) said

-- no line of the text has a fault, and this is what the lines say
pub record StatementsOf (bytes : List ℕ) (s : Statements) : Type 0 where
  pub faultless : first_fault [] (text_lines bytes) ≡ None
  pub says : Say (reverse (text_lines bytes)) s.model s.names s.statements
