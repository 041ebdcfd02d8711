-- What the reader keeps of the lines above, and what it makes of the next one.
use Rattle.std.specs.Prelude.{ℕ, ◌≡◌, ◌≤◌, ◌++◌, ◌+◌, ◌||◌, Bool, true, false, List, [], ◌∷◌, length, map, sum_by, Option, Some, None, Result, Ok, Err, if◌then◌else◌}
use Rattle.std.specs.Option.{option_or}
use Rattle.act1_base.specs.declared.texts.Stop.{Stop}
use Rattle.act1_base.specs.declared.texts.Stop.TheVariants.{Fault, Memory}
use Rattle.act1_logic.specs.declared.cover.Mark.{Mark}
use Rattle.act1_logic.specs.declared.cover.Row.{Row}
use Rattle.act1_bliftext.specs.Lines.{Line}
use Rattle.act1_bliftext.specs.Forms.{form_of, names_by, latch_start, model_name}
use Rattle.act1_bliftext.specs.Rows.{are_parts, mark_of, is_one, row_marks, output_of, differ}
use Rattle.act1_bliftext.specs.Tables.{with_names, AreNumbersOf}
use Rattle.act1_bliftext.specs.Faults.{head_above, rows_above, names_above, has_end, is_later, is_end_form, is_word_fault, is_shape_fault, is_type_fault, is_init_fault, is_after_fault, is_limit_fault, are_past_limit, fault_of}
use Rattle.act1_bliftext.specs.Statements.{model_of, blocks_above, earlier_blocks, marks_in, AreSaid, form_in, numbers_in}
use Rattle.act1_bliftext.specs.declared.form.Form.{Form}
use Rattle.act1_bliftext.specs.declared.form.Form.TheVariants as form
use Rattle.act1_bliftext.specs.declared.fault.BlifKind.{BlifKind}
use Rattle.act1_bliftext.specs.declared.fault.BlifKind.TheVariants as kind
use Rattle.act1_bliftext.specs.declared.open_names.OpenNames.{OpenNames}
use Rattle.act1_bliftext.specs.declared.reading.Reading.{Reading}
use Rattle.act1_bliftext.specs.declared.statement.NumberedStatement.{NumberedStatement}
use Rattle.act1_bliftext.specs.declared.statement.Statement.{Statement}
use Rattle.act1_bliftext.specs.declared.statement.Statement.TheVariants as said

-- what a step gives that changes a state in its place: the state after it, or why it stopped
abbrev pub left : {State Stopped : Type 0} → State → Result (Unit {0}) Stopped → Result State Stopped
left new (Ok done) = Ok new
left new (Err stop) = Err stop

-- how many marks rows have
abbrev pub mark_count : List Row → ℕ
mark_count rows = sum_by (λ (row : Row). length row.marks) rows

abbrev pub open_marks : Option OpenNames → ℕ
open_marks None = 0
open_marks (Some names) = mark_count names.rows

-- a row with this output character differs from the rows so far
abbrev pub mixes : List Row → Bool → Bool → Bool
mixes [] value more = false
mixes (row ∷ rows) value more = differ value more

-- the output of a `.names` with one row more
abbrev pub value_after : List Row → Bool → Bool → Bool
value_after [] value more = more
value_after (row ∷ rows) value more = value

-- the `.names` with one row more, of these marks and this output character
pub record HasRow (old : OpenNames) (row : List Mark) (more : Bool) (new : OpenNames) : Type 0 where
  pub line : new.line ≡ old.line
  pub inputs : new.inputs ≡ old.inputs
  pub output : new.output ≡ old.output
  pub value : new.value ≡ value_after old.rows old.value more
  pub rows : marks_in new.rows ≡ marks_in old.rows ++ row ∷ []
  pub count : mark_count new.rows ≡ mark_count old.rows + length row

-- what a row of these marks and this output character gives under a `.names`
abbrev pub PartsGive : OpenNames → List ℕ → List ℕ → Result OpenNames (Stop BlifKind) → Type 0
PartsGive old marks value (Ok new) = (are_parts (length old.inputs) marks value ≡ true) × (mixes old.rows old.value (is_one value) ≡ false) × HasRow old (map mark_of marks) (is_one value) new
PartsGive old marks value (Err (Fault kind.Row)) = are_parts (length old.inputs) marks value ≡ false
PartsGive old marks value (Err (Fault kind.Mixed)) = (are_parts (length old.inputs) marks value ≡ true) × (mixes old.rows old.value (is_one value) ≡ true)
PartsGive old marks value (Err (Fault _)) = ⊥
PartsGive old marks value (Err Memory) = Unit {0}

-- no row, or no memory
abbrev pub IsRefused : Result OpenNames (Stop BlifKind) → Type 0
IsRefused (Ok new) = ⊥
IsRefused (Err stop) = stop ≡ Fault kind.Row

-- what a row of these words gives under a `.names`
abbrev pub RowGives : OpenNames → List ℕ → List (List ℕ) → Result OpenNames (Stop BlifKind) → Type 0
RowGives old first [] result = PartsGive old [] first result
RowGives old first (value ∷ []) result = PartsGive old first value result
RowGives old first (value ∷ more ∷ rest) result = IsRefused result

-- an open `.names` says what its line and the rows so far say
pub record OpenSays (names : List (List ℕ)) (head : Line) (under : List Line) (open_names : OpenNames) : Type 0 where
  pub line : open_names.line ≡ head.number
  pub form : form_of head.first ≡ form.Names
  pub numbers : AreNumbersOf names (open_names.inputs ++ open_names.output ∷ []) head.rest
  pub value : open_names.value ≡ output_of under
  pub rows : marks_in open_names.rows ≡ map row_marks under

-- a row may stand under a line
abbrev pub is_names_form : Form → Bool
is_names_form form.Names = true
is_names_form _ = false

abbrev pub takes_rows : Option Line → Bool
takes_rows None = false
takes_rows (Some head) = is_names_form (form_of head.first)

-- the line under which rows stand is open
pub record IsOpen (above : List Line) (names : List (List ℕ)) (open_names : OpenNames) : Type 0 where
  pub head : Line
  pub is_head : head_above above ≡ Some head
  pub running : has_end above ≡ false
  pub says : OpenSays names head (rows_above above) open_names

-- the statements so far, where a `.names` may be open
abbrev pub Stands : List Line → List (List ℕ) → List NumberedStatement → Option OpenNames → Type 0
Stands above names statements None = AreSaid names (blocks_above above) statements × (takes_rows (head_above above) ≡ false)
Stands above names statements (Some open_names) = AreSaid names (earlier_blocks above) statements × IsOpen above names open_names

-- the reading is that of the lines above
pub record IsRead (above : List Line) (reading : Reading) : Type 0 where
  pub model : reading.model ≡ model_of above
  pub names : reading.names ≡ names_above above
  pub later : reading.is_later ≡ is_later above
  pub ended : reading.has_ended ≡ has_end above
  pub said : Stands above (names_above above) reading.statements reading.open_names

-- what the next line gives
abbrev pub TakesLine : List Line → Line → Result Reading (Stop BlifKind) → Type 0
TakesLine above line (Ok new) = (fault_of above line ≡ None) × IsRead (line ∷ above) new
TakesLine above line (Err (Fault k)) = fault_of above line ≡ Some k
TakesLine above line (Err Memory) = Unit {0}

-- the first fault that the words of a line have by themselves, but for their bytes and for Limit
abbrev pub own_fault : Form → List (List ℕ) → Option BlifKind
own_fault form rest =
    if is_word_fault form then Some kind.Word else
    if is_shape_fault form (length rest) then Some kind.Shape else
    if is_type_fault form rest then Some kind.LatchKind else
    if is_init_fault form rest then Some kind.Init else None

-- the first fault by what stands above
abbrev pub place_fault : Form → Bool → Bool → List (List ℕ) → List (List ℕ) → Option BlifKind
place_fault form later ended known rest =
    if is_after_fault form later ended then Some kind.After else
    if is_limit_fault form known rest then Some kind.Limit else None

-- the first fault of a line that is no row, but for its bytes: by whether there were words and an `.end`, and by the names so far
abbrev pub form_fault : Form → Bool → Bool → List (List ℕ) → List (List ℕ) → Option BlifKind
form_fault form later ended known rest = option_or (own_fault form rest) (place_fault form later ended known rest)

-- the same, after a reading
abbrev pub rest_fault : Form → Reading → List (List ℕ) → Option BlifKind
rest_fault form old rest = form_fault form old.is_later old.has_ended old.names rest

-- the first fault of a `.names` but for its names that are too long or too many
abbrev pub NamesFault : Bool → List (List ℕ) → Option BlifKind → Type 0
NamesFault ended rest None = (ended ≡ false) × (1 ≤ length rest) × (length rest ≤ 65)
NamesFault ended rest (Some k) = (later : Bool) (known : List (List ℕ)) → form_fault form.Names later ended known rest ≡ Some k

-- a latch has the init of its line
abbrev pub StartIs : List (List ℕ) → Statement → Type 0
StartIs rest (said.Latch input output control init) = latch_start rest ≡ Some init
StartIs rest _ = Unit {0}

-- a latch has this init
abbrev pub HasStart : ℕ → Statement → Type 0
HasStart init (said.Latch input output control start) = start ≡ init
HasStart init _ = ⊥

-- a statement says what a line without rows says
pub record SaysLine (names : List (List ℕ)) (form : Form) (number : ℕ) (rest : List (List ℕ)) (numbered : NumberedStatement) : Type 0 where
  pub line : numbered.line ≡ number
  pub form_is : form ≡ form_in numbered.statement
  pub numbers : AreNumbersOf names (numbers_in numbered.statement) (names_by form rest)
  pub start : StartIs rest numbered.statement

-- what a line without rows adds to the statements
pub record AddsSaid (names : List (List ℕ)) (form : Form) (number : ℕ) (rest : List (List ℕ)) (old new : List NumberedStatement) : Type 0 where
  pub numbered : NumberedStatement
  pub says : SaysLine names form number rest numbered
  pub pushed : new ≡ old ++ numbered ∷ []

-- a `.names` that a line opens
pub record Opened (names : List (List ℕ)) (number : ℕ) (rest : List (List ℕ)) (open_names : OpenNames) : Type 0 where
  pub line : open_names.line ≡ number
  pub numbers : AreNumbersOf names (open_names.inputs ++ open_names.output ∷ []) rest
  pub value : open_names.value ≡ true
  pub rows : open_names.rows ≡ []

abbrev pub IsOpened : List (List ℕ) → ℕ → List (List ℕ) → Option OpenNames → Type 0
IsOpened names number rest None = ⊥
IsOpened names number rest (Some open_names) = Opened names number rest open_names

-- what becomes of the statements
abbrev pub Adds : Form → ℕ → List (List ℕ) → Reading → Reading → Type 0
Adds form.Names number rest old new = (new.statements ≡ old.statements) × IsOpened new.names number rest new.open_names
Adds form.Inputs number rest old new = AddsSaid new.names form.Inputs number rest old.statements new.statements × (new.open_names ≡ None)
Adds form.Outputs number rest old new = AddsSaid new.names form.Outputs number rest old.statements new.statements × (new.open_names ≡ None)
Adds form.Clock number rest old new = AddsSaid new.names form.Clock number rest old.statements new.statements × (new.open_names ≡ None)
Adds form.Latch number rest old new = AddsSaid new.names form.Latch number rest old.statements new.statements × (new.open_names ≡ None)
Adds _ number rest old new = (new.statements ≡ old.statements) × (new.open_names ≡ None)

-- the model's name
abbrev pub model_after : Form → List (List ℕ) → Option (List ℕ) → Option (List ℕ)
model_after form.Model rest old = model_name rest
model_after _ rest old = old

-- the reading after a line of this form, which is no row
pub record Follows (form : Form) (number : ℕ) (rest : List (List ℕ)) (old new : Reading) : Type 0 where
  pub model : new.model ≡ model_after form rest old.model
  pub names : new.names ≡ with_names old.names (names_by form rest)
  pub later : new.is_later ≡ true
  pub ended : new.has_ended ≡ (is_end_form form || old.has_ended)
  pub said : Adds form number rest old new

-- what a line of this form gives, which is no row
abbrev pub FormGives : Form → ℕ → List (List ℕ) → Reading → Result Reading (Stop BlifKind) → Type 0
FormGives form number rest old (Ok new) = (rest_fault form old rest ≡ None) × Follows form number rest old new
FormGives form number rest old (Err (Fault k)) = rest_fault form old rest ≡ Some k
FormGives form number rest old (Err Memory) = Unit {0}

-- the latch that is added
pub record AddsLatch (names : List (List ℕ)) (number : ℕ) (words : List (List ℕ)) (init : ℕ) (old new : List NumberedStatement) : Type 0 where
  pub numbered : NumberedStatement
  pub line : numbered.line ≡ number
  pub form_is : form_in numbered.statement ≡ form.Latch
  pub numbers : AreNumbersOf names (numbers_in numbered.statement) words
  pub start : HasStart init numbered.statement
  pub pushed : new ≡ old ++ numbered ∷ []

-- the reading with the latch
pub record HasLatch (number : ℕ) (words : List (List ℕ)) (init : ℕ) (old new : Reading) : Type 0 where
  pub model : new.model ≡ old.model
  pub names : new.names ≡ with_names old.names words
  pub later : new.is_later ≡ true
  pub ended : new.has_ended ≡ false
  pub closed : new.open_names ≡ None
  pub said : AddsLatch new.names number words init old.statements new.statements

-- `.inputs`, `.outputs` and `.clock`
abbrev pub IsPort : Form → Type 0
IsPort form.Inputs = Unit {0}
IsPort form.Outputs = Unit {0}
IsPort form.Clock = Unit {0}
IsPort _ = ⊥

-- what a latch of these names and this init gives
abbrev pub LatchFollows : ℕ → List (List ℕ) → ℕ → Reading → Result Reading (Stop BlifKind) → Type 0
LatchFollows number words init old (Ok new) = (old.has_ended ≡ false) × (are_past_limit old.names words ≡ false) × HasLatch number words init old new
LatchFollows number words init old (Err (Fault kind.After)) = old.has_ended ≡ true
LatchFollows number words init old (Err (Fault kind.Limit)) = (old.has_ended ≡ false) × (are_past_limit old.names words ≡ true)
LatchFollows number words init old (Err (Fault _)) = ⊥
LatchFollows number words init old (Err Memory) = Unit {0}

-- the statement of a `.names` with its rows
abbrev pub IsNames : OpenNames → Statement → Type 0
IsNames names (said.Names inputs output cover) = (inputs ≡ names.inputs) × (output ≡ names.output) × (cover.width ≡ length names.inputs) × (cover.output ≡ names.value) × (cover.rows ≡ names.rows)
IsNames names _ = ⊥

-- the statement of a `.names` is added
pub record ClosesNames (names : OpenNames) (old new : List NumberedStatement) : Type 0 where
  pub numbered : NumberedStatement
  pub line : numbered.line ≡ names.line
  pub says : IsNames names numbered.statement
  pub pushed : new ≡ old ++ numbered ∷ []

-- the statement of a `.names` is added if one was open
abbrev pub Closes : Option OpenNames → List NumberedStatement → List NumberedStatement → Type 0
Closes None old new = new ≡ old
Closes (Some names) old new = ClosesNames names old new

-- the reading where no row may come any more
pub record IsClosed (old new : Reading) : Type 0 where
  pub model : new.model ≡ old.model
  pub names : new.names ≡ old.names
  pub later : new.is_later ≡ old.is_later
  pub ended : new.has_ended ≡ old.has_ended
  pub closed : new.open_names ≡ None
  pub said : Closes old.open_names old.statements new.statements

-- any form but that of a row
abbrev pub IsNoRow : Form → Type 0
IsNoRow form.Row = ⊥
IsNoRow _ = Unit {0}

-- the reading with a row more
pub record RowAdded (old_names : OpenNames) (first : List ℕ) (rest : List (List ℕ)) (old new : Reading) : Type 0 where
  pub names_now : OpenNames
  pub is_open : new.open_names ≡ Some names_now
  pub row : RowGives old_names first rest (Ok names_now)
  pub model : new.model ≡ old.model
  pub names : new.names ≡ old.names
  pub statements : new.statements ≡ old.statements
  pub later : new.is_later ≡ true
  pub ended : new.has_ended ≡ old.has_ended

-- what a row gives
abbrev pub UnderGives : Option OpenNames → List ℕ → List (List ℕ) → Reading → Result Reading (Stop BlifKind) → Type 0
UnderGives None first rest old result = result ≡ Err (Fault kind.Row)
UnderGives (Some names) first rest old (Ok new) = RowAdded names first rest old new
UnderGives (Some names) first rest old (Err stop) = RowGives names first rest (Err stop)
