-- Laws of BLIF texts: each is read in one way, and what is written line by line is read line by line.
use Rattle.std.specs.Prelude.{ℕ, ◌≡◌, ◌≤◌, ◌⊎◌, ◌++◌, Bool, true, false, IsTrue, List, [], ◌∷◌, length, Option, None}
use Rattle.std.specs.List.{list_all}
use Rattle.act1_base.specs.Words.{text_of_lines}
use Rattle.act1_bliftext.specs.Faults.{LineBad, first_fault, is_fine_word, is_row_form}
use Rattle.act1_bliftext.specs.Forms.{form_of}
use Rattle.act1_bliftext.specs.Lines.{Line, lines_from, over, text_lines}
use Rattle.act1_bliftext.specs.Rules.{are_statements}
use Rattle.act1_bliftext.specs.Statements.{AreSaid, Block, Say, Says, StatementsOf, blocks_above, is_said}
use Rattle.act1_bliftext.specs.declared.fault.BlifFault.{BlifFault}
use Rattle.act1_bliftext.specs.declared.statement.NumberedStatement.{NumberedStatement}
use Rattle.act1_bliftext.specs.declared.statements.Statements.{Statements}

-- a text that isn't too long has statements, or a fault of a line
abbrev pub OneOfTwo : Type 0
OneOfTwo = (bytes : List ℕ) → length bytes ≤ 4000000000 → ((s : Statements) × StatementsOf bytes s) ⊎ ((fault : BlifFault) × LineBad bytes fault)

-- no text has statements and a fault of a line
abbrev pub NeverBoth : Type 0
NeverBoth = (bytes : List ℕ) (s : Statements) (fault : BlifFault) → StatementsOf bytes s → LineBad bytes fault → ⊥

-- a text has one list of statements
abbrev pub OneReading : Type 0
OneReading = (bytes : List ℕ) (s t : Statements) → StatementsOf bytes s → StatementsOf bytes t → s ≡ t

-- a text has one first fault of a line
abbrev pub OneFault : Type 0
OneFault = (bytes : List ℕ) (fault other : BlifFault) → LineBad bytes fault → LineBad bytes other → fault ≡ other

-- words of bytes that show, of which the last is no backslash
abbrev pub are_fine : List (List (List ℕ)) → Bool
are_fine lines = list_all (λ words. list_all is_fine_word words) lines

-- the lines of a text of such words, parted by one space, are these words line by line
abbrev pub FineWordsAreRead : Type 0
FineWordsAreRead = (lines : List (List (List ℕ))) → are_fine lines ≡ true → text_lines (text_of_lines lines) ≡ lines_from 1 lines

-- the lines are rows
abbrev pub are_rows : List Line → Bool
are_rows lines = list_all (λ (line : Line). is_row_form (form_of line.first)) lines

-- a line that says something, with the rows under it, adds the statement that says it
abbrev pub SaidLinesAdd : Type 0
SaidLinesAdd = (names : List (List ℕ)) (above : List Line) (block : Block) (said : List NumberedStatement) (numbered : NumberedStatement) → is_said (form_of block.head.first) ≡ true → are_rows block.rows ≡ true
    → AreSaid names (blocks_above above) said → Says names block numbered → AreSaid names (blocks_above (over block.rows (block.head ∷ above))) (said ++ numbered ∷ [])

-- a line that is no row and says nothing of the netlist adds nothing
abbrev pub QuietLinesAdd : Type 0
QuietLinesAdd = (names : List (List ℕ)) (above : List Line) (line : Line) (said : List NumberedStatement) → is_row_form (form_of line.first) ≡ false → is_said (form_of line.first) ≡ false
    → AreSaid names (blocks_above above) said → AreSaid names (blocks_above (line ∷ above)) said

-- what lines without a fault say keeps the rules for statements
abbrev pub SaidKeepsRules : Type 0
SaidKeepsRules = (lines : List Line) (model : Option (List ℕ)) (names : List (List ℕ)) (said : List NumberedStatement) → first_fault [] lines ≡ None → Say (over lines []) model names said → IsTrue (are_statements model names said)

-- what the lines of a text say, where none has a fault, is what is read
abbrev pub SaidIsRead : Type 0
SaidIsRead = (bytes : List ℕ) (s : Statements) → first_fault [] (text_lines bytes) ≡ None → Say (over (text_lines bytes) []) s.model s.names s.statements → StatementsOf bytes s

-- how a text is read that was written line by line
pub record WrittenLinesAreRead : Type 0 where
  pub words : FineWordsAreRead
  pub said : SaidLinesAdd
  pub quiet : QuietLinesAdd
  pub rules : SaidKeepsRules
  pub read : SaidIsRead
