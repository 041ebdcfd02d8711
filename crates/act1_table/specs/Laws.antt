-- The law of tables.
use Rattle.std.specs.Prelude.{ℕ, ◌≡◌, IsTrue, List, Some}
use Rattle.act1_base.specs.FirstFault.{IsOneLine}
use Rattle.act1_base.specs.Words.{words_of}
use Rattle.act1_table.specs.Clear.{is_clear}
use Rattle.act1_table.specs.Exact.{IsExact}
use Rattle.act1_table.specs.Forms.{FitsTable, line_words}
use Rattle.act1_table.specs.Lines.{line_text, read_line}
use Rattle.act1_table.specs.Table.{Form}
use Rattle.act1_table.specs.declared.forms.LineGiven.{LineGiven}

-- what a clear table says of its lines
pub record IsClearlySaid (table : List Form) : Type 0 where
  -- a written line is read as what it says
  pub again : (line : LineGiven) → FitsTable table line → read_line table (line_text table line) ≡ Some line
  -- what is read of a line can be said, and where its numbers are exact the line is the one that says it
  pub exact : (bytes : List ℕ) (line : LineGiven) → read_line table bytes ≡ Some line → FitsTable table line × (IsExact table line → bytes ≡ line_text table line)
  -- the same line says the same
  pub one : (a b : LineGiven) → FitsTable table a → FitsTable table b → line_text table a ≡ line_text table b → a ≡ b
  -- a written line is one line, and spaces part its words
  pub parts : (line : LineGiven) → FitsTable table line → IsOneLine (line_text table line) × (words_of (line_text table line) ≡ line_words table line)

-- the law of tables: each line of a clear table says one thing
abbrev pub TableLaw : Type 0
TableLaw = (table : List Form) → IsTrue (is_clear table) → IsClearlySaid table
