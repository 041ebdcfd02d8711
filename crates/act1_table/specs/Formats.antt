-- Formats of texts whose lines are those of a table. A format has lines of its own, with named fields; each is said by one line of the table. Beside that it says what a line does to the state of a reading.
use Rattle.std.specs.Prelude.{ℕ, ◌≡◌, IsTrue, List, [], ◌∷◌, map, Option, Some, None, Result, Ok, Err}
use Rattle.std.specs.List.{AllByRecursion}
use Rattle.act1_base.specs.Texts.{LineRules}
use Rattle.act1_base.specs.Words.{text_of_lines}
use Rattle.act1_table.specs.Clear.{is_clear}
use Rattle.act1_table.specs.Exact.{IsExact}
use Rattle.act1_table.specs.Forms.{FitsTable, line_words}
use Rattle.act1_table.specs.Lines.{line_text, read_line}
use Rattle.act1_table.specs.Reads.{and_then}
use Rattle.act1_table.specs.Table.{Form}
use Rattle.act1_table.specs.declared.forms.LineGiven.{LineGiven}

-- the lines of a format: its table, the line of the table that says a line of its own, and the line of its own that a line of the table says, if it says one
pub record LineFormat (Line : Type 0) : Type 0 where
  pub table : List Form
  pub given_of : Line → LineGiven
  pub line_of : LineGiven → Option Line

-- what the lines of a format do: the state before the first; the state after a line of its own, or what is wrong with it; what is wrong with a line that can't be read, and with one that lacks its line feed; and whether a text may end in a state, or what is wrong with its end
pub record LineSteps (Line State Kind : Type 0) : Type 0 where
  pub start : State
  pub step : State → Line → Result State Kind
  pub unread : State → Kind
  pub unended : State → Kind
  pub end : State → Result State Kind

module _ {Line : Type 0} (format : LineFormat Line) where
  -- a text can have the line
  abbrev pub IsFine : Line → Type 0
  IsFine line = FitsTable format.table (format.given_of line)

  -- the words of the line, and the line as bytes
  abbrev pub own_words : Line → List (List ℕ)
  own_words line = line_words format.table (format.given_of line)

  abbrev pub own_text : Line → List ℕ
  own_text line = line_text format.table (format.given_of line)

  -- the line that is read of the bytes of a line
  abbrev pub read_own : List ℕ → Option Line
  read_own bytes = and_then (read_line format.table bytes) format.line_of

  -- the lines as bytes, each with its line feed
  abbrev pub text_of : List Line → List ℕ
  text_of lines = text_of_lines (map own_words lines)

  -- what the lines of a format owe: the table is clear, and a line of its own and the line of the table that says it belong to each other alone
  pub record IsLineFormat : Type 0 where
    pub clear : IsTrue (is_clear format.table)
    pub back : (line : Line) → IsFine line → format.line_of (format.given_of line) ≡ Some line
    pub only : (given : LineGiven) (line : Line) → FitsTable format.table given → format.line_of given ≡ Some line → given ≡ format.given_of line

  -- what they then are: a fine line is read again; and what is read is fine, and is said by the line alone where its numbers are exact
  pub record ReadsItsLines : Type 0 where
    pub again : (line : Line) → IsFine line → read_own (own_text line) ≡ Some line
    pub exact : (bytes : List ℕ) (line : Line) → read_own bytes ≡ Some line → IsFine line × (IsExact format.table (format.given_of line) → bytes ≡ own_text line)

  module _ {State Kind : Type 0} (steps : LineSteps Line State Kind) where
    -- what a line does that was read, or wasn't
    abbrev pub after_read : State → Option Line → Result State Kind
    after_read s None = Err (steps.unread s)
    after_read s (Some line) = steps.step s line

    -- the rules by which a text of the format is read line by line
    abbrev pub rules_of : LineRules State Kind
    rules_of = record { start = steps.start; after = λ s bytes. after_read s (read_own bytes); unended = steps.unended; end = steps.end }

    -- the lines lead from the one state to the other
    abbrev pub Leads : State → List Line → State → Type 0
    Leads s [] t = s ≡ t
    Leads s (line ∷ lines) t = (next : State) × (steps.step s line ≡ Ok next) × Leads next lines t

    -- the bytes are fine lines that lead to a state in which a text may end
    pub record IsLinesTo (bytes : List ℕ) (end : State) : Type 0 where
      pub lines : List Line
      pub last : State
      pub fine : AllByRecursion IsFine lines
      pub leads : Leads steps.start lines last
      pub ends : steps.end last ≡ Ok end
      pub text : bytes ≡ text_of lines

    -- some fine lines lead from the state to one in which a text may end
    pub record CanEnd (s : State) : Type 0 where
      pub more : List Line
      pub last : State
      pub end : State
      pub fine : AllByRecursion IsFine more
      pub leads : Leads s more last
      pub ends : steps.end last ≡ Ok end

    -- what a format owes, whose texts are these: its lines; that a line is taken only where its numbers are exact; that its texts are the lines that lead to an end; and that lines which are taken can be completed
    pub record OwesTexts (IsText : List ℕ → Type 0) : Type 0 where
      pub own : IsLineFormat
      pub exact : (s t : State) (line : Line) → IsFine line → steps.step s line ≡ Ok t → IsExact format.table (format.given_of line)
      pub spelled : (bytes : List ℕ) → IsText bytes → (end : State) × IsLinesTo bytes end
      pub said : (bytes : List ℕ) (end : State) → IsLinesTo bytes end → IsText bytes
      pub completes : (lines : List Line) (s : State) → AllByRecursion IsFine lines → Leads steps.start lines s → CanEnd s
