-- The rows of a `.names`. The source is Berkeley's BLIF.
use Rattle.std.specs.Prelude.{ℕ, Bool, true, false, not, ◌==◌, ◌&&◌, ◌||◌, if◌then◌else◌, List, [], ◌∷◌, length, map}
use Rattle.std.specs.List.{list_all}
use Rattle.std.specs.Prelude.{codes}
use Rattle.std.specs.Str.{bytes_eq}
use Rattle.act1_logic.specs.declared.cover.Mark.{Mark}
use Rattle.act1_logic.specs.declared.cover.Mark.TheVariants as mark
use Rattle.act1_bliftext.specs.Lines.{Line}

-- a character of a row's first word: `0`, `1` or `-`
abbrev pub is_mark : ℕ → Bool
is_mark b = (b == 48 || b == 49) || b == 45

-- the mark that such a character is
abbrev pub mark_of : ℕ → Mark
mark_of b = if b == 48 then mark.Zero else if b == 49 then mark.One else mark.Dash

-- an output character
abbrev pub is_value : List ℕ → Bool
is_value word = bytes_eq word (codes "0") || bytes_eq word (codes "1")

-- an output character that is 1
abbrev pub is_one : List ℕ → Bool
is_one word = bytes_eq word (codes "1")

-- the characters of marks that a row begins with; a row of one word has none
abbrev pub marks_by : List ℕ → List (List ℕ) → List ℕ
marks_by first [] = []
marks_by first (value ∷ rest) = first

-- the word with a row's output character: the second, or the first where it is alone
abbrev pub value_by : List ℕ → List (List ℕ) → List ℕ
value_by first [] = first
value_by first (value ∷ rest) = value

-- marks for this many inputs, and an output character
abbrev pub are_parts : ℕ → List ℕ → List ℕ → Bool
are_parts width marks value = length marks == width && list_all is_mark marks && is_value value

-- the words of a row of a `.names` with this many inputs
abbrev pub is_row_of : ℕ → List ℕ → List (List ℕ) → Bool
is_row_of width first [] = are_parts width [] first
is_row_of width first (value ∷ []) = are_parts width first value
is_row_of width first (value ∷ more ∷ rest) = false

-- the marks of a row
abbrev pub row_marks : Line → List Mark
row_marks row = map mark_of (marks_by row.first row.rest)

-- a row of the on-set
abbrev pub row_value : Line → Bool
row_value row = is_one (value_by row.first row.rest)

-- the output of a cover with these rows: that of the first one, and 1 where there is none
abbrev pub output_of : List Line → Bool
output_of [] = true
output_of (row ∷ rows) = row_value row

-- one value and not the other
abbrev pub differ : Bool → Bool → Bool
differ true b = not b
differ false b = b

-- the row has another output character than the first of these rows
abbrev pub is_mixed : List Line → Bool → Bool
is_mixed [] value = false
is_mixed (row ∷ rows) value = differ (row_value row) value
