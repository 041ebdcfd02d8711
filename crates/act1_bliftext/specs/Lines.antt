-- From the bytes of a BLIF text to its lines. The source is Berkeley's BLIF.
use Rattle.std.specs.Prelude.{ℕ, Bool, true, false, ◌==◌, ◌&&◌, ◌||◌, ◌+◌, if◌then◌else◌, List, [], ◌∷◌, ◌++◌, Option, Some, None}
use Rattle.std.specs.Option.{option_map}
use Rattle.std.specs.List.{list_all, filter, flat_map, before_first, slice_split}
use Rattle.act1_base.specs.Lines.{lines_of}

-- blanks are space, tab and carriage return
abbrev pub is_blank : ℕ → Bool
is_blank b = (b == 32 || b == 9) || b == 13

-- a comment is `#` and all behind it
abbrev pub without_comment : List ℕ → List ℕ
without_comment line = before_first (λ b. b == 35) line

-- what stands before a backslash behind which only blanks stand, if there is one
abbrev pub before_backslash : List ℕ → Option (List ℕ)
before_backslash [] = None
before_backslash (b ∷ bytes) = if b == 92 && list_all is_blank bytes then Some [] else option_map (λ front. b ∷ front) (before_backslash bytes)

-- there is a byte
abbrev pub has_byte : List ℕ → Bool
has_byte [] = false
has_byte (b ∷ bytes) = true

-- words are what stands between blanks
abbrev pub words_of : List ℕ → List (List ℕ)
words_of bytes = filter has_byte (slice_split is_blank bytes)

-- a word before others, unless it has no byte
abbrev pub word_before : List ℕ → List (List ℕ) → List (List ℕ)
word_before [] words = words
word_before (b ∷ bytes) words = (b ∷ bytes) ∷ words

-- a joined line, and the number of its first line in the text
pub record Joined : Type 0 where
  pub number : ℕ
  pub bytes : List ℕ

-- the front of a line that is joined to the next line, with a blank between, or to nothing at the end of the text
abbrev pub onto_next : ℕ → List ℕ → List Joined → List Joined
onto_next number front [] = record { number = number; bytes = front } ∷ []
onto_next number front (next ∷ joined) = record { number = number; bytes = front ++ 32 ∷ next.bytes } ∷ joined

-- a line without its comment, before the joined lines behind it
abbrev pub joined_before : ℕ → List ℕ → Option (List ℕ) → List Joined → List Joined
joined_before number line None joined = record { number = number; bytes = line } ∷ joined
joined_before number line (Some front) joined = onto_next number front joined

-- the joined lines, from the line of this number on
abbrev pub joined_from : ℕ → List (List ℕ) → List Joined
joined_from number [] = []
joined_from number (line ∷ lines) = joined_before number (without_comment line) (before_backslash (without_comment line)) (joined_from (number + 1) lines)

-- a joined line that has words: its number, its first word and the words behind that
pub record Line : Type 0 where
  pub number : ℕ
  pub first : List ℕ
  pub rest : List (List ℕ)

-- the line that these words make, or none where there are no words
abbrev pub line_of : ℕ → List (List ℕ) → List Line
line_of number [] = []
line_of number (first ∷ rest) = record { number = number; first = first; rest = rest } ∷ []

-- the lines with words of a text, in order
abbrev pub text_lines : List ℕ → List Line
text_lines bytes = flat_map (λ (joined : Joined). line_of joined.number (words_of joined.bytes)) (joined_from 1 (lines_of bytes))

-- the lines of these words, the first of them with this number
abbrev pub lines_from : ℕ → List (List (List ℕ)) → List Line
lines_from number [] = []
lines_from number (words ∷ lines) = line_of number words ++ lines_from (number + 1) lines

-- lines above, listed from the nearest to the first, with more lines below them
abbrev pub over : List Line → List Line → List Line
over [] above = above
over (line ∷ lines) above = over lines (line ∷ above)
