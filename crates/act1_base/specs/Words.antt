-- The lines of the project's own texts: words parted by one space, and a line feed.
use Rattle.std.specs.Prelude.{ℕ, ◌==◌, List, [], ◌∷◌, ◌++◌}
use Rattle.std.specs.List.{join_with_byte, flat_map, slice_split}

-- the words parted by one space, with a line feed at the end
abbrev pub text_line : List (List ℕ) → List ℕ
text_line words = join_with_byte 32 words ++ 10 ∷ []

-- the lines of these words, one after the other
abbrev pub text_of_lines : List (List (List ℕ)) → List ℕ
text_of_lines lines = flat_map text_line lines

-- what spaces part
abbrev pub words_of : List ℕ → List (List ℕ)
words_of line = slice_split (λ b. b == 32) line
