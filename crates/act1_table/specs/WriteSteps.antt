-- What the writer adds, word by word.
use Rattle.std.specs.Prelude.{ℕ, ◌==◌, if◌then◌else◌, List, ◌∷◌}
use Rattle.std.specs.List.{join_with_byte, flat_map}

-- the word, with a space in front but for the first
abbrev pub spaced : ℕ → List ℕ → List ℕ
spaced i word = if i == 0 then word else 32 ∷ word

-- the words from this place on, each with its space
abbrev pub spaced_words : ℕ → List (List ℕ) → List ℕ
spaced_words i words = if i == 0 then join_with_byte 32 words else flat_map (λ (word : List ℕ). 32 ∷ word) words
