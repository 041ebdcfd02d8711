-- The texts of a simulation: input vectors, a line a cycle with a character an input, and the lines of outputs. The lines of a text are std's: a carriage return before a line feed belongs to the line's end, and what stands behind the last line feed is a line if there is anything. The format is this project's own.
use Rattle.std.specs.Prelude.{ℕ, ◌≡◌, ◌+◌, ◌<◌, Bool, true, false, ◌&&◌, ◌||◌, ◌==◌, if◌then◌else◌, List, [], ◌∷◌, ◌++◌, length, map, Some, slice_get}
use Rattle.std.specs.List.{list_all, flat_map}
use Rattle.std.specs.Str.Lines.{lines}

-- the character 0 or 1
abbrev pub is_digit : ℕ → Bool
is_digit b = b == 48 || b == 49

-- one character 0 or 1 for each input
abbrev pub is_vector : ℕ → List ℕ → Bool
is_vector width line = (length line == width) && list_all is_digit line

-- the bits that the characters of a line are
abbrev pub bits_of : List ℕ → List Bool
bits_of line = map (λ b. b == 49) line

-- each line of the text is a vector
abbrev pub are_vectors : ℕ → List (List ℕ) → Bool
are_vectors width lines = list_all (is_vector width) lines

-- the text has these vectors, and no other line
pub record AreVectorsOf (width : ℕ) (bytes : List ℕ) (xs : List (List Bool)) : Type 0 where
  pub each : are_vectors width (lines bytes) ≡ true
  pub are : xs ≡ map bits_of (lines bytes)

-- the line of this number, from 1, is no vector, and each line before it is one
pub record IsFirstNoVector (width : ℕ) (bytes : List ℕ) (number : ℕ) : Type 0 where
  pub place : ℕ
  pub numbered : number ≡ place + 1
  pub line : List ℕ
  pub there : slice_get (lines bytes) place ≡ Some line
  pub fails : is_vector width line ≡ false
  pub first : (k : ℕ) (other : List ℕ) → k < place → slice_get (lines bytes) k ≡ Some other → is_vector width other ≡ true

-- the character of a bit
abbrev pub digit : Bool → ℕ
digit bit = if bit then 49 else 48

-- a line of outputs: one character each, and a line feed
abbrev pub output_line : List Bool → List ℕ
output_line bits = map digit bits ++ 10 ∷ []

-- the lines of outputs, one after the other
abbrev pub output_text : List (List Bool) → List ℕ
output_text shown = flat_map output_line shown
