-- The words of a line, which are read one after the other.
use Rattle.std.specs.Prelude.{ℕ, ◌≡◌, Bool, true, false, List, [], ◌∷◌, Option, Some, None}
use Rattle.std.specs.Borrow.{Bor}
use Rattle.act1_base.specs.Words.{words_of}

-- the words of what is left of a line: none where its last word was read
abbrev pub words_left : Bool → List ℕ → List (List ℕ)
words_left true rest = []
words_left false rest = words_of rest

-- the first of the words is taken, if there is one, and else none is left
abbrev pub TakesFirst : List (List ℕ) → Option (Bor (List ℕ)) → List (List ℕ) → Type 0
TakesFirst words None left = (words ≡ []) × (left ≡ [])
TakesFirst words (Some word) left = words ≡ word.now ∷ left
