-- Names, numbered in the order of their first use.
use Rattle.std.specs.Prelude.{ℕ, ◌≡◌, ◌++◌, if◌then◌else◌, List, [], ◌∷◌, map, Some, slice_get}
use Rattle.std.specs.List.{list_any}
use Rattle.std.specs.Str.{bytes_eq}

-- the names with one more, which goes last unless it is there
abbrev pub with_name : List (List ℕ) → List ℕ → List (List ℕ)
with_name names name = if list_any (bytes_eq name) names then names else names ++ name ∷ []

-- the names with more of them, one after the other
abbrev pub with_names : List (List ℕ) → List (List ℕ) → List (List ℕ)
with_names names [] = names
with_names names (name ∷ more) = with_names (with_name names name) more

-- the numbers are those of these words
abbrev pub AreNumbersOf : List (List ℕ) → List ℕ → List (List ℕ) → Type 0
AreNumbersOf names numbers words = map (slice_get names) numbers ≡ map Some words
