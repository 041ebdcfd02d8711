-- What the table of kept nodes has.
use Rattle.std.specs.Prelude.{ℕ, ◌≡◌, ◌⊎◌, List, [], ◌∷◌}

-- the signal of a key stands there
abbrev pub Has : List (List ℕ × ℕ) → List ℕ → ℕ → Type 0
Has [] key s = ⊥
Has (e ∷ entries) key s = ((e.0 ≡ key) × (e.1 ≡ s)) ⊎ Has entries key s

-- no signal of a key does
abbrev pub HasNone : List (List ℕ × ℕ) → List ℕ → Type 0
HasNone entries key = (s : ℕ) → Has entries key s → ⊥
