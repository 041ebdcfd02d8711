-- Lists that rise.
use Rattle.std.specs.Prelude.{ℕ, Bool, true, false, ◌&&◌, ◌||◌, ◌==◌, nat_lt, List, [], ◌∷◌}

-- each element comes before the next one
abbrev pub Rises : {A : Type 0} → (A → A → Type 0) → List A → Type 0
Rises IsBefore [] = Unit {0}
Rises IsBefore (x ∷ []) = Unit {0}
Rises IsBefore (x ∷ y ∷ xs) = IsBefore x y × Rises IsBefore (y ∷ xs)

-- numbers of which each is below the next
abbrev pub is_rising : List ℕ → Bool
is_rising [] = true
is_rising (x ∷ []) = true
is_rising (x ∷ y ∷ xs) = nat_lt x y && is_rising (y ∷ xs)

-- one list of numbers comes before another as words do in a dictionary
abbrev pub is_before : List ℕ → List ℕ → Bool
is_before xs [] = false
is_before [] (y ∷ ys) = true
is_before (x ∷ xs) (y ∷ ys) = nat_lt x y || (x == y && is_before xs ys)
