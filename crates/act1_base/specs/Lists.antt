-- Words on lists of numbers.
use Rattle.std.specs.Prelude.{ℕ, zero, suc, ◌+◌, min, max, List, [], ◌∷◌}

-- so many numbers from the first on
abbrev pub numbers : ℕ → ℕ → List ℕ
numbers first zero = []
numbers first (suc count) = first ∷ numbers (first + 1) count

-- the least of the numbers, and the greatest
abbrev pub least_number : List ℕ → ℕ
least_number [] = 0
least_number (n ∷ []) = n
least_number (n ∷ m ∷ ns) = min n (least_number (m ∷ ns))

abbrev pub greatest_number : List ℕ → ℕ
greatest_number [] = 0
greatest_number (n ∷ ns) = max n (greatest_number ns)
