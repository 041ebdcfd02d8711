-- The element of a list that counts least.
use Rattle.std.specs.Prelude.{ℕ, nat_le, if◌then◌else◌, List, [], ◌∷◌, Option, Some, None}

module _ {A : Type 0} where
  -- the one of the two that counts less, and the first where they count the same
  abbrev pub lesser : (A → ℕ) → A → Option A → Option A
  lesser f x None = Some x
  lesser f x (Some y) = if nat_le (f x) (f y) then Some x else Some y

  -- the element that counts least, and the first of these
  abbrev pub least_by : (A → ℕ) → List A → Option A
  least_by f [] = None
  least_by f (x ∷ xs) = lesser f x (least_by f xs)
