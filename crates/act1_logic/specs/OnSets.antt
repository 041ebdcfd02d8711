-- Covers that have one row for each of the inputs at which a function is 1.
use Rattle.std.specs.Prelude.{ℕ, zero, suc, ◌≡◌, Bool, true, false, List, [], ◌∷◌, ◌++◌, length, map, filter}
use Rattle.act1_logic.specs.declared.cover.Cover.{Cover}
use Rattle.act1_logic.specs.declared.cover.Mark.{Mark}
use Rattle.act1_logic.specs.declared.cover.Mark.TheVariants as mark
use Rattle.act1_logic.specs.declared.cover.Row.{Row}
use Rattle.act1_logic.specs.Cover.{value_of}

-- all lists of n bits, rising as binary numbers
abbrev pub combinations : ℕ → List (List Bool)
combinations zero = [] ∷ []
combinations (suc n) = map (λ (ys : List Bool). false ∷ ys) (combinations n) ++ map (λ (ys : List Bool). true ∷ ys) (combinations n)

-- the mark that agrees with this bit alone
abbrev pub mark_of : Bool → Mark
mark_of false = mark.Zero
mark_of true = mark.One

-- the rows are those of all inputs at which the function is 1, and the output is 1
pub record IsOnSet (n : ℕ) (f : List Bool → Bool) (cover : Cover) : Type 0 where
  pub output : cover.output ≡ true
  pub rows : map (λ (row : Row). row.marks) cover.rows ≡ map (map mark_of) (filter f (combinations n))

-- such a cover has the function's value
abbrev pub OnSetsHaveValues : Type 0
OnSetsHaveValues = (n : ℕ) (f : List Bool → Bool) (cover : Cover) (xs : List Bool) → IsOnSet n f cover → length xs ≡ n → value_of cover xs ≡ f xs
