-- What the steps of the reader need.
use Rattle.std.specs.Prelude.{ℕ, Bool, true, false, ◌&&◌, ◌||◌, not, ◌==◌, nat_lt, List, [], ◌∷◌, Option, Some, None}
use Rattle.act1_table.specs.Table.{Part}
use Rattle.act1_table.specs.Table.{Field}
use Rattle.act1_table.specs.Table as field
use Rattle.act1_table.specs.Table.{Form}

-- the value, if the test was passed
abbrev pub some_if : {A : Type 0} → Bool → A → Option A
some_if true x = Some x
some_if false x = None

-- no word is of the ways
abbrev pub has_no_way : List (List Part) → Bool
has_no_way [] = true
has_no_way (way ∷ ways) = false

-- no word is of the field
abbrev pub is_nothing : Field → Bool
is_nothing field.Name = false
is_nothing (field.OneOf ways) = has_no_way ways

-- a line of so many words may be of the form of so many fields
abbrev pub may_have : ℕ → Field → ℕ → Bool
may_have fields rest words = fields == words || (nat_lt fields words && not (is_nothing rest))
