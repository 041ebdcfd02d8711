-- Which writes are torn.
use Rattle.std.specs.Prelude.{ℕ, nat_eq, if◌then◌else◌, List, [], ◌∷◌, Option, Some, None}
use Rattle.act1_outside.specs.declared.tear.Tear.{Tear}

-- how many bytes a call leaves after these tears, where it leaves so many before them
abbrev pub left_after : Option ℕ → ℕ → List Tear → Option ℕ
left_after so_far call [] = so_far
left_after so_far call (tear ∷ tears) = left_after (if nat_eq tear.call call then Some tear.left else so_far) call tears

-- how many bytes a call leaves, by its last tear, or `None` where it has none
abbrev pub left_by : List Tear → ℕ → Option ℕ
left_by tears call = left_after None call tears
