-- The rows of a cover, apart from the struct that holds them. The source is Berkeley's BLIF.
use Rattle.std.specs.Prelude.{ℕ, Bool, true, false, not, ◌&&◌, ◌||◌, ◌==◌, nat_le, nat_lt, ◌^◌, List, [], ◌∷◌, length, sum_by, count_by}
use Rattle.std.specs.List.{list_all}
use Rattle.act1_logic.specs.declared.cover.Mark.{Mark}
use Rattle.act1_logic.specs.declared.cover.Mark.TheVariants.{Zero, One, Dash}
use Rattle.act1_logic.specs.declared.cover.Row.{Row}

-- each mark 0 or 1 is the input at its place
abbrev pub agrees : List Mark → List Bool → Bool
agrees [] xs = true
agrees (m ∷ ms) [] = true
agrees (Zero ∷ ms) (x ∷ xs) = not x && agrees ms xs
agrees (One ∷ ms) (x ∷ xs) = x && agrees ms xs
agrees (Dash ∷ ms) (x ∷ xs) = agrees ms xs

-- a mark that asks something of its input
abbrev pub is_literal : Mark → Bool
is_literal Zero = true
is_literal One = true
is_literal Dash = false

-- how many literals the rows have
abbrev pub literals_of : List Row → ℕ
literals_of rows = sum_by (λ row. count_by is_literal row.marks) rows

-- at most 64 inputs, rows of one mark per input, fewer than 2^32 marks in all, and the output 1 where there are no rows
abbrev pub is_cover : ℕ → Bool → List Row → Bool
is_cover width output rows =
    nat_le width 64 && list_all (λ row. length row.marks == width) rows
    && nat_lt (sum_by (λ row. length row.marks) rows) (2 ^ 32) && (output || nat_lt 0 (length rows))
