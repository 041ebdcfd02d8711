-- What the statements of a text keep, apart from the struct that holds them.
use Rattle.std.specs.Prelude.{ℕ, Bool, true, ◌&&◌, ◌==◌, nat_le, nat_lt, List, length, Option, Some, None}
use Rattle.std.specs.List.{list_all}
use Rattle.act1_base.specs.Names.{is_name, are_different}
use Rattle.act1_bliftext.specs.declared.statement.NumberedStatement.{NumberedStatement}
use Rattle.act1_bliftext.specs.declared.statement.Statement.{Statement}
use Rattle.act1_bliftext.specs.declared.statement.Statement.TheVariants.{Inputs, Outputs, Clock, Names, Latch}

-- all numbers are below the count of names
abbrev pub are_below : ℕ → List ℕ → Bool
are_below count numbers = list_all (λ n. nat_lt n count) numbers

-- a control is missing, or a number below the count of names
abbrev pub is_control : ℕ → Option ℕ → Bool
is_control count None = true
is_control count (Some c) = nat_lt c count

-- the numbers of a statement are those of names, its cover has its inputs, and its init is one of the four
abbrev pub is_statement : ℕ → Statement → Bool
is_statement count (Inputs names) = are_below count names
is_statement count (Outputs names) = are_below count names
is_statement count (Clock names) = are_below count names
is_statement count (Names inputs output cover) = are_below count inputs && nat_lt output count && (cover.width == length inputs)
is_statement count (Latch input output control init) = nat_lt input count && nat_lt output count && is_control count control && nat_le init 3

-- the model's name, if there is one, is a name
abbrev pub is_model : Option (List ℕ) → Bool
is_model None = true
is_model (Some name) = is_name name

-- names that differ, no more than numbers can tell apart, and statements about them
abbrev pub are_statements : Option (List ℕ) → List (List ℕ) → List NumberedStatement → Bool
are_statements model names statements =
    is_model model && list_all is_name names && are_different names && nat_le (length names) 65535
    && list_all (λ (numbered : NumberedStatement). is_statement (length names) numbered.statement) statements
