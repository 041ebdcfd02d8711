-- The names that the lines of an antifuse file gave, and whether a line may give another. The rules are this project's own.
use Rattle.std.specs.Prelude.{ℕ, Bool, true, false, not, ◌||◌, List, [], ◌∷◌, ◌++◌, Option, Some, None}
use Rattle.std.specs.List.{list_any}
use Rattle.std.specs.Str.{bytes_eq}
use Rattle.act1_fuses.specs.declared.form.FuseLine.{FuseLine}
use Rattle.act1_fuses.specs.declared.form.FuseLine.TheVariants as form
use Rattle.act1_fuses.specs.declared.fuses.FuseFile.{FuseFile}
use Rattle.act1_fuses.specs.declared.given.GivenNames.{GivenNames}
use Rattle.act1_fuses.specs.Rules.{port_names, start_names}

-- the file has a clock of this name
abbrev pub is_clock : Option (List ℕ) → List ℕ → Bool
is_clock None name = false
is_clock (Some clock) name = bytes_eq clock name

-- it is one of the names
abbrev pub is_among : List ℕ → List (List ℕ) → Bool
is_among name names = list_any (λ other. bytes_eq other name) names

-- no line gave a name
abbrev pub no_names : GivenNames
no_names = record { ins = []; outs = []; starts = [] }

-- the names that a file has
abbrev pub given_of : FuseFile → GivenNames
given_of f = record { ins = port_names f.ins; outs = port_names f.outs; starts = start_names f.starts }

-- an input's name is no other input's, an output's no other output's, a latch's no input's and no other latch's, and none is the clock's
abbrev pub is_own_name : GivenNames → Option (List ℕ) → FuseLine → Bool
is_own_name given clock (form.In pad name) = not (is_clock clock name || is_among name given.ins)
is_own_name given clock (form.Out pad name) = not (is_clock clock name || is_among name given.outs)
is_own_name given clock (form.Start row column init name) = not (is_clock clock name || is_among name given.ins || is_among name given.starts)
is_own_name given clock _ = true

-- the names with that of a line
abbrev pub given_with : GivenNames → FuseLine → GivenNames
given_with given (form.In pad name) = record given { ins = given.ins ++ name ∷ [] }
given_with given (form.Out pad name) = record given { outs = given.outs ++ name ∷ [] }
given_with given (form.Start row column init name) = record given { starts = given.starts ++ name ∷ [] }
given_with given _ = given
