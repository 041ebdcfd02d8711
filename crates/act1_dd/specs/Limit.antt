-- The diagram of a cover, and where its first rows have too many forks.
use Rattle.std.specs.Prelude.{ℕ, ◌≡◌, ◌≤◌, ◌<◌, Bool, not, if◌then◌else◌, List, length, take, Result, Ok, Err}
use Rattle.std.specs.List.{list_any}
use Rattle.act1_logic.specs.declared.cover.Cover.{Cover}
use Rattle.act1_logic.specs.declared.cover.Row.{Row}
use Rattle.act1_logic.specs.Rows.{agrees}
use Rattle.act1_logic.specs.Cover.{value_of}
use Rattle.act1_dd.specs.declared.refs.Ref.{Ref}
use Rattle.act1_dd.specs.declared.refs.Branch.{Branch}
use Rattle.act1_dd.specs.declared.fault.DdFault.{DdFault}
use Rattle.act1_dd.specs.declared.fault.DdFault.TheVariants as fault
use Rattle.act1_dd.specs.Inputs.{Inputs, Function, inputs_from, inputs_of}
use Rattle.act1_dd.specs.Forks.{HasMoreForks}
use Rattle.act1_dd.specs.Diagram.{value_at, IsRef, IsWithin}

-- the value of a cover, with input j as variable j
abbrev pub cover_function : Cover → Function
cover_function cover x = value_of cover (inputs_from x 0 cover.width)

-- the value of rows: the output where some row agrees, and else the other one; with no rows it is a constant, which has no forks
abbrev pub rows_function : ℕ → Bool → List Row → Function
rows_function width output rows x = if list_any (λ row. agrees row.marks (inputs_from x 0 width)) rows then output else not output

-- the value of the cover with only its first k rows
abbrev pub first_rows : Cover → ℕ → Function
first_rows cover k = rows_function cover.width cover.output (take k cover.rows)

-- the ref has the cover's value at all inputs, also where they are listed, and depends on the cover's inputs alone
pub record IsDiagramOf (cover : Cover) (forks : List Branch) (r : Ref) : Type 0 where
  pub ref : IsRef forks r
  pub value : (x : Inputs) → value_at forks r x ≡ cover_function cover x
  pub listed : (values : List Bool) → length values ≡ cover.width → value_at forks r (inputs_of values) ≡ value_of cover values
  pub within : IsWithin forks r cover.width

-- k is the least number of first rows whose diagram has more forks than the limit
pub record IsLimit (cover : Cover) (limit k : ℕ) : Type 0 where
  pub within : k ≤ length cover.rows
  pub more : HasMoreForks (first_rows cover k) limit
  pub least : (j : ℕ) → j < k → ¬ HasMoreForks (first_rows cover j) limit

-- the diagram of the cover where each number of its first rows is within the limit, and else the least number that isn't; want of memory is free
abbrev pub GivesDiagram : Cover → ℕ → List Branch → Result Ref DdFault → Type 0
GivesDiagram cover limit forks (Ok r) = IsDiagramOf cover forks r × ((k : ℕ) → k ≤ length cover.rows → ¬ HasMoreForks (first_rows cover k) limit)
GivesDiagram cover limit forks (Err (fault.Limit k)) = IsLimit cover limit k
GivesDiagram cover limit forks (Err fault.Memory) = Unit {0}
