use Rattle.std.proofs.Common.{◌≡◌, drop}
use Rattle.std.specs.List.{list_any}
use Rattle.act1_logic.specs.Rows.{agrees}
use Rattle.act1_logic.proofs.value.cover_value.Given as goal

-- the rows to come decide
abbrev pub invariant-loop-row : goal.invariant-loop-row
invariant-loop-row l =
    list_any (λ row. agrees row.marks l.values) (drop l.row-index l.row-items) ≡ list_any (λ row. agrees row.marks l.values) l.cover.rows
