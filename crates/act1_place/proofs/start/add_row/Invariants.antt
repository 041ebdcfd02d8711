use Rattle.std.proofs.Common.{◌≡◌, ◌++◌}
use Rattle.act1_place.specs.Passes.{row_of}
use Rattle.act1_place.proofs.start.add_row.Given as goal

-- the sites so far
abbrev pub invariant-loop-column : goal.invariant-loop-column
invariant-loop-column l = l.all.items ≡ l.initial.all.items ++ row_of l.column l.row
