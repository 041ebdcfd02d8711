use Rattle.std.proofs.Common.{◌≡◌, take}
use Rattle.std.specs.List.{filter_map}
use Rattle.act1_net.specs.Gates.{row_left}
use Rattle.act1_net.proofs.left.rows_left.Given as goal

-- what is left of the first rows
abbrev pub invariant-loop-row : goal.invariant-loop-row
invariant-loop-row l = l.left ≡ filter_map (row_left l.terms) (take l.row-index l.rows)
