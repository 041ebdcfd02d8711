use Rattle.std.proofs.Common.{◌≡◌, take}
use Rattle.std.specs.Prelude.{sum_by, count_by}
use Rattle.act1_logic.specs.Rows.{is_literal}
use Rattle.act1_cover.proofs.forests.literals_of.Given as goal

abbrev pub invariant-loop-row : goal.invariant-loop-row
invariant-loop-row l = l.count ≡ sum_by (λ row. count_by is_literal row.marks) (take l.row-index l.rows)
