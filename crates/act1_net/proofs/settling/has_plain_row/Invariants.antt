use Rattle.std.proofs.Common.{◌≡◌, not, drop}
use Rattle.std.specs.List.{list_any}
use Rattle.act1_logic.specs.declared.cover.Row.{Row}
use Rattle.act1_net.specs.Net.{has_literal}
use Rattle.act1_net.proofs.settling.has_plain_row.Given as goal

-- the rows to come decide
abbrev pub invariant-loop-row : goal.invariant-loop-row
invariant-loop-row l = list_any (λ (row : Row). not (has_literal row)) (drop l.row-index l.rows) ≡ list_any (λ (row : Row). not (has_literal row)) l.rows
