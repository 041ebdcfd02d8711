use Rattle.std.proofs.Common.{◌≡◌, drop}
use Rattle.std.specs.List.{list_any}
use Rattle.act1_logic.specs.Rows.{is_literal}
use Rattle.act1_net.specs.Net.{has_literal}
use Rattle.act1_net.proofs.settling.has_literal.Given as goal

-- the marks to come decide
abbrev pub invariant-loop-mark : goal.invariant-loop-mark
invariant-loop-mark l = list_any is_literal (drop l.mark-index l.mark-items) ≡ has_literal l.row
