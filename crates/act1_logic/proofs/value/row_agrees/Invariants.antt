use Rattle.std.proofs.Common.{◌≡◌, length, drop}
use Rattle.act1_logic.specs.Rows.{agrees}
use Rattle.act1_logic.proofs.value.row_agrees.Given as goal

-- the marks to come decide
abbrev pub invariant-loop-mark : goal.invariant-loop-mark
invariant-loop-mark l = agrees (drop (length l.yielded) l.marks) (drop (length l.yielded) l.values) ≡ agrees l.marks l.values
