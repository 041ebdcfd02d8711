use Rattle.std.proofs.Common.{◌≡◌, ◌++◌, map, take}
use Rattle.act1_net.specs.Gates.{mark_number}
use Rattle.act1_net.proofs.key.add_row.Given as goal

-- the numbers of the first marks
abbrev pub invariant-loop-mark : goal.invariant-loop-mark
invariant-loop-mark l = l.numbers.items ≡ l.initial.numbers.items ++ map mark_number (take l.mark-index l.mark-items)
