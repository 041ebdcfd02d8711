use Rattle.std.proofs.Common.{◌≡◌, ◌++◌, take}
use Rattle.std.specs.List.{flat_map}
use Rattle.act1_net.specs.Gates.{row_numbers}
use Rattle.act1_net.proofs.key.add_gate.Given as goal

-- the numbers of the first rows
abbrev pub invariant-loop-row : goal.invariant-loop-row
invariant-loop-row l = l.numbers.items ≡ l.initial.numbers.items ++ flat_map row_numbers (take l.row-index l.row-items)
