use Rattle.std.proofs.Common.{◌≡◌, map, take}
use Rattle.act1_blifread.specs.Netlist.{name_at}
use Rattle.act1_blifread.proofs.netlist.names_at.Given as goal

abbrev pub invariant-loop-number : goal.invariant-loop-number
invariant-loop-number l = l.copies ≡ map (name_at l.names) (take l.number-index l.numbers)
