use Rattle.std.proofs.Common.{◌≡◌, ◌++◌, map, take}
use Rattle.act1_blifread.specs.NetlistSteps.{number_at}
use Rattle.act1_blifread.proofs.netlist.add_numbers.Given as goal

abbrev pub invariant-loop-name : goal.invariant-loop-name
invariant-loop-name l = l.out.items ≡ l.initial.out.items ++ map (number_at l.places) (take l.name-index l.names)
