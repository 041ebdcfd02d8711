use Rattle.std.proofs.Common.{◌≡◌, ◌++◌, map, take, drop}
use Rattle.act1_blifread.specs.NetlistSteps.{number_at}
use Rattle.act1_blifread.proofs.netlist.renumber.Given as goal

-- the numbers so far, and the names behind them
abbrev pub invariant-loop-number : goal.invariant-loop-number
invariant-loop-number l = l.number-items ≡ map (number_at l.places) (take l.number-index l.fn.numbers.items) ++ drop l.number-index l.fn.numbers.items
