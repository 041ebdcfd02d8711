use Rattle.std.proofs.Common.{◌≡◌, take}
use Rattle.act1_blifread.specs.NetlistSteps.{latches_at}
use Rattle.act1_blifread.proofs.netlist.latches_of.Given as goal

abbrev pub invariant-loop-numbered : goal.invariant-loop-numbered
invariant-loop-numbered l = l.latches ≡ latches_at l.names l.places (take l.numbered-index l.statements)
