use Rattle.std.proofs.Common.{◌≡◌}
use Rattle.act1_blifread.specs.NetlistSteps.{nodes_at}
use Rattle.act1_blifread.proofs.netlist.nodes_of.Given as goal

abbrev pub invariant-loop-numbered : goal.invariant-loop-numbered
invariant-loop-numbered l = l.nodes ≡ nodes_at l.names l.places l.yielded
