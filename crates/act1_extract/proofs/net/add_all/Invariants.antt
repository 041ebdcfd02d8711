use Rattle.std.proofs.Common.{◌≡◌, ◌++◌}
use Rattle.act1_extract.proofs.net.add_all.Given as goal

abbrev pub invariant-loop-node : goal.invariant-loop-node
invariant-loop-node l = l.nodes ≡ l.initial.nodes ++ l.yielded
