use Rattle.std.proofs.Common.{◌≡◌, ◌++◌, false, replicate}
use Rattle.act1_blif.proofs.valuation.given_values.Given as goal

abbrev pub invariant-loop-node : goal.invariant-loop-node
invariant-loop-node l = l.values.items ≡ l.inputs ++ l.state ++ replicate l._node false
