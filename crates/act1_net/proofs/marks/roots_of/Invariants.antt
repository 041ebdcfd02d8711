use Rattle.std.proofs.Common.{◌≡◌, ◌++◌}
use Rattle.act1_net.specs.MarkSteps.{signals_left, upto}
use Rattle.act1_net.proofs.marks.roots_of.Given as goal

-- the first inputs go last
abbrev pub invariant-loop-input : goal.invariant-loop-input
invariant-loop-input l = l.roots.items ≡ signals_left l.terms l.blif.outputs ++ upto l.input
