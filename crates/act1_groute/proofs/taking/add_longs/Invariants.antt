use Rattle.std.proofs.Common.{◌≡◌, ◌++◌}
use Rattle.act1_groute.specs.RouteSteps.{longs_of}
use Rattle.act1_groute.proofs.taking.add_longs.Given as goal

-- the long wires so far
abbrev pub invariant-loop-index : goal.invariant-loop-index
invariant-loop-index l = l.all.items ≡ l.initial.all.items ++ longs_of l.index l.column
