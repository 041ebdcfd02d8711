use Rattle.std.proofs.Common.{◌≡◌, length}
use Rattle.std.specs.Prelude.{flat_map}
use Rattle.act1_base.specs.Lists.{numbers}
use Rattle.act1_groute.specs.RouteSteps.{longs_of}
use Rattle.act1_groute.proofs.taking.all_longs.Given as goal

-- the columns so far
abbrev pub invariant-loop-column : goal.invariant-loop-column
invariant-loop-column l = l.all.items ≡ flat_map (longs_of (length l.device.longs)) (numbers 0 l.column)
