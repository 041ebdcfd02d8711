use Rattle.std.proofs.Common.{◌≡◌}
use Rattle.act1_logic.specs.OnSets.{combinations}
use Rattle.act1_extract.proofs.covers.combinations.Given as goal

abbrev pub invariant-loop-count : goal.invariant-loop-count
invariant-loop-count l = l.all ≡ combinations l._count
