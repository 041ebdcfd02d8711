use Rattle.std.proofs.Common.{◌≡◌}
use Rattle.act1_extract.specs.Parts.{free_names}
use Rattle.act1_extract.proofs.names.free_names.Given as goal

abbrev pub invariant-loop-number : goal.invariant-loop-number
invariant-loop-number l = l.names.items ≡ free_names l.circuit l.number
