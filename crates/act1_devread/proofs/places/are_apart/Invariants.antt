use Rattle.std.proofs.Common.{◌≡◌, drop}
use Rattle.act1_device.specs.Rules.{are_apart}
use Rattle.act1_devread.proofs.places.are_apart.Given as goal

abbrev pub invariant-loop-i : goal.invariant-loop-i
invariant-loop-i l = are_apart (drop l.i l.places) ≡ are_apart l.places
