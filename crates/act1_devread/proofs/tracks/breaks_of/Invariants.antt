use Rattle.std.proofs.Common.{◌≡◌, ◌++◌, drop, map}
use Rattle.act1_device.specs.Rules.{are_inside}
use Rattle.act1_devread.specs.Range.{natural, some_if}
use Rattle.act1_devread.proofs.tracks.breaks_of.Given as goal

abbrev pub invariant-loop-integer : goal.invariant-loop-integer
invariant-loop-integer l =
    let rest = map natural (drop l.integer-index l.integers) in
    some_if (are_inside l.columns rest) (l.breaks ++ rest) ≡ some_if (are_inside l.columns (map natural l.integers)) (map natural l.integers)
