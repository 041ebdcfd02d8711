use Rattle.std.proofs.Common.{◌≡◌, ◌++◌, drop, map}
use Rattle.act1_devread.specs.Range.{are_places, place_of, some_if}
use Rattle.act1_devread.proofs.places.places_of.Given as goal

abbrev pub invariant-loop-pair : goal.invariant-loop-pair
invariant-loop-pair l =
    let rest = drop l.pair-index l.pairs in
    some_if (are_places l.rows l.columns rest) (l.places ++ map place_of rest)
    ≡ some_if (are_places l.rows l.columns l.pairs) (map place_of l.pairs)
