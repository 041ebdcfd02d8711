use Rattle.std.proofs.Common.{◌≡◌, ◌++◌, ◌&&◌, drop, map}
use Rattle.std.specs.List.{list_all}
use Rattle.act1_device.specs.Rules.{is_long}
use Rattle.act1_devread.specs.Range.{are_natural, long_of, some_if}
use Rattle.act1_devread.proofs.places.long_list_of.Given as goal

abbrev pub invariant-loop-pair : goal.invariant-loop-pair
invariant-loop-pair l =
    let rest = drop l.pair-index l.pairs in
    some_if (list_all (λ p. are_natural p && is_long l.rows (long_of p)) rest) (l.longs ++ map long_of rest)
    ≡ some_if (list_all (λ p. are_natural p && is_long l.rows (long_of p)) l.pairs) (map long_of l.pairs)
