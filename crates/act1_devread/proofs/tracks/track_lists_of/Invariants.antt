use Rattle.std.proofs.Common.{◌≡◌, ◌++◌, drop, map}
use Rattle.std.specs.List.{list_all}
use Rattle.act1_device.specs.Rules.{are_inside}
use Rattle.act1_devread.specs.Range.{natural, some_if}
use Rattle.act1_devread.proofs.tracks.track_lists_of.Given as goal

abbrev pub invariant-loop-list : goal.invariant-loop-list
invariant-loop-list l =
    let rest = map (map natural) (drop l.list-index l.lists) in
    some_if (list_all (are_inside l.columns) rest) (l.tracks ++ rest)
    ≡ some_if (list_all (are_inside l.columns) (map (map natural) l.lists)) (map (map natural) l.lists)
