use Rattle.std.proofs.Common.{◌≡◌, ◌++◌, drop}
use Rattle.std.specs.List.{list_all}
use Rattle.act1_device.specs.Rules.{are_tracks}
use Rattle.act1_devread.specs.Range.{naturals, some_if}
use Rattle.act1_devread.proofs.tracks.channel_lists_of.Given as goal

abbrev pub invariant-loop-list : goal.invariant-loop-list
invariant-loop-list l =
    let rest = naturals (drop l.list-index l.lists) in
    some_if (list_all (are_tracks l.columns) rest) (l.channels ++ rest)
    ≡ some_if (list_all (are_tracks l.columns) (naturals l.lists)) (naturals l.lists)
