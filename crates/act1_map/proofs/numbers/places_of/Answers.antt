use Rattle.std.proofs.lemmas.Option.{slice_get-get_or}
use Rattle.act1_map.proofs.Places.{place_written}
use Rattle.act1_map.proofs.numbers.places_of.Goals as goal

pub loop-number-preserved : goal.loop-number-preserved
loop-number-preserved c =
    place_written c.args.covers.now c.args.tiles.now c.requires.tiles c.loop-number.number _ c.loop-number.tables.items c.write_place.new.tables.items
    (slice_get-get_or c.args.tiles.now c.loop-number.number _ c.loop-number-test.true) c.loop-number.invariant c.write_place.ensures
