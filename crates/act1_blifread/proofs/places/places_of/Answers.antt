use Rattle.act1_blifread.proofs.FirstPlaces.{places_read}
use Rattle.act1_blifread.proofs.NumberLists.{below_at}
use Rattle.act1_blifread.proofs.places.places_of.Goals as goal

pub loop-place-preserved : goal.loop-place-preserved
loop-place-preserved c =
    let names = c.args.names.now in
    let i = c.loop-place.place in
    places_read c.args.count names i c.loop-place.places.items c.note_place.new.places.items c.loop-place-test.true c.loop-place.invariant
    (below_at c.args.count names i c.loop-place-test.true c.requires.within) c.note_place.ensures
