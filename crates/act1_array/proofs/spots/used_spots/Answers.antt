use Rattle.std.proofs.Common.{◌≤◌, length, arith}
use Rattle.act1_array.proofs.SpotLemmas.{sites_are_inside, spots_end, spots_are_used}
use Rattle.act1_array.proofs.spots.used_spots.Goals as goal

pub marks_of-requires : goal.marks_of-requires
marks_of-requires c = sites_are_inside c.devices_are_small.ensures c.args.device.now c.args.sites.now c.requires

pub returns-clause-used : goal.returns-clause-used
returns-clause-used c =
    let marks = c.in_ok-marks.marks.items in
    let whole : length marks ≤ c.loop-place.place = omega arith in
    (spots_are_used c.args.sites.now marks c.loop-place.spots c.in_ok-marks.ensures (spots_end c.loop-place.spots c.loop-place.place marks whole c.loop-place.invariant)).0

pub returns-clause-few : goal.returns-clause-few
returns-clause-few c =
    let marks = c.in_ok-marks.marks.items in
    let whole : length marks ≤ c.loop-place.place = omega arith in
    (spots_are_used c.args.sites.now marks c.loop-place.spots c.in_ok-marks.ensures (spots_end c.loop-place.spots c.loop-place.place marks whole c.loop-place.invariant)).1
