use Rattle.std.proofs.Common.{[], refl}
use Rattle.act1_place.specs.Ends.{module_elements}
use Rattle.act1_place.proofs.Seen.{none_seen, ends_seen}
use Rattle.act1_place.proofs.reaches.ends_of.Goals as goal

pub returns : goal.returns
returns c =
    let spots = c.args.spots.now in
    let some = c.add_modules-some.ensures [] (none_seen (record { left = record { least = 255; «module» = 65535; rest = 255 }; right = record { least = 255; «module» = 65535; rest = 255 }; low = record { least = 255; «module» = 65535; rest = 255 }; high = record { least = 255; «module» = 65535; rest = 255 }; sum = 0 }) refl refl refl refl refl refl refl refl) in
    let all = c.add_pads-all.ensures (module_elements spots c.as_slice.result.now) some in
    ends_seen spots c.args.net.now c.as_slice.result.now c.as_slice-2.result.now c.add_pads-all.result c.half_perimeter.result c.as_slice.ensures c.as_slice-2.ensures c.half_perimeter.ensures all
