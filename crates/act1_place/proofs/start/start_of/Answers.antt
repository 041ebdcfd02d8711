use Rattle.std.proofs.Common.{length, ap, ◌∙◌, arith}
use Rattle.std.proofs.lemmas.Nat.{mul-le}
use Rattle.act1_place.proofs.Starts.{site_count}
use Rattle.act1_place.proofs.start.start_of.Goals as goal

pub shuffle-requires : goal.shuffle-requires
shuffle-requires c =
    let count = site_count c.args.rows c.args.columns in
    let most = mul-le c.args.rows c.args.columns 255 255 (omega (arith, c.ranges.rows.fits)) (omega (arith, c.ranges.columns.fits)) in
    let is = ap length (c.as_mut_slice.ensures.value ∙ c.in_ok-spots.ensures) in
    record { few = omega (arith, count, most, is) }
