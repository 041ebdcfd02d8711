use Rattle.std.proofs.Common.{arith}
use Rattle.std.proofs.lemmas.Nat.{mul-le}
use Rattle.act1_place.proofs.placing.find_room.Goals as goal

pub overflow_cast-have : goal.overflow_cast-have
overflow_cast-have c = let few = (c.devices_are_small.ensures c.args.device.now).pads in omega (arith, few, c.len-have.ensures)

pub overflow_mul-sites : goal.overflow_mul-sites
overflow_mul-sites c =
    let small = c.devices_are_small.ensures c.args.device.now in
    let rows = small.rows in
    let columns = small.columns in
    let most = mul-le c.from.result c.from-2.result 32 64 (omega (arith, rows, c.from.ensures)) (omega (arith, columns, c.from-2.ensures)) in
    omega (arith, most)
