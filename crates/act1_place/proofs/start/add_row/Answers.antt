use Rattle.std.proofs.Common.{refl}
use Rattle.act1_place.proofs.Growing.{row_next}
use Rattle.act1_place.proofs.start.add_row.Goals as goal

pub loop-column-preserved : goal.loop-column-preserved
loop-column-preserved c = row_next c.args.all.now.items c.loop-column.all.items c.push.new.self.items c.loop-column.column c.args.row c.loop-column.invariant (record { row = c.args.row; column = c.loop-column.column }) refl c.in_ok-push.ensures.items
