use Rattle.act1_place.proofs.Growing.{sites_next}
use Rattle.act1_place.proofs.start.sites_of.Goals as goal

pub loop-row-preserved : goal.loop-row-preserved
loop-row-preserved c = sites_next c.loop-row.row c.args.columns c.loop-row.all.items c.add_row.new.all.items c.loop-row.invariant c.in_ok-add_row.ensures
