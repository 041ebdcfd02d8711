use Rattle.std.proofs.Common.{◌<◌, ◌-◌, length, refl}
use Rattle.act1_base.proofs.ListGets.{get_read}
use Rattle.act1_channel.proofs.Tables.{back_table, used_within}
use Rattle.act1_channel.proofs.trail.Trail.take_back.Goals as goal

pub invariant_of-self : goal.invariant_of-self
invariant_of-self c =
    let some = rw (← c.self.view_is) at c.requires in
    let low = used_within c.self.inside.entries.items c.self.inside.used c.self.inside.table.items c.self.inside.tracks c.self.invariant some in
    let before : c.self.inside.used - 1 < length c.self.inside.entries.items = low.1 in
    back_table c.self.inside.entries.items c.self.inside.used c.self.inside.table.items c.self.inside.tracks c.index.result.now _ c.self.invariant low.0
    (get_read c.self.inside.entries.items (c.self.inside.used - 1) c.index.result.now before c.index.ensures) (rw (c.from.ensures, c.from-2.ensures) refl)
