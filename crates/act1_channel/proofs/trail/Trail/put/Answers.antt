use Rattle.std.proofs.Common.{refl}
use Rattle.act1_channel.proofs.Tables.{put_table}
use Rattle.act1_channel.proofs.trail.Trail.put.Goals as goal

pub invariant_of-self : goal.invariant_of-self
invariant_of-self c =
    let place = rw (← c.self.view_is) at c.requires.place in
    let free = rw (← c.self.view_is) at c.requires.free in
    put_table c.self.inside.entries.items c.self.inside.used c.self.inside.table.items c.self.inside.tracks c.args.entry _ c.self.invariant (rw (c.from.ensures, c.from-2.ensures) refl) place.0 place.1 free
