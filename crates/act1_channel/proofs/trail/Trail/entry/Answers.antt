use Rattle.std.proofs.Common.{◌<◌, length, take, slice_get, ◌≡◌, Some, arith}
use Rattle.std.proofs.lemmas.List.{length-take}
use Rattle.act1_base.proofs.ListGets.{get_read}
use Rattle.act1_channel.proofs.Takes.{get_take}
use Rattle.act1_channel.proofs.Truths.{found_truth}
use Rattle.act1_channel.proofs.trail.Trail.entry.Goals as goal

pub returns-clause-truth : goal.returns-clause-truth
returns-clause-truth c =
    let low = rw (← c.self.view_is) at c.requires in
    let l = length-take c.self.inside.used c.self.inside.entries.items in
    let used : c.args.at < c.self.inside.used = omega arith in
    let long : c.args.at < length c.self.inside.entries.items = omega arith in
    let own = get_read c.self.inside.entries.items c.args.at c.index.result.now long c.index.ensures in
    rw (← c.self.view_is) (found_truth (take c.self.inside.used c.self.inside.entries.items) c.self.invariant.distinct c.args.at c.index.result.now (get_take c.self.inside.entries.items c.self.inside.used c.args.at c.index.result.now used own))
