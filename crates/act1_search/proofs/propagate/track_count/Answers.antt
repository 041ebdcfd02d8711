use Rattle.std.proofs.Common.{arith}
use Rattle.act1_channel.proofs.Breaks.{sizes}
use Rattle.act1_search.proofs.propagate.track_count.Goals as goal

pub overflow_cast-result : goal.overflow_cast-result
overflow_cast-result c =
    let few = sizes c.args.problem.now in
    let is = c.len.ensures in
    omega arith
