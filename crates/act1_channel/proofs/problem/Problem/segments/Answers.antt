use Rattle.std.proofs.Common.{arith}
use Rattle.act1_channel.proofs.Breaks.{few_segments_of}
use Rattle.act1_channel.proofs.problem.Problem.segments.Goals as goal

pub overflow_cast-result : goal.overflow_cast-result
overflow_cast-result c =
    let few = few_segments_of c.args.self.now c.from.result c.from-2.result in
    let one = c.segment_count.ensures in
    omega arith
