use Rattle.std.proofs.Common.{arith}
use Rattle.act1_channel.specs.Assignment.{connection_at}
use Rattle.act1_channel.proofs.Breaks.{in_order, rises, few_segments}
use Rattle.act1_channel.proofs.problem.Problem.segment_count.Goals as goal

pub overflow_add-result : goal.overflow_add-result
overflow_add-result c =
    let p = c.args.self.now in
    let few = few_segments p c.args.t (connection_at p c.args.c).right in
    let is = c.last.ensures in
    omega arith

pub overflow_sub-result : goal.overflow_sub-result
overflow_sub-result c =
    let p = c.args.self.now in
    let up = rises p c.args.t (connection_at p c.args.c).left (connection_at p c.args.c).right (in_order p c.args.c) in
    let one = c.last.ensures in
    let two = c.first.ensures in
    omega arith
