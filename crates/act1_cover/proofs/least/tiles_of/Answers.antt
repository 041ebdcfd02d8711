use Rattle.std.proofs.Common.{arith}
use Rattle.act1_cover.proofs.PassSteps.{pass_ends}
use Rattle.act1_cover.proofs.least.tiles_of.Goals as goal

pub returns : goal.returns
returns c =
    let ended = c.loop-fork-test.false in
    let end = c.loop-fork.auto.fork-end in
    let long = c.len-fork-end.ensures in
    pass_ends c.args.forest.now c.requires.forest c.args.table.now c.requires.table c.loop-fork.fork c.loop-fork.marks.items c.loop-fork.tiles (omega arith) c.loop-fork.invariant (omega arith)
