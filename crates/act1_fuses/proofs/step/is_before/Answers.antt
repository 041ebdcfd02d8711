use Rattle.act1_fuses.proofs.Searches.{before_end}
use Rattle.act1_fuses.proofs.step.is_before.Goals as goal

pub returns-then-i-xs : goal.returns-then-i-xs
returns-then-i-xs c = before_end c.args.xs.now c.args.ys.now c.loop-i.i _ c.loop-i.invariant 0 c.if-i-xs.true c.loop-i-test.true
