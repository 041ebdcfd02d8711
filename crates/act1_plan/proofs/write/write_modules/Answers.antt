use Rattle.std.proofs.Common.{◌≤◌, length, arith}
use Rattle.std.specs.Prelude.{min}
use Rattle.act1_plan.proofs.PlanWrites.{modules_done}
use Rattle.act1_plan.proofs.write.write_modules.Goals as goal

pub returns : goal.returns
returns c =
    let done = c.loop-at-test.false in
    let whole : min (length c.args.spots.now) (length c.args.modules.now) ≤ c.loop-at.at = omega (arith, done, c.min-at-end.ensures) in
    modules_done _ c.loop-at.text.items c.args.spots.now c.args.modules.now c.loop-at.at whole c.loop-at.invariant
