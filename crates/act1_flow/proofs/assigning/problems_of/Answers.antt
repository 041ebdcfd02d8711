use Rattle.std.proofs.Common.{◌≤◌, arith}
use Rattle.act1_flow.proofs.Verdicts.{all_problems, one_problem, problem_at}
use Rattle.act1_flow.proofs.assigning.problems_of.Goals as goal

pub loop-channel-preserved : goal.loop-channel-preserved
loop-channel-preserved c =
    let dev = c.args.device.now in
    let plan = c.args.plan.now in
    let channels = c.args.routes.now.channels in
    let channel = c.loop-channel.channel in
    let low : channel ≤ dev.rows = omega (arith, c.loop-channel-test.true) in
    rw c.in_ok-push.ensures.ok
    (one_problem dev plan channels channel c.loop-channel.problems c.in_ok-problem_of.field-0 c.loop-channel.invariant (problem_at dev plan channels channel c.in_ok-problem_of.field-0 c.requires.routed low c.in_ok-problem_of.ensures))

pub returns : goal.returns
returns c = all_problems c.args.device.now c.args.plan.now c.args.routes.now.channels c.loop-channel.channel c.loop-channel.problems c.requires.routed (omega arith) c.loop-channel.invariant
