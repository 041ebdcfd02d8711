use Rattle.std.proofs.Common.{◌∙◌}
use Rattle.act1_search.proofs.Deciding.{calm_of, still_of, decided_more}
use Rattle.act1_search.proofs.descent.descend.Goals as goal

pub decision-requires-clause-calm : goal.decision-requires-clause-calm
decision-requires-clause-calm c =
    let w = c.loop-watch.watch in
    calm_of c.args.problem.now w.steps w.chosen c.loop-watch.invariant.2 (still_of w.problem c.args.problem.now w.steps w.chosen c.conflict.result c.loop-watch.invariant.0 c.conflict.ensures.1 c.loop-watch-test.true)

pub loop-watch-smaller : goal.loop-watch-smaller
loop-watch-smaller c =
    let w = c.loop-watch.watch in
    let still = still_of w.problem c.args.problem.now w.steps w.chosen c.conflict.result c.loop-watch.invariant.0 c.conflict.ensures.1 c.loop-watch-test.true in
    (decided_more c.args.problem.now w c.assume.new.self c.in-Some.choice c.loop-watch.invariant.0 c.loop-watch.invariant.2 still c.in-Some.ensures c.assume.ensures).3

pub loop-watch-preserved : goal.loop-watch-preserved
loop-watch-preserved c =
    let w = c.loop-watch.watch in
    let still = still_of w.problem c.args.problem.now w.steps w.chosen c.conflict.result c.loop-watch.invariant.0 c.conflict.ensures.1 c.loop-watch-test.true in
    let r = decided_more c.args.problem.now w c.assume.new.self c.in-Some.choice c.loop-watch.invariant.0 c.loop-watch.invariant.2 still c.in-Some.ensures c.assume.ensures in
    (r.0, r.1 ∙ c.loop-watch.invariant.1, r.2)
