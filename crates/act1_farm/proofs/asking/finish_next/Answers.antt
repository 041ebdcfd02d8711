use Rattle.std.proofs.Common.{length}
use Rattle.act1_farm.proofs.Gives.{on_ok, on_error}
use Rattle.act1_farm.proofs.Courses.{finish_begun, finish_less, finish_lifts, number_within, ticket_open, all_or_full}
use Rattle.act1_farm.specs.Story.{asked_for}
use Rattle.act1_farm.proofs.asking.finish_next.Goals as goal

pub problem_at-problem-requires-clause-number : goal.problem_at-problem-requires-clause-number
problem_at-problem-requires-clause-number g c = (number_within c.args.problems.now c.args.channels.now c.args.program.now c.args.budget c.args.jobs (g.H.Helpers.seen c.args.helpers.now) c.args.course.now c.requires.channels c.requires.course c.args.course.now.done c.oldest-started.result c.oldest-started.ensures).0

pub finish-requires-clause-open : goal.finish-requires-clause-open
finish-requires-clause-open g c = ticket_open c.args.program.now (asked_for c.args.problems.now) c.args.budget c.args.jobs (g.H.Helpers.seen c.args.helpers.now) c.args.course.now c.requires.course c.oldest-started.result c.oldest-started.ensures

pub finish-requires-clause-number : goal.finish-requires-clause-number
finish-requires-clause-number g c = (number_within c.args.problems.now c.args.channels.now c.args.program.now c.args.budget c.args.jobs (g.H.Helpers.seen c.args.helpers.now) c.args.course.now c.requires.channels c.requires.course c.args.course.now.done c.oldest-started.result c.oldest-started.ensures).1

pub returns : goal.returns
returns g c =
    let program = c.args.program.now in
    let wanted = asked_for c.args.problems.now in
    let budget = c.args.budget in
    let jobs = c.args.jobs in
    let before = g.H.Helpers.seen c.args.helpers.now in
    let after = g.H.Helpers.seen c.finish.new.helpers in
    let b = c.oldest-started.result in
    let at = c.oldest-started.ensures in
    let p = c.problem_at-problem.result.now in
    let there = c.problem_at-problem.ensures in
    let full = all_or_full c.args.problems.now c.args.channels.now c.args.course.now jobs c.requires.channels c.requires.full in
    record {
      ok = λ start k. on_ok _ _ c.finish.result (finish_lifts program wanted budget jobs start before c.args.course.now k b at p there full after c.finish.new.course) c.finish.ensures.ok;
      err = λ start k. on_error _ _ c.finish.result (finish_begun program wanted budget jobs start before c.args.course.now k b at p there full after) c.finish.ensures.err;
      less = on_ok _ _ c.finish.result (λ f. finish_less p b before after c.args.course.now c.finish.new.course (length wanted) f c.requires.some) c.finish.ensures.ok;
    }
