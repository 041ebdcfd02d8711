use Rattle.std.proofs.Common.{ℕ, length, subst, ◌<◌}
use Rattle.act1_farm.proofs.Gives.{on_ok, on_error}
use Rattle.act1_farm.proofs.Courses.{ask_begun, ask_less, ask_lifts, done_within}
use Rattle.act1_farm.specs.Story.{asked_for, job_bytes}
use Rattle.act1_farm.proofs.asking.ask_next.Goals as goal

pub returns : goal.returns
returns g c =
    let program = c.args.program.now in
    let wanted = asked_for c.args.problems.now in
    let budget = c.args.budget in
    let jobs = c.args.jobs in
    let before = g.H.Helpers.seen c.args.helpers.now in
    let after = g.H.Helpers.seen c.ask_for.new.helpers in
    let p = c.problem_at-problem.result.now in
    let there = c.problem_at-problem.ensures in
    let next : c.args.course.now.asked < length wanted = subst (λ (n : ℕ). c.args.course.now.asked < n) c.requires.channels.each c.requires.next in
    record {
      ok = λ start k. on_ok _ _ c.ask_for.result (ask_lifts program wanted budget jobs start before c.args.course.now k p there c.requires.low after c.ask_for.new.course) c.ask_for.ensures.ok;
      err = λ start k. on_error _ _ c.ask_for.result (ask_begun program wanted budget jobs start before c.args.course.now k p there c.requires.low after) c.ask_for.ensures.err;
      less = on_ok _ _ c.ask_for.result (λ a. ask_less program (job_bytes budget p) before after c.args.course.now c.ask_for.new.course (length wanted) a next (done_within program wanted budget jobs before c.args.course.now c.requires.course)) c.ask_for.ensures.ok;
    }
