use Rattle.std.proofs.Common.{sym, subst}
use Rattle.act1_farm.specs.Story.{asked_for, jobs_of}
use Rattle.act1_farm.specs.Course.{IsCourse}
use Rattle.act1_farm.specs.declared.course.Course.{Course}
use Rattle.act1_farm.proofs.Gives.{on_err}
use Rattle.act1_farm.proofs.WholeCourses.{first_course, begun_story, unbegun_story}
use Rattle.act1_farm.proofs.asking.ask_all.Goals as goal

pub returns-in_err-course-clause-err : goal.returns-in_err-course-clause-err
returns-in_err-course-clause-err g c = on_err _ c.from_residual.result (unbegun_story c.args.program.now (jobs_of c.args.budget (asked_for c.args.problems.now)) c.args.jobs (g.H.Helpers.seen c.args.helpers.now) c.requires.jobs)

pub loop-course-init : goal.loop-course-init
loop-course-init g c =
    let bench = g.H.Helpers.seen c.args.helpers.now in
    subst (λ (course : Course). IsCourse c.args.program.now (asked_for c.args.problems.now) c.args.budget c.args.jobs bench bench course) (sym c.in_ok-course.ensures)
    (first_course c.args.program.now (asked_for c.args.problems.now) c.args.budget c.args.jobs _ bench (g.met.H.Helpers.next_above c.args.helpers.now) c.requires.channels.each)

pub returns-in_err-step-clause-err : goal.returns-in_err-step-clause-err
returns-in_err-step-clause-err g c = on_err _ c.from_residual-in_err-step.result
    (begun_story c.args.program.now (jobs_of c.args.budget (asked_for c.args.problems.now)) c.args.jobs (g.H.Helpers.seen c.args.helpers.now) (g.H.Helpers.seen c.step.new.helpers) c.requires.jobs
    (c.in_err-step.ensures.err (g.H.Helpers.seen c.args.helpers.now) c.loop-course.invariant))
