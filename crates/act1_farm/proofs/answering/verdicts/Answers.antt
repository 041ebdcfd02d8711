use Rattle.std.proofs.Common.{sym, subst, arith}
use Rattle.std.proofs.lemmas.Result.{err_from_is_err_and}
use Rattle.act1_farm.specs.declared.outcome.Tally.{Tally}
use Rattle.act1_farm.specs.Helping.{tally_of}
use Rattle.act1_farm.specs.Verdicts.{IsCounted, WereAsked}
use Rattle.act1_farm.specs.Deciding.{StopsAt}
use Rattle.act1_farm.proofs.ChannelLoop.{fewer_asked}
use Rattle.act1_farm.proofs.Counts.{found_decides}
use Rattle.act1_farm.proofs.Outcomes.{are_counted, are_exact, stops_are, verdicts_are, whole_began}
use Rattle.act1_farm.proofs.answering.verdicts.Goals as goal

pub tally_of-tally-requires : goal.tally_of-tally-requires
tally_of-tally-requires g c =
    let each = c.in_ok-course.ensures.helped.found.each in
    let fewer = fewer_asked c.args.problems.now in
    let few = c.requires.few in
    omega arith

pub decide-requires-clause-decides : goal.decide-requires-clause-decides
decide-requires-clause-decides g c =
    found_decides c.args.program.now c.args.problems.now c.args.budget c.args.jobs (g.H.Helpers.seen c.args.helpers.now) (g.H.Helpers.seen c.help.new.helpers) c.in_ok-course.course c.in_ok-course.ensures.helped

pub returns-in_err-answers-clause-err : goal.returns-in_err-answers-clause-err
returns-in_err-answers-clause-err g c =
    let problems = c.args.problems.now in
    let before = g.H.Helpers.seen c.args.helpers.now in
    let after = g.H.Helpers.seen c.help.new.helpers in
    let course = c.in_ok-course.course in
    let helped = c.in_ok-course.ensures.helped in
    let why = c.in_err-answers.field-0.0 in
    let at = subst (λ (t : Tally). StopsAt problems c.args.budget course.answers t why) c.tally_of-tally.ensures c.in_err-answers.ensures.err in
    let p = err_from_is_err_and c.from_residual-in_err-answers.result c.from_residual-in_err-answers.ensures.1 in
    rw (p.1, p.2)
    (stops_are c.args.program.now problems c.args.budget c.args.jobs before after course helped why at (whole_began c.args.program.now problems c.args.budget c.args.jobs before after course helped))

pub returns-clause-ok : goal.returns-clause-ok
returns-clause-ok g c =
    let helped = c.in_ok-course.ensures.helped in
    record {
      s = helped.s;
      asked = subst (λ (t : Tally). WereAsked c.args.program.now c.args.problems.now c.args.budget c.args.jobs (g.H.Helpers.seen c.args.helpers.now) (g.H.Helpers.seen c.help.new.helpers) helped.s t) (sym c.tally_of-tally.ensures) helped.asked;
      verdicts = verdicts_are c.args.problems.now c.args.budget helped.s c.in_ok-course.course.answers helped.found c.in_ok-answers.answers c.in_ok-answers.ensures.ok;
    }

pub returns-clause-exact : goal.returns-clause-exact
returns-clause-exact g c =
    let helped = c.in_ok-course.ensures.helped in
    are_exact c.args.problems.now c.args.budget helped.s c.in_ok-answers.answers
    (verdicts_are c.args.problems.now c.args.budget helped.s c.in_ok-course.course.answers helped.found c.in_ok-answers.answers c.in_ok-answers.ensures.ok)

pub returns-clause-counted : goal.returns-clause-counted
returns-clause-counted g c =
    let helped = c.in_ok-course.ensures.helped in
    subst (λ (t : Tally). IsCounted c.args.problems.now c.args.jobs t) (sym c.tally_of-tally.ensures)
    (are_counted c.args.program.now c.args.problems.now c.args.budget c.args.jobs (g.H.Helpers.seen c.args.helpers.now) (g.H.Helpers.seen c.help.new.helpers) helped.s (tally_of c.in_ok-course.course) helped.asked)
