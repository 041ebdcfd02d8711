use Rattle.std.proofs.Common.{inl, inr, refl}
use Rattle.act1_farm.proofs.Gives.{gives_answer, on_err, stops_answer, brings_answer, useless_answer}
use Rattle.act1_farm.proofs.asking.finish.Goals as goal

pub returns-in_err-verdict-in-Ok-clause-err : goal.returns-in_err-verdict-in-Ok-clause-err
returns-in_err-verdict-in-Ok-clause-err g c = on_err _ c.from_residual.result (stops_answer c.args.started.ticket (g.H.Helpers.seen c.args.helpers.now) (g.H.Helpers.seen c.finish.new.self) c.finish.result c.in-Ok.bytes c.in-Ok.is c.finish.ensures)

pub returns-in-Some-clause-ok : goal.returns-in-Some-clause-ok
returns-in-Some-clause-ok g c =
    gives_answer c.args.problem.now c.args.started (g.H.Helpers.seen c.args.helpers.now) c.args.course.now (g.H.Helpers.seen c.finish.new.self) _ c.finish.result c.in-Ok.bytes c.in-Ok.is c.finish.ensures
    (inl (c.in-Some.verdict, brings_answer c.args.problem.now c.as_slice.result.now c.in-Ok.bytes.items c.in_ok-verdict-in-Ok.field-0 c.in-Some.verdict c.as_slice.ensures.value c.in_ok-verdict-in-Ok.ensures c.in-Some.is, cc))

pub returns-in-Ok-clause-ok : goal.returns-in-Ok-clause-ok
returns-in-Ok-clause-ok g c =
    gives_answer c.args.problem.now c.args.started (g.H.Helpers.seen c.args.helpers.now) c.args.course.now (g.H.Helpers.seen c.finish.new.self) _ c.finish.result c.in-Ok.bytes c.in-Ok.is c.finish.ensures
    (inr (useless_answer c.args.problem.now c.as_slice.result.now c.in-Ok.bytes.items c.in_ok-verdict-in-Ok.field-0 c.as_slice.ensures.value c.in_ok-verdict-in-Ok.ensures c.in-None.is, refl))
