use Rattle.std.proofs.Common.{Ok, ap}
use Rattle.act1_fuses.proofs.GivenNames.{names_after}
use Rattle.act1_fuses.proofs.reader.take_form.Goals as goal

pub returns-clause-given : goal.returns-clause-given
returns-clause-given c =
    names_after c.args.device.now c.args.state.now c.args.line c.step.new.state c.in_ok-is_own.is_own c.args.given.now c.take.new.self c.step.result c.requires c.in_ok-is_own.ensures.own
    (λ e. c.in_ok-is_own.ensures.given (ap Ok e)) c.step.ensures
