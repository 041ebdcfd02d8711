use Rattle.act1_channel.proofs.problem.Problem.allowed.Goals as goal

pub returns : goal.returns
returns c = rw (← c.from.ensures, ← c.from-2.ensures) c.may_take.ensures
