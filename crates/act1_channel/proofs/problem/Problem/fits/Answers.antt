use Rattle.std.proofs.Common.{arith}
use Rattle.act1_channel.proofs.problem.Problem.fits.Goals as goal

pub are_apart-requires-clause-allowed : goal.are_apart-requires-clause-allowed
are_apart-requires-clause-allowed c = c.are_allowed.ensures.0 c.if-are_allowed.true

pub returns-then-are_allowed : goal.returns-then-are_allowed
returns-then-are_allowed c = (
  λ e. record { each = omega arith; allowed = c.are_allowed.ensures.0 c.if-are_allowed.true; apart = c.are_apart.ensures.0 e },
  λ fits. c.are_apart.ensures.1 fits.apart,
)
