use Rattle.std.proofs.Common.{◌-◌}
use Rattle.act1_engine.proofs.RoundSteps.{RoundAt}
use Rattle.act1_engine.proofs.rounds.fire_round.Given as goal

-- the round has come so far
abbrev pub invariant-loop-module : goal.invariant-loop-module
invariant-loop-module l = RoundAt l.modules l.from l.wiring l.fn.values.items l.values.items l.marks

abbrev pub decreases-loop-module : goal.decreases-loop-module
decreases-loop-module l = l.modules - l.from
