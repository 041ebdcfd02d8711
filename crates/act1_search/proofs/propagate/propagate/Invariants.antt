use Rattle.std.proofs.Common.{◌-◌}
use Rattle.act1_channel.specs.Found.{IsFor}
use Rattle.act1_search.specs.Propagation.{Grows, AreInside, IsPending}
use Rattle.act1_search.proofs.propagate.propagate.Given as goal

-- the facts so far had their effect
abbrev pub invariant-loop-at : goal.invariant-loop-at
invariant-loop-at l = IsFor l.problem l.trail × Grows l.problem l.initial.trail.entries l.trail.entries × AreInside l.problem l.trail.entries × IsPending l.problem l.trail.entries l.at

abbrev pub decreases-loop-at : goal.decreases-loop-at
decreases-loop-at l = l.trail.places - l.at
