use Rattle.std.proofs.Common.{◌≡◌, Some, true}
use Rattle.act1_channel.specs.Found.{truth_in, IsFor}
use Rattle.act1_search.specs.Propagation.{Grows, AreKeptOff}
use Rattle.act1_search.proofs.propagate.spread.Given as goal

-- the connections so far are kept off
abbrev pub invariant-loop-other : goal.invariant-loop-other
invariant-loop-other l = IsFor l.problem l.trail × Grows l.problem l.initial.trail.entries l.trail.entries × (truth_in l.trail.entries l.choice ≡ Some true) × AreKeptOff l.problem l.trail.entries l.choice l.other
