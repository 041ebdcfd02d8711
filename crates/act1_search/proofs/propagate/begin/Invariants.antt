use Rattle.std.proofs.Common.{ℕ, ◌<◌}
use Rattle.act1_channel.specs.Found.{IsFor}
use Rattle.act1_search.specs.Propagation.{Grows}
use Rattle.act1_search.proofs.Growing.{Due}
use Rattle.act1_search.proofs.propagate.begin.Given as goal

-- the connections so far are served, or refused a track later
abbrev pub invariant-loop-connection : goal.invariant-loop-connection
invariant-loop-connection l = IsFor l.problem l.trail × Grows l.problem l.initial.trail.entries l.trail.entries × ((c : ℕ) → c < l.connection → Due l.problem 0 l.trail.entries c)
