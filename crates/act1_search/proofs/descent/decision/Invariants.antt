use Rattle.std.proofs.Common.{ℕ, ◌<◌}
use Rattle.act1_search.specs.Closure.{HasTrueChoice}
use Rattle.act1_search.proofs.descent.decision.Given as goal

-- each connection so far has a true choice
abbrev pub invariant-loop-connection : goal.invariant-loop-connection
invariant-loop-connection l = (c : ℕ) → c < l.connection → HasTrueChoice l.problem l.watch.steps l.watch.chosen c
