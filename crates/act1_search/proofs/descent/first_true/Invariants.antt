use Rattle.std.proofs.Common.{ℕ, ◌<◌}
use Rattle.act1_channel.specs.Clauses.{taken}
use Rattle.act1_channel.specs.Assignment.{choice_at}
use Rattle.act1_search.specs.Closure.{Follows}
use Rattle.act1_search.proofs.descent.first_true.Given as goal

-- no track so far is taken
abbrev pub invariant-loop-track : goal.invariant-loop-track
invariant-loop-track l = (t : ℕ) → t < l.track → Follows l.problem l.watch.steps l.watch.chosen (taken (choice_at l.connection t)) → ⊥
