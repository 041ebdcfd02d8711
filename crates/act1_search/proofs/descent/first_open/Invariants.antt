use Rattle.std.proofs.Common.{ℕ, ◌<◌}
use Rattle.act1_channel.specs.Assignment.{IsAllowed, choice_at}
use Rattle.act1_search.specs.Closure.{HasFactAbout}
use Rattle.act1_search.proofs.descent.first_open.Given as goal

-- there is a fact about each allowed track so far
abbrev pub invariant-loop-track : goal.invariant-loop-track
invariant-loop-track l = (t : ℕ) → t < l.track → IsAllowed l.problem (choice_at l.connection t) → HasFactAbout l.problem l.watch.steps l.watch.chosen (choice_at l.connection t)
