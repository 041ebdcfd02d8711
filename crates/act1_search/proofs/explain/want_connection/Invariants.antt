use Rattle.std.proofs.Common.{ℕ, ◌≡◌, ◌<◌, true}
use Rattle.act1_channel.specs.Assignment.{choice_at}
use Rattle.act1_search.specs.Explaining.{is_wanted, KeepsMarks}
use Rattle.act1_search.proofs.explain.want_connection.Given as goal

-- the first choices have a mark
abbrev pub invariant-loop-track : goal.invariant-loop-track
invariant-loop-track l = KeepsMarks l.problem l.initial.wanted l.wanted × ((t : ℕ) → t < l.track → is_wanted l.problem l.wanted (choice_at l.connection t) ≡ true)
