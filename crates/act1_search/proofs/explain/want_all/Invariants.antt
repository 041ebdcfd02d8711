use Rattle.std.proofs.Common.{ℕ, ◌≡◌, ◌<◌, Some, slice_get, true}
use Rattle.act1_channel.specs.declared.problem.Choice.{Choice}
use Rattle.act1_search.specs.Explaining.{is_wanted, KeepsMarks}
use Rattle.act1_search.proofs.explain.want_all.Given as goal

-- the first choices have a mark
abbrev pub invariant-loop-choice : goal.invariant-loop-choice
invariant-loop-choice l = KeepsMarks l.problem l.initial.wanted l.wanted × ((i : ℕ) (c : Choice) → i < l.choice-index → slice_get l.choices i ≡ Some c → is_wanted l.problem l.wanted c ≡ true)
