use Rattle.std.proofs.Common.{ℕ, ◌+◌, ◌<◌, get_or}
use Rattle.std.specs.Prelude.{All}
use Rattle.act1_channel.specs.declared.problem.Choice.{Choice}
use Rattle.act1_channel.specs.Acceptance.{IsBefore, IsInRange}
use Rattle.act1_refute.proofs.steps.are_in_order.Given as goal

abbrev pub invariant-loop-choice : goal.invariant-loop-choice
invariant-loop-choice l = (k : ℕ) (d : Choice) → k < l.choice-index → IsInRange l.problem (get_or l.choices k d)

abbrev pub invariant-loop-i : goal.invariant-loop-i
invariant-loop-i l = All (IsInRange l.problem) l.choices × ((k : ℕ) (d : Choice) → k + 1 < l.i → IsBefore (get_or l.choices k d) (get_or l.choices (k + 1) d))
