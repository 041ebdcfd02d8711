use Rattle.std.proofs.Common.{ℕ, ◌≡◌, ◌<◌, ◌-◌, length, Some}
use Rattle.std.specs.Prelude.{slice_get}
use Rattle.act1_order.specs.SearchSteps.{HasState}
use Rattle.act1_order.specs.declared.search.State.TheVariants as state
use Rattle.act1_order.proofs.search.first_new.Given as goal

-- the reads before this place aren't new
abbrev pub invariant-loop-at : goal.invariant-loop-at
invariant-loop-at l = (k w : ℕ) → k < l.at → slice_get l.reads k ≡ Some w → HasState l.states w state.New → ⊥

abbrev pub decreases-loop-at : goal.decreases-loop-at
decreases-loop-at l = length l.reads - l.at
