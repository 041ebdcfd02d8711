-- That the answer is spent exactly where it may be.
use Rattle.std.specs.Prelude.{ℕ, ◌≢◌, Ok, List, []}
use Rattle.act1_channel.specs.declared.problem.Problem.{Problem}
use Rattle.act1_channel.specs.declared.problem.Choice.{Choice}
use Rattle.act1_search.specs.declared.verdict.Verdict.{Verdict}
use Rattle.act1_search.specs.Search.{HasConflict, EndsAssigned}
use Rattle.act1_channel.specs.Assignment.{Assigns}
use Rattle.act1_search.specs.Answers.{IsAnswer}

-- where the search has a conflict of the budget's number, with choices, no verdict is an answer
abbrev pub SpendingIsExact : Type 0
SpendingIsExact = (p : Problem) (budget : ℕ) (chosen : List Choice) (verdict : Verdict) → HasConflict p budget chosen → chosen ≢ [] → IsAnswer p budget (Ok verdict) → ⊥

-- the tracks at which the search ends are an assignment
abbrev pub AssignmentsFit : Type 0
AssignmentsFit = (p : Problem) (steps : List (List Choice)) (tracks : List ℕ) → EndsAssigned p steps tracks → Assigns p tracks
