-- What the search answers under a budget.
use Rattle.std.specs.Prelude.{ℕ, ◌+◌, ◌^◌, ◌<◌, ◌≤◌, ◌≡◌, ◌≢◌, List, [], Result, Ok, Err, length}
use Rattle.act1_channel.specs.declared.problem.Problem.{Problem}
use Rattle.act1_channel.specs.declared.problem.Choice.{Choice}
use Rattle.act1_channel.specs.Acceptance.{IsAccepted, choices_of}
use Rattle.act1_search.specs.declared.verdict.Verdict.{Verdict}
use Rattle.act1_search.specs.declared.verdict.Verdict.TheVariants.{Assigned, Refuted}
use Rattle.act1_search.specs.declared.verdict.SearchStop.{SearchStop}
use Rattle.act1_search.specs.declared.verdict.SearchStop.TheVariants as stop
use Rattle.act1_search.specs.Search.{HasConflict, EndsRefuted, EndsAssigned}

-- an assignment of the search, an accepted log with its steps, or that its conflict of the budget's number has choices, so that the budget is below (1 + T)^n
abbrev pub IsAnswer : Problem → ℕ → Result Verdict SearchStop → Type 0
IsAnswer p budget (Ok (Assigned tracks)) = (steps : List (List Choice)) × EndsAssigned p steps tracks × (length steps < budget)
IsAnswer p budget (Ok (Refuted log)) = EndsRefuted p (choices_of log.steps) × (length log.steps ≤ budget) × IsAccepted p log.steps
IsAnswer p budget (Err (stop.Spent conflicts)) = (conflicts ≡ budget) × (budget < (1 + length p.tracks) ^ length p.connections) × ((chosen : List Choice) × HasConflict p budget chosen × (chosen ≢ []))
IsAnswer p budget (Err stop.Memory) = Unit {0}
