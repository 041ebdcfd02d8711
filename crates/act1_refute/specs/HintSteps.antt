-- What the facts leave of the clause that a hint names.
use Rattle.std.specs.Prelude.{ℕ, ◌≡◌, ◌⊎◌, Bool, true, false, Some, List, slice_get, All, Contains}
use Rattle.act1_base.specs.Rising.{Rises}
use Rattle.act1_channel.specs.declared.problem.Problem.{Problem}
use Rattle.act1_channel.specs.declared.problem.Choice.{Choice}
use Rattle.act1_channel.specs.declared.problem.Hint.{Hint}
use Rattle.act1_channel.specs.declared.problem.Hint.TheVariants as hint
use Rattle.act1_channel.specs.declared.problem.Step.{Step}
use Rattle.act1_channel.specs.Assignment.{choice_at, IsAllowed}
use Rattle.act1_channel.specs.Clauses.{Fact, IsContradicted, IsUnit}
use Rattle.act1_channel.specs.Acceptance.{IsBefore, IsInRange}
use Rattle.act1_refute.specs.declared.status.Status.{Status}
use Rattle.act1_refute.specs.declared.status.Status.TheVariants as status

-- whether the parts of the clause say that choices are taken
abbrev pub truth_of : Hint → Bool
truth_of (hint.AtLeast c) = true
truth_of (hint.Clash c d t) = false
truth_of (hint.Step n) = false

abbrev pub part_at : Hint → Choice → Fact
part_at h c = record { choice = c; truth = truth_of h }

abbrev pub IsStatusOf : Problem → List (List Choice) → List Fact → Hint → Status → Type 0
IsStatusOf p steps facts h status.Contradicted = IsContradicted p steps facts h
IsStatusOf p steps facts h (status.Unit c) = IsUnit p steps facts h (part_at h c)
IsStatusOf p steps facts h status.Open = (IsContradicted p steps facts h → ⊥) × ((f : Fact) → IsUnit p steps facts h f → ⊥)

-- the choices are there and rise
pub record AreInOrder (p : Problem) (choices : List Choice) : Type 0 where
  pub within : All (IsInRange p) choices
  pub rise : Rises IsBefore choices

-- .. in each of these steps
abbrev pub StepsAreInOrder : Problem → List Step → Type 0
StepsAreInOrder p steps = (n : ℕ) (step : Step) → slice_get steps n ≡ Some step → AreInOrder p step.choices

-- the two choices of a clash
abbrev pub IsEither : ℕ → ℕ → ℕ → Choice → Type 0
IsEither c d t choice = (choice ≡ choice_at c t) ⊎ (choice ≡ choice_at d t)

-- a choice of the step of a number
abbrev pub IsOfStep : List (List Choice) → ℕ → Choice → Type 0
IsOfStep steps n choice = (step : List Choice) × (slice_get steps n ≡ Some step) × Contains step choice

-- an allowed choice of the connection
abbrev pub IsOwn : Problem → ℕ → Choice → Type 0
IsOwn p c choice = (choice.connection ≡ c) × IsAllowed p choice
