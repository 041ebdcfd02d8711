-- Which steps of a refutation are accepted, and which logs.
use Rattle.std.specs.Prelude.{ℕ, ◌≡◌, ◌-◌, ◌<◌, ◌⊎◌, List, [], ◌∷◌, ◌++◌, length, map, take, slice_get, Some, All}
use Rattle.act1_base.specs.Rising.{Rises}
use Rattle.act1_channel.specs.declared.problem.Problem.{Problem}
use Rattle.act1_channel.specs.declared.problem.Choice.{Choice}
use Rattle.act1_channel.specs.declared.problem.Hint.{Hint}
use Rattle.act1_channel.specs.declared.problem.Step.{Step}
use Rattle.act1_channel.specs.Clauses.{Fact, taken, IsContradicted, IsUnit}

-- connection and track are there
abbrev pub IsInRange : Problem → Choice → Type 0
IsInRange p c = (c.connection < length p.connections) × (c.track < length p.tracks)

-- by connection and then by track
abbrev pub IsBefore : Choice → Choice → Type 0
IsBefore a b = (a.connection < b.connection) ⊎ ((a.connection ≡ b.connection) × (a.track < b.track))

-- the hints, taken in order from these facts on: each but the last names a clause of which all parts but an undecided one are false,
-- and that part becomes a fact; the last one names a clause whose parts are all false
abbrev pub LeadToConflict : Problem → List (List Choice) → List Fact → List Hint → Type 0
LeadToConflict p steps facts [] = ⊥
LeadToConflict p steps facts (h ∷ []) = IsContradicted p steps facts h
LeadToConflict p steps facts (h ∷ g ∷ hints) = (f : Fact) × IsUnit p steps facts h f × LeadToConflict p steps (facts ++ f ∷ []) (g ∷ hints)

-- a step after these steps: its choices are in range and rise, and where they are all taken its hints lead to a conflict
pub record IsAcceptedStep (p : Problem) (steps : List (List Choice)) (step : Step) : Type 0 where
  pub within : All (IsInRange p) step.choices
  pub rise : Rises IsBefore step.choices
  pub shown : LeadToConflict p steps (map taken step.choices) step.hints

abbrev pub choices_of : List Step → List (List Choice)
choices_of steps = map (λ s. s.choices) steps

-- each step is accepted after those before it
abbrev pub AreAccepted : Problem → List Step → Type 0
AreAccepted p log = (n : ℕ) (step : Step) → slice_get log n ≡ Some step → IsAcceptedStep p (choices_of (take n log)) step

-- there is a last step, and it has no choices
abbrev pub IsFinished : List Step → Type 0
IsFinished log = (step : Step) × (slice_get log (length log - 1) ≡ Some step) × (step.choices ≡ [])

pub record IsAccepted (p : Problem) (log : List Step) : Type 0 where
  pub each : AreAccepted p log
  pub last : IsFinished log
