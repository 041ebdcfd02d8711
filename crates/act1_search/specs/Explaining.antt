-- How the hints of a step are found: from the last fact back to the first, the reasons of the facts that are wanted.
use Rattle.std.specs.Prelude.{ℕ, ◌≡◌, ◌<◌, ◌^◌, ◌⊎◌, Bool, true, false, Some, None, List, [], ◌∷◌, ◌++◌, length, map, take, slice_get, slice_index_or, Contains}
use Rattle.act1_channel.specs.declared.problem.Problem.{Problem}
use Rattle.act1_channel.specs.declared.problem.Choice.{Choice}
use Rattle.act1_channel.specs.declared.problem.Hint.{Hint}
use Rattle.act1_channel.specs.declared.problem.Step.{Step}
use Rattle.act1_channel.specs.declared.trail.Entry.{Entry}
use Rattle.act1_channel.specs.Acceptance.{LeadToConflict, choices_of}
use Rattle.act1_channel.specs.Assignment.{IsAllowed}
use Rattle.act1_channel.specs.Clauses.{Fact, taken, IsClause, IsPart}
use Rattle.act1_channel.specs.Found.{place}

-- the choice has a mark in the table
abbrev pub is_wanted : Problem → List Bool → Choice → Bool
is_wanted p marks c = slice_index_or marks (place (length p.tracks) c) false

-- what has a mark keeps it
pub record KeepsMarks (p : Problem) (old new : List Bool) : Type 0 where
  pub room : length new ≡ length old
  pub kept : (c : Choice) → is_wanted p old c ≡ true → is_wanted p new c ≡ true

-- and the choices of all parts of the clause have one
pub record MarksParts (p : Problem) (steps : List (List Choice)) (h : Hint) (old new : List Bool) : Type 0 where
  pub keeps : KeepsMarks p old new
  pub parts : (f : Fact) → IsPart p steps h f → is_wanted p new f.choice ≡ true

-- each reason is a clause
abbrev pub AreReasons : Problem → List (List Choice) → List Entry → Type 0
AreReasons p steps found = (n : ℕ) (e : Entry) (h : Hint) → slice_get found n ≡ Some e → e.why ≡ Some h → IsClause p steps h

-- each choice of a step is allowed
abbrev pub AreStepsAllowed : Problem → List (List Choice) → Type 0
AreStepsAllowed p steps = (n : ℕ) (step : List Choice) (c : Choice) → slice_get steps n ≡ Some step → Contains step c → IsAllowed p c

-- what a fact adds to the hints and the marks: nothing, if it has no mark or was assumed; else its reason
abbrev pub AddsReason : Problem → List (List Choice) → Entry → List Bool → List Bool → List Hint → List Hint → Type 0
AddsReason p steps e old new before after =
    (((is_wanted p old e.choice ≡ false) ⊎ (e.why ≡ None)) × (new ≡ old) × (after ≡ before))
    ⊎ ((h : Hint) × (e.why ≡ Some h) × (after ≡ before ++ h ∷ []) × MarksParts p steps h old new)

-- each step has hints that lead to a conflict after the steps before it
abbrev pub AreShown : Problem → List Step → Type 0
AreShown p log = (n : ℕ) (s : Step) → slice_get log n ≡ Some s → LeadToConflict p (choices_of (take n log)) (map taken s.choices) s.hints

-- the log has these steps and at the end the one without choices, each with its hints
pub record IsLogOf (p : Problem) (steps : List (List Choice)) (log : List Step) : Type 0 where
  pub choices : choices_of log ≡ steps ++ [] ∷ []
  pub shown : AreShown p log
  pub few : length log < 2 ^ 32
