-- The laws of the search.
use Rattle.std.specs.Prelude.{ℕ, ◌≡◌, ◌≢◌, ◌+◌, ◌<◌, ◌≤◌, ◌^◌, ◌⊎◌, ◌↔◌, List, [], ◌∷◌, ◌++◌, length, take, slice_get, Some}
use Rattle.act1_channel.specs.declared.problem.Problem.{Problem}
use Rattle.act1_channel.specs.declared.problem.Choice.{Choice}
use Rattle.act1_channel.specs.Clauses.{Fact, taken, refused}
use Rattle.act1_search.specs.Closure.{Follows, IsInConflict, HasFactAbout}
use Rattle.act1_search.specs.Search.{Descends, AreConflicts, HasConflict, EndsRefuted, EndsAssigned}
use Rattle.act1_search.specs.Watching.{IsVisited, IsWatched, Stands, Keeps, KeepsConflict}

-- wherever the machine that takes decisions back stands, its steps are the conflicts so far of the search, and its choices stand in the descent after them
abbrev pub VisitsTheSearch : Type 0
VisitsTheSearch = (p : Problem) (steps : List (List Choice)) (chosen : List Choice) → IsVisited p steps chosen
    → AreConflicts p steps × ((n : ℕ) → slice_get steps n ≢ Some []) × Descends p steps chosen

-- the conflict of a number has one list of choices
abbrev pub ConflictsAreUnique : Type 0
ConflictsAreUnique = (p : Problem) (number : ℕ) (one other : List Choice) → HasConflict p number one → HasConflict p number other → one ≡ other

-- where the search ends, in a refutation or an assignment, there is no further conflict
abbrev pub EndsAreLast : Type 0
EndsAreLast = (p : Problem) (steps others : List (List Choice)) → AreConflicts p others
    → (EndsRefuted p steps → length others ≤ length steps) × ((tracks : List ℕ) → EndsAssigned p steps tracks → length others ≤ length steps)

-- the search ends at one assignment, after one list of conflicts, and then in no refutation
abbrev pub EndsAreUnique : Type 0
EndsAreUnique = (p : Problem) (steps : List (List Choice)) (tracks : List ℕ) → EndsAssigned p steps tracks
    → ((others : List (List Choice)) (more : List ℕ) → EndsAssigned p others more → (others ≡ steps) × (more ≡ tracks))
    × ((others : List (List Choice)) → EndsRefuted p others → ⊥)

-- with T tracks and n connections there are at most (1 + T) ^ n conflicts
abbrev pub ConflictsAreFew : Type 0
ConflictsAreFew = (p : Problem) (steps : List (List Choice)) → AreConflicts p steps → length steps ≤ (1 + length p.tracks) ^ length p.connections

-- and a conflict with choices has a smaller number
abbrev pub SpendingIsShort : Type 0
SpendingIsShort = (p : Problem) (number : ℕ) (chosen : List Choice) → HasConflict p number chosen → chosen ≢ [] → number < (1 + length p.tracks) ^ length p.connections

-- whatever a watch did, the recorded steps tell nothing but that a choice taken back is false after the choices before it
pub record StepsTell (p : Problem) (steps : List (List Choice)) (chosen : List Choice) : Type 0 where
  pub conflict : KeepsConflict p steps chosen → IsInConflict p steps chosen
  pub calm : (KeepsConflict p steps chosen → ⊥) → IsInConflict p steps chosen → ⊥
  pub kept : (f : Fact) → Keeps p steps chosen f → Follows p steps chosen f
  pub found : (KeepsConflict p steps chosen → ⊥) → (f : Fact) → Follows p steps chosen f → Keeps p steps chosen f

abbrev pub StepsTellOneFact : Type 0
StepsTellOneFact = (p : Problem) (steps : List (List Choice)) (chosen : List Choice) → IsWatched p steps chosen → StepsTell p steps chosen

-- a choice assumed adds itself to what stands, and nothing else
abbrev pub AssumingAddsOne : Type 0
AssumingAddsOne = (p : Problem) (steps : List (List Choice)) (chosen : List Choice) (c : Choice) → IsWatched p steps chosen → (HasFactAbout p steps chosen c → ⊥)
    → (f : Fact) → Stands steps (chosen ++ c ∷ []) f ↔ (Stands steps chosen f ⊎ (f ≡ taken c))

-- a choice taken back adds its refusal to what stands after the choices before it, and nothing else; what stands at an earlier place stays as it is
abbrev pub LearningAddsOne : Type 0
LearningAddsOne = (steps : List (List Choice)) (chosen : List Choice) (c : Choice) (f : Fact)
    → (Stands (steps ++ (chosen ++ c ∷ []) ∷ []) chosen f ↔ (Stands steps chosen f ⊎ (f ≡ refused c)))
    × ((i : ℕ) → i < length chosen → Stands (steps ++ (chosen ++ c ∷ []) ∷ []) (take i chosen) f ↔ Stands steps (take i chosen) f)
