-- What a watch does: it has steps and choices, and takes choices on and back.
use Rattle.std.specs.Prelude.{ℕ, ◌≡◌, ◌≢◌, ◌≤◌, ◌⊎◌, true, false, List, [], ◌∷◌, ◌++◌, length, take, Contains}
use Rattle.act1_channel.specs.declared.problem.Problem.{Problem}
use Rattle.act1_channel.specs.declared.problem.Choice.{Choice}
use Rattle.act1_channel.specs.declared.problem.Hint.{Hint}
use Rattle.act1_channel.specs.Assignment.{IsAllowed}
use Rattle.act1_channel.specs.Clauses.{Fact, taken, refused, opposite, IsPart}
use Rattle.act1_search.specs.Closure.{IsUsed, IsInConflict, HasFactAbout}
use Rattle.act1_search.specs.Search.{IsDecision}

-- steps and choices that a watch can have: none at first; a choice about which there is no fact is assumed; a conflict's choices become a step, and the last is taken back
pub data IsWatched (p : Problem) : List (List Choice) → List Choice → Type 0 where
  is_new : IsWatched p [] []
  is_assumed : {steps : List (List Choice)} {chosen : List Choice} (c : Choice) → IsWatched p steps chosen
      → (IsInConflict p steps chosen → ⊥) → IsAllowed p c → (HasFactAbout p steps chosen c → ⊥) → IsWatched p steps (chosen ++ c ∷ [])
  is_learned : {steps : List (List Choice)} {chosen : List Choice} (c : Choice) → IsWatched p steps (chosen ++ c ∷ [])
      → IsInConflict p steps (chosen ++ c ∷ []) → IsWatched p (steps ++ (chosen ++ c ∷ []) ∷ []) chosen

-- the same where each choice is the search's decision
pub data IsVisited (p : Problem) : List (List Choice) → List Choice → Type 0 where
  at_first : IsVisited p [] []
  decides : {steps : List (List Choice)} {chosen : List Choice} (c : Choice) → IsVisited p steps chosen
      → (IsInConflict p steps chosen → ⊥) → IsDecision p steps chosen c → IsVisited p steps (chosen ++ c ∷ [])
  learns : {steps : List (List Choice)} {chosen : List Choice} (c : Choice) → IsVisited p steps (chosen ++ c ∷ [])
      → IsInConflict p steps (chosen ++ c ∷ []) → IsVisited p (steps ++ (chosen ++ c ∷ []) ∷ []) chosen

-- what stands without a look at the steps: the choices, and each choice that was taken back after these choices up to some place
abbrev pub Stands : List (List Choice) → List Choice → Fact → Type 0
Stands steps chosen f =
    ((f.truth ≡ true) × Contains chosen f.choice)
    ⊎ ((f.truth ≡ false) × ((i : ℕ) × (i ≤ length chosen) × Contains steps (take i chosen ++ f.choice ∷ [])))

-- what follows from that under the clauses of the problem alone
pub data Keeps (p : Problem) (steps : List (List Choice)) (chosen : List Choice) : Fact → Type 0 where
  stands : (f : Fact) → Stands steps chosen f → Keeps p steps chosen f
  keeps_left : (h : Hint) (f : Fact) → IsUsed p [] h → IsPart p [] h f
      → ((g : Fact) → IsPart p [] h g → g ≢ f → Keeps p steps chosen (opposite g)) → Keeps p steps chosen f

abbrev pub KeepsConflict : Problem → List (List Choice) → List Choice → Type 0
KeepsConflict p steps chosen =
    ((c : Choice) × Keeps p steps chosen (taken c) × Keeps p steps chosen (refused c))
    ⊎ ((h : Hint) × IsUsed p [] h × ((f : Fact) → IsPart p [] h f → ⊥))
