-- The defined search: descents that begin anew after each conflict.
use Rattle.std.specs.Prelude.{ℕ, ◌≡◌, ◌≢◌, ◌+◌, ◌-◌, ◌<◌, List, [], length, take, slice_get, Some}
use Rattle.act1_channel.specs.declared.problem.Problem.{Problem}
use Rattle.act1_channel.specs.declared.problem.Choice.{Choice}
use Rattle.act1_channel.specs.Assignment.{IsAllowed, choice_at}
use Rattle.act1_channel.specs.Clauses.{taken}
use Rattle.act1_search.specs.Closure.{Follows, IsInConflict, HasTrueChoice, HasFactAbout}

-- the connection's least allowed track about which there is no fact
pub record IsFirstOpen (p : Problem) (steps : List (List Choice)) (chosen : List Choice) (c t : ℕ) : Type 0 where
  pub allowed : IsAllowed p (choice_at c t)
  pub no_fact : HasFactAbout p steps chosen (choice_at c t) → ⊥
  pub least : (u : ℕ) → u < t → IsAllowed p (choice_at c u) → HasFactAbout p steps chosen (choice_at c u)

-- the decision: the first connection without a true choice, on its least allowed track about which there is no fact
pub record IsDecision (p : Problem) (steps : List (List Choice)) (chosen : List Choice) (c : Choice) : Type 0 where
  pub is_there : c.connection < length p.connections
  pub first : (d : ℕ) → d < c.connection → HasTrueChoice p steps chosen d
  pub unsettled : HasTrueChoice p steps chosen c.connection → ⊥
  pub first_open : IsFirstOpen p steps chosen c.connection c.track

-- choices that a descent takes one after the other: before each there is no conflict, and it is the decision
pub record Descends (p : Problem) (steps : List (List Choice)) (chosen : List Choice) : Type 0 where
  pub calm : (i : ℕ) → i < length chosen → IsInConflict p steps (take i chosen) → ⊥
  pub decided : (i : ℕ) (c : Choice) → slice_get chosen i ≡ Some c → IsDecision p steps (take i chosen) c

-- the descent ends in a conflict with these choices
abbrev pub EndsInConflict : Problem → List (List Choice) → List Choice → Type 0
EndsInConflict p steps chosen = Descends p steps chosen × IsInConflict p steps chosen

-- the descent ends with an assignment: there is no conflict, and these are the least tracks of true choices
pub record EndsWith (p : Problem) (steps : List (List Choice)) (tracks : List ℕ) : Type 0 where
  pub chosen : List Choice
  pub descends : Descends p steps chosen
  pub calm : IsInConflict p steps chosen → ⊥
  pub each : length tracks ≡ length p.connections
  pub true_there : (c t : ℕ) → slice_get tracks c ≡ Some t → Follows p steps chosen (taken (choice_at c t))
  pub least : (c t u : ℕ) → slice_get tracks c ≡ Some t → u < t → Follows p steps chosen (taken (choice_at c u)) → ⊥

-- the conflicts of the search from the first on, by their choices: each ends a descent with those before it as steps, and only the last may be empty
pub record AreConflicts (p : Problem) (steps : List (List Choice)) : Type 0 where
  pub each : (n : ℕ) (chosen : List Choice) → slice_get steps n ≡ Some chosen → EndsInConflict p (take n steps) chosen
  pub goes_on : (n : ℕ) (chosen : List Choice) → slice_get steps n ≡ Some chosen → n + 1 < length steps → chosen ≢ []

-- the conflict of a number, counted from 1, has these choices
abbrev pub HasConflict : Problem → ℕ → List Choice → Type 0
HasConflict p number chosen = (steps : List (List Choice)) × AreConflicts p steps × (length steps ≡ number) × (slice_get steps (number - 1) ≡ Some chosen)

-- the search ends at the conflict without choices
abbrev pub EndsRefuted : Problem → List (List Choice) → Type 0
EndsRefuted p steps = AreConflicts p steps × (slice_get steps (length steps - 1) ≡ Some [])

-- the search ends at an assignment, after these conflicts
abbrev pub EndsAssigned : Problem → List (List Choice) → List ℕ → Type 0
EndsAssigned p steps tracks = AreConflicts p steps × ((n : ℕ) → slice_get steps n ≢ Some []) × EndsWith p steps tracks
