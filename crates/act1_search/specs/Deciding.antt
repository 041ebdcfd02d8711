-- What is asked of a watch for a decision.
use Rattle.std.specs.Prelude.{ℕ, ◌<◌, ◌≡◌, List, Some, slice_get, Contains}
use Rattle.act1_channel.specs.declared.problem.Problem.{Problem}
use Rattle.act1_channel.specs.declared.problem.Choice.{Choice}
use Rattle.act1_channel.specs.Assignment.{IsAllowed, choice_at}
use Rattle.act1_channel.specs.Clauses.{taken}
use Rattle.act1_search.specs.Closure.{Follows, IsInConflict}

-- there is no conflict, and each choice is allowed
pub record IsCalm (p : Problem) (steps : List (List Choice)) (chosen : List Choice) : Type 0 where
  pub calm : IsInConflict p steps chosen → ⊥
  pub allowed : (c : Choice) → Contains chosen c → IsAllowed p c

-- the connection's least track that is taken
pub record IsFirstTrue (p : Problem) (steps : List (List Choice)) (chosen : List Choice) (c t : ℕ) : Type 0 where
  pub is_taken : Follows p steps chosen (taken (choice_at c t))
  pub least : (u : ℕ) → u < t → Follows p steps chosen (taken (choice_at c u)) → ⊥

-- these are the least tracks of true choices of the first connections
abbrev pub AreFirstTrue : Problem → List (List Choice) → List Choice → List ℕ → Type 0
AreFirstTrue p steps chosen tracks = (c t : ℕ) → slice_get tracks c ≡ Some t → IsFirstTrue p steps chosen c t
