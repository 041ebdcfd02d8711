-- What follows at once from recorded steps and choices: the closure under the clauses in use.
use Rattle.std.specs.Prelude.{ℕ, ◌≢◌, ◌⊎◌, Bool, List, Contains}
use Rattle.act1_channel.specs.declared.problem.Problem.{Problem}
use Rattle.act1_channel.specs.declared.problem.Choice.{Choice}
use Rattle.act1_channel.specs.declared.problem.Hint.{Hint}
use Rattle.act1_channel.specs.declared.problem.Hint.TheVariants as hint
use Rattle.act1_channel.specs.Assignment.{IsAllowed, choice_at}
use Rattle.act1_channel.specs.Clauses.{Fact, taken, refused, opposite, IsClause, IsPart}

-- of the clashes, the search uses those whose two choices are allowed
abbrev pub AreChoicesAllowed : Problem → Hint → Type 0
AreChoicesAllowed p (hint.AtLeast c) = Unit {0}
AreChoicesAllowed p (hint.Clash c d t) = IsAllowed p (choice_at c t) × IsAllowed p (choice_at d t)
AreChoicesAllowed p (hint.Step n) = Unit {0}

-- a clause in use
abbrev pub IsUsed : Problem → List (List Choice) → Hint → Type 0
IsUsed p steps h = IsClause p steps h × AreChoicesAllowed p h

-- the closure: the least set of facts that has each of the choices as true and, where it contradicts all parts but one of a clause in use, that one
pub data Follows (p : Problem) (steps : List (List Choice)) (chosen : List Choice) : Fact → Type 0 where
  is_chosen : (c : Choice) → Contains chosen c → Follows p steps chosen (taken c)
  is_left : (h : Hint) (f : Fact) → IsUsed p steps h → IsPart p steps h f
      → ((g : Fact) → IsPart p steps h g → g ≢ f → Follows p steps chosen (opposite g)) → Follows p steps chosen f

-- there is a choice both true and false, or a clause without a part
abbrev pub IsInConflict : Problem → List (List Choice) → List Choice → Type 0
IsInConflict p steps chosen =
    ((c : Choice) × Follows p steps chosen (taken c) × Follows p steps chosen (refused c))
    ⊎ ((h : Hint) × IsUsed p steps h × ((f : Fact) → IsPart p steps h f → ⊥))

-- the connection has a true choice
abbrev pub HasTrueChoice : Problem → List (List Choice) → List Choice → ℕ → Type 0
HasTrueChoice p steps chosen c = (t : ℕ) × Follows p steps chosen (taken (choice_at c t))

-- there is a fact about the choice
abbrev pub HasFactAbout : Problem → List (List Choice) → List Choice → Choice → Type 0
HasFactAbout p steps chosen c = (truth : Bool) × Follows p steps chosen (record { choice = c; truth = truth })
