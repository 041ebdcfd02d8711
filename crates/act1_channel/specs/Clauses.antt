-- The clauses of a channel. A clause says that one of its parts holds; it goes by the name that a hint gives it.
use Rattle.std.specs.Prelude.{◌≡◌, ◌≢◌, ◌<◌, ◌⊎◌, Bool, true, false, not, List, length, slice_get, Some, Contains}
use Rattle.act1_channel.specs.declared.problem.Problem.{Problem}
use Rattle.act1_channel.specs.declared.problem.Choice.{Choice}
use Rattle.act1_channel.specs.declared.problem.Hint.{Hint}
use Rattle.act1_channel.specs.declared.problem.Hint.TheVariants as hint
use Rattle.act1_channel.specs.Assignment.{choice_at, IsAllowed, DoClash}

-- that a choice is taken, or that it is refused
pub record Fact : Type 0 where
  pub choice : Choice
  pub truth : Bool

abbrev pub taken : Choice → Fact
taken c = record { choice = c; truth = true }

abbrev pub refused : Choice → Fact
refused c = record { choice = c; truth = false }

abbrev pub opposite : Fact → Fact
opposite f = record { choice = f.choice; truth = not f.truth }

-- the hint names a clause: a connection's, a clash's with the lower connection first, or that of one of these steps
abbrev pub IsClause : Problem → List (List Choice) → Hint → Type 0
IsClause p steps (hint.AtLeast c) = c < length p.connections
IsClause p steps (hint.Clash c d t) = (c < d) × (d < length p.connections) × (t < length p.tracks) × DoClash p c d t
IsClause p steps (hint.Step n) = n < length steps

-- its parts: an allowed choice of the connection is taken; one of the two that clash is refused; a choice of the step is refused
abbrev pub IsPart : Problem → List (List Choice) → Hint → Fact → Type 0
IsPart p steps (hint.AtLeast c) f = (f.truth ≡ true) × (f.choice.connection ≡ c) × IsAllowed p f.choice
IsPart p steps (hint.Clash c d t) f = (f.truth ≡ false) × ((f.choice ≡ choice_at c t) ⊎ (f.choice ≡ choice_at d t))
IsPart p steps (hint.Step n) f = (f.truth ≡ false) × ((step : List Choice) × (slice_get steps n ≡ Some step) × Contains step f.choice)

-- no fact speaks of the choice
abbrev pub IsUndecided : List Fact → Choice → Type 0
IsUndecided facts c = (f : Fact) → Contains facts f → f.choice ≢ c

-- all parts of the clause are false
abbrev pub IsContradicted : Problem → List (List Choice) → List Fact → Hint → Type 0
IsContradicted p steps facts h = IsClause p steps h × ((f : Fact) → IsPart p steps h f → Contains facts (opposite f))

-- all parts of the clause but this one are false, and this one is undecided
pub record IsUnit (p : Problem) (steps : List (List Choice)) (facts : List Fact) (h : Hint) (f : Fact) : Type 0 where
  pub clause : IsClause p steps h
  pub part : IsPart p steps h f
  pub undecided : IsUndecided facts f.choice
  pub others : (g : Fact) → IsPart p steps h g → g ≢ f → Contains facts (opposite g)
