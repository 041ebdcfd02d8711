-- What facts leave of a clause whose parts all say that choices are taken, or all that they are refused.
use Rattle.std.specs.Prelude.{ℕ, ◌≡◌, ◌≢◌, ◌<◌, Bool, true, false, not, if◌then◌else◌, Option, Some, None, List, Contains}
use Rattle.act1_channel.specs.declared.problem.Problem.{Problem}
use Rattle.act1_channel.specs.declared.problem.Choice.{Choice}
use Rattle.act1_channel.specs.Assignment.{IsAllowed}
use Rattle.act1_channel.specs.Clauses.{Fact, IsUndecided}
use Rattle.act1_refute.specs.declared.status.Status.{Status}
use Rattle.act1_refute.specs.declared.status.Status.TheVariants as status

-- a part is undecided
abbrev pub with_open : Status → Choice → Status
with_open status.Contradicted c = status.Unit c
with_open (status.Unit d) c = status.Open
with_open status.Open c = status.Open

-- one part more: that the choice has this truth; nothing is known of the choice, or whether it is taken
abbrev pub with_part : Status → Choice → Bool → Option Bool → Status
with_part before c truth None = with_open before c
with_part before c truth (Some true) = if truth then status.Open else before
with_part before c truth (Some false) = if truth then before else status.Open

abbrev pub IsFalse : List Fact → Bool → Choice → Type 0
IsFalse facts truth c = Contains facts (record { choice = c; truth = not truth })

-- this part is undecided, and all others are false
abbrev pub IsAlone : List Fact → Bool → (Choice → Type 0) → Choice → Type 0
IsAlone facts truth HasPart c = HasPart c × IsUndecided facts c × ((d : Choice) → HasPart d → d ≢ c → IsFalse facts truth d)

-- the status of a clause with these parts, where there is such a clause
abbrev pub IsStatus : List Fact → Type 0 → Bool → (Choice → Type 0) → Status → Type 0
IsStatus facts IsClause truth HasPart status.Contradicted = IsClause × ((c : Choice) → HasPart c → IsFalse facts truth c)
IsStatus facts IsClause truth HasPart (status.Unit c) = IsClause × IsAlone facts truth HasPart c
IsStatus facts IsClause truth HasPart status.Open =
    IsClause → (((c : Choice) → HasPart c → IsFalse facts truth c) → ⊥) × ((c : Choice) → IsAlone facts truth HasPart c → ⊥)

-- the allowed choices of a connection, on the tracks below a number
abbrev pub IsAllowedBelow : Problem → ℕ → ℕ → Choice → Type 0
IsAllowedBelow p c n d = (d.connection ≡ c) × (d.track < n) × IsAllowed p d
