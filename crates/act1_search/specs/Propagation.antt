-- What propagation adds to a trail, under the clauses of the problem alone.
use Rattle.std.specs.Prelude.{ℕ, ◌≡◌, ◌≢◌, ◌<◌, ◌≤◌, ◌⊎◌, true, false, Some, None, nat_lt, if◌then◌else◌, List, [], ◌∷◌, ◌++◌, length, slice_get}
use Rattle.act1_channel.specs.declared.problem.Problem.{Problem}
use Rattle.act1_channel.specs.declared.problem.Choice.{Choice}
use Rattle.act1_channel.specs.declared.problem.Hint.{Hint}
use Rattle.act1_channel.specs.declared.problem.Hint.TheVariants as hint
use Rattle.act1_channel.specs.Assignment.{IsAllowed, DoClash, choice_at}
use Rattle.act1_channel.specs.Clauses.{Fact, opposite, IsPart}
use Rattle.act1_channel.specs.declared.trail.Entry.{Entry}
use Rattle.act1_search.specs.declared.propagate.Left.{Left}
use Rattle.act1_search.specs.declared.propagate.Left.TheVariants.{Nothing, One, Several}
use Rattle.act1_search.specs.Closure.{IsUsed}
use Rattle.act1_channel.specs.Found.{truth_in, fact_of}
use Rattle.act1_search.specs.Trail.{HasFound}

-- a clause of the problem gives the fact after those found
pub record IsForced (p : Problem) (found : List Entry) (e : Entry) : Type 0 where
  pub inside : IsAllowed p e.choice
  pub free : truth_in found e.choice ≡ None
  pub clause : Hint
  pub why : e.why ≡ Some clause
  pub used : IsUsed p [] clause
  pub part : IsPart p [] clause (fact_of e)
  pub others : (g : Fact) → IsPart p [] clause g → g ≢ fact_of e → HasFound found (opposite g)

-- facts that clauses of the problem give were added one by one
pub data Grows (p : Problem) (first : List Entry) : List Entry → Type 0 where
  same : Grows p first first
  more : (found : List Entry) (e : Entry) → Grows p first found → IsForced p found e → Grows p first (found ++ e ∷ [])

-- a clause of the problem whose parts are all contradicted
abbrev pub IsContradicted : Problem → List Entry → Hint → Type 0
IsContradicted p found h = IsUsed p [] h × ((g : Fact) → IsPart p [] h g → HasFound found (opposite g))

-- the connection, if it may take the choice's track and clashes there, doesn't
abbrev pub IsKeptOff : Problem → List Entry → Choice → ℕ → Type 0
IsKeptOff p found c d = d ≢ c.connection → IsAllowed p (choice_at d c.track) → DoClash p c.connection d c.track → truth_in found (choice_at d c.track) ≡ Some false

abbrev pub AreKeptOff : Problem → List Entry → Choice → ℕ → Type 0
AreKeptOff p found c n = (d : ℕ) → d < n → IsKeptOff p found c d

-- the connection has an allowed track, and takes one where all others are refused
pub record IsServed (p : Problem) (found : List Entry) (c : ℕ) : Type 0 where
  pub some : (t : ℕ) × IsAllowed p (choice_at c t)
  pub last : (t : ℕ) → IsAllowed p (choice_at c t) → ((u : ℕ) → IsAllowed p (choice_at c u) → u ≢ t → truth_in found (choice_at c u) ≡ Some false) → truth_in found (choice_at c t) ≡ Some true

-- what is left of a connection's allowed tracks below a number that aren't refused: nothing, one, or more
abbrev pub IsLeft : Problem → List Entry → ℕ → ℕ → Left → Type 0
IsLeft p found c n Nothing = (t : ℕ) → t < n → IsAllowed p (choice_at c t) → truth_in found (choice_at c t) ≡ Some false
IsLeft p found c n (One t) = (t < n) × IsAllowed p (choice_at c t) × (truth_in found (choice_at c t) ≢ Some false) × ((u : ℕ) → u < n → u ≢ t → IsAllowed p (choice_at c u) → truth_in found (choice_at c u) ≡ Some false)
IsLeft p found c n Several = (t u : ℕ) × (t ≢ u) × IsAllowed p (choice_at c t) × IsAllowed p (choice_at c u) × (truth_in found (choice_at c t) ≢ Some false) × (truth_in found (choice_at c u) ≢ Some false)

-- the facts before a number had their effect; a connection whose effect is still to come has a refusal from that number on
pub record IsPending (p : Problem) (found : List Entry) (done : ℕ) : Type 0 where
  pub clashes : (m : ℕ) (e : Entry) → m < done → slice_get found m ≡ Some e → e.truth ≡ true → AreKeptOff p found e.choice (length p.connections)
  pub served : (c : ℕ) → c < length p.connections → IsServed p found c ⊎ ((m : ℕ) × (e : Entry) × (done ≤ m) × (slice_get found m ≡ Some e) × (e.truth ≡ false) × (e.choice.connection ≡ c))

-- all facts had their effect
pub record IsSettled (p : Problem) (found : List Entry) : Type 0 where
  pub clashes : (m : ℕ) (e : Entry) → slice_get found m ≡ Some e → e.truth ≡ true → AreKeptOff p found e.choice (length p.connections)
  pub served : (c : ℕ) → c < length p.connections → IsServed p found c

abbrev pub AreInside : Problem → List Entry → Type 0
AreInside p found = (n : ℕ) (e : Entry) → slice_get found n ≡ Some e → IsAllowed p e.choice

-- the clash of two connections goes by the lower one first
abbrev pub clash_name : ℕ → ℕ → ℕ → Hint
clash_name c d t = if nat_lt c d then hint.Clash c d t else hint.Clash d c t
