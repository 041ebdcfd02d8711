-- How channels are decided by what was found, and what is decided so far.
use Rattle.std.specs.Prelude.{ℕ, ◌≡◌, ◌<◌, if◌then◌else◌, List, length, take, slice_get, slice_index_or, Option, Some, None, Ok, Err}
use Rattle.act1_channel.specs.declared.problem.Problem.{Problem}
use Rattle.act1_search.specs.declared.verdict.Verdict.{Verdict}
use Rattle.act1_search.specs.declared.verdict.SearchStop.{SearchStop}
use Rattle.act1_search.specs.declared.verdict.SearchStop.TheVariants as search
use Rattle.act1_search.specs.Answers.{IsAnswer}
use Rattle.act1_farm.specs.declared.outcome.FarmStop.{FarmStop}
use Rattle.act1_farm.specs.declared.outcome.FarmStop.TheVariants as stop
use Rattle.act1_farm.specs.declared.outcome.Tally.{Tally}
use Rattle.act1_farm.specs.Usable.{Decides}
use Rattle.act1_farm.specs.Story.{asked_for, has_connections}
use Rattle.act1_farm.specs.Verdicts.{IsAssigned}

-- what was found for a problem, if it was asked for as this one
abbrev pub own_found : Problem → List (Option Verdict) → ℕ → Option Verdict
own_found p found number = if has_connections p then slice_index_or found number None else None

-- how many of the problems before a channel were asked for
abbrev pub place_of : List Problem → ℕ → ℕ
place_of problems c = length (asked_for (take c problems))

-- the verdict is the one found, or where none was, that of the search
abbrev pub IsFrom : Problem → ℕ → Option Verdict → Verdict → Type 0
IsFrom p budget None v = IsAnswer p budget (Ok v)
IsFrom p budget (Some w) v = v ≡ w

-- the search stopped so, and none was found
abbrev pub IsStopFor : Problem → ℕ → Option Verdict → SearchStop → Type 0
IsStopFor p budget found (search.Spent conflicts) = (found ≡ None) × IsAnswer p budget (Err (search.Spent conflicts))
IsStopFor p budget found search.Memory = Unit {0}

-- the channel's verdict comes from what was found for it, or from the search
pub record IsDecided (problems : List Problem) (budget : ℕ) (found : List (Option Verdict)) (c : ℕ) (v : Verdict) : Type 0 where
  pub p : Problem
  pub there : slice_get problems c ≡ Some p
  pub from : IsFrom p budget (own_found p found (place_of problems c)) v
  pub decides : Decides p v

-- the first channels are decided by assignments, and so many of their problems were asked for
pub record AreDecided (problems : List Problem) (budget : ℕ) (found : List (Option Verdict)) (c asked : ℕ) (verdicts : List Verdict) : Type 0 where
  pub number : asked ≡ place_of problems c
  pub long : length verdicts ≡ c
  pub each : (k : ℕ) (v : Verdict) → slice_get verdicts k ≡ Some v → IsDecided problems budget found k v
  pub fit : (k : ℕ) (v : Verdict) → slice_get verdicts k ≡ Some v → IsAssigned v

-- the channel before which all are assigned, at which the search is spent
pub record IsUndecided (problems : List Problem) (budget : ℕ) (found : List (Option Verdict)) (c conflicts : ℕ) : Type 0 where
  pub p : Problem
  pub there : slice_get problems c ≡ Some p
  pub none : own_found p found (place_of problems c) ≡ None
  pub answer : IsAnswer p budget (Err (search.Spent conflicts))
  pub before : (k : ℕ) → k < c → (v : Verdict) × IsDecided problems budget found k v × IsAssigned v

-- what deciding stops with
abbrev pub StopsAt : List Problem → ℕ → List (Option Verdict) → Tally → FarmStop → Type 0
StopsAt problems budget found tally (stop.Spent channel conflicts told) = (told ≡ tally) × IsUndecided problems budget found channel conflicts
StopsAt problems budget found tally stop.Memory = Unit {0}

-- the stop of the search of a channel
abbrev pub stop_at : ℕ → Tally → SearchStop → FarmStop
stop_at channel tally (search.Spent conflicts) = stop.Spent channel conflicts tally
stop_at channel tally search.Memory = stop.Memory

-- the channels so far whose problems are asked for
pub record AreChannelsUpTo (problems : List Problem) (n : ℕ) (channels : List ℕ) : Type 0 where
  pub each : length channels ≡ place_of problems n
  pub there : (i c : ℕ) → slice_get channels i ≡ Some c → slice_get problems c ≡ slice_get (asked_for problems) i
  pub within : (i c : ℕ) → slice_get channels i ≡ Some c → c < n
