-- The entries of a story as events of a farm.
use Rattle.std.specs.Prelude.{ℕ, ◌≡◌, ◌↔◌, IsTrue, List, [], ◌∷◌, ◌++◌, length, take, slice_get, Some}
use Rattle.act1_outside.specs.declared.helpers.Entry.{Entry}
use Rattle.act1_outside.specs.declared.helpers.Entry.TheVariants as entry
use Rattle.act1_channel.specs.declared.problem.Problem.{Problem}
use Rattle.act1_farm.specs.declared.event.Event.{Event}
use Rattle.act1_farm.specs.declared.event.Event.TheVariants as event
use Rattle.act1_farm.specs.Usable.{IsUsable}
use Rattle.act1_farm.specs.Story.{has_connections, asked_for, Belongs}

-- the channel whose problem is asked for as this one: it has connections, and so many before it have
pub record IsChannelOf (problems : List Problem) (i c : ℕ) (p : Problem) : Type 0 where
  pub there : slice_get problems c ≡ Some p
  pub asked : IsTrue (has_connections p)
  pub place : length (asked_for (take c problems)) ≡ i

-- the kind of event that an entry is for a channel with this problem
abbrev pub IsKind : Entry → ℕ → Problem → Event → Type 0
IsKind (entry.Started program job t) c p (event.Started d) = d ≡ c
IsKind (entry.Refused program job) c p (event.Failed d) = d ≡ c
IsKind (entry.Answered t bytes) c p (event.Answered d usable) = (d ≡ c) × (IsTrue usable ↔ IsUsable p bytes)
IsKind (entry.Lost t) c p (event.Failed d) = d ≡ c
IsKind _ c p _ = ⊥

-- the entry after those before it is this event
abbrev pub IsEvent : List Problem → List Entry → Entry → Event → Type 0
IsEvent problems before e v = (i c : ℕ) × (p : Problem) × Belongs before e i × IsChannelOf problems i c p × IsKind e c p v

-- the entries are these events, one by one
abbrev pub AreEvents : List Problem → List Entry → List Entry → List Event → Type 0
AreEvents problems before [] [] = Unit {0}
AreEvents problems before (e ∷ s) (v ∷ events) = IsEvent problems before e v × AreEvents problems (before ++ e ∷ []) s events
AreEvents problems before _ _ = ⊥
