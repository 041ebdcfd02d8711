-- The laws.
use Rattle.std.specs.Prelude.{ℕ, ◌≡◌, List, [], length, replicate, slice_get, Some, Contains, true}
use Rattle.act1_farm.specs.declared.event.JobState.{JobState}
use Rattle.act1_farm.specs.declared.event.JobState.TheVariants as state
use Rattle.act1_farm.specs.declared.event.Event.{Event}
use Rattle.act1_farm.specs.declared.event.Event.TheVariants as event
use Rattle.act1_outside.specs.declared.helpers.Entry.{Entry}
use Rattle.act1_channel.specs.declared.problem.Problem.{Problem}
use Rattle.act1_farm.specs.Story.{Story, HaveOwnTickets}
use Rattle.act1_farm.specs.Events.{AreEvents, IsChannelOf}
use Rattle.act1_farm.specs.Farm.{after_all, AreAccepted, IsDone}

-- THE LAW: whatever events come, each job is in one state
abbrev pub EachHasOneState : Type 0
EachHasOneState = (states : List JobState) (events : List Event) → length (after_all states events) ≡ length states

-- THE LAW: a job that wasn't taken is taken only by a usable answer
abbrev pub TakenByUsable : Type 0
TakenByUsable = (states : List JobState) (events : List Event) (c : ℕ) (before : JobState) → slice_get states c ≡ Some before → (before ≡ state.Taken → ⊥)
    → slice_get (after_all states events) c ≡ Some state.Taken → Contains events (event.Answered c true)

-- THE LAW: a job that is taken or own stays so
abbrev pub DoneStays : Type 0
DoneStays = (states : List JobState) (events : List Event) (c : ℕ) (s : JobState) → slice_get states c ≡ Some s → IsDone s → slice_get (after_all states events) c ≡ Some s

-- THE LAW: the events of a story are accepted by a new farm one after the other, and leave each problem with connections taken or own
abbrev pub StoriesAreAccepted : Type 0
StoriesAreAccepted = (problems : List Problem) (budget most : ℕ) (program : List ℕ) (s : List Entry) (events : List Event) → Story problems budget most program s → HaveOwnTickets s → AreEvents problems [] s events
    → AreAccepted (replicate (length problems) state.Waiting) events
    × ((i c : ℕ) (p : Problem) → IsChannelOf problems i c p → (after : JobState) × (slice_get (after_all (replicate (length problems) state.Waiting) events) c ≡ Some after) × IsDone after)
