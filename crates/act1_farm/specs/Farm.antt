-- The states of a job, and what the events do to it.
use Rattle.std.specs.Prelude.{ℕ, ◌≡◌, if◌then◌else◌, List, [], ◌∷◌, slice_get, slice_set, Option, Some, None, ◌⊎◌}
use Rattle.act1_farm.specs.declared.event.JobState.{JobState}
use Rattle.act1_farm.specs.declared.event.JobState.TheVariants as state
use Rattle.act1_farm.specs.declared.event.Event.{Event}
use Rattle.act1_farm.specs.declared.event.Event.TheVariants as event

abbrev pub job_number : Event → ℕ
job_number (event.Started c) = c
job_number (event.Answered c usable) = c
job_number (event.Failed c) = c

-- the state after the event, where it fits the state before
abbrev pub state_after : Event → JobState → Option JobState
state_after (event.Started c) state.Waiting = Some state.Running
state_after (event.Answered c usable) state.Running = Some (if usable then state.Taken else state.Own)
state_after (event.Failed c) state.Waiting = Some state.Own
state_after (event.Failed c) state.Running = Some state.Own
state_after _ _ = None

-- the event fits the state of its job, which is then this one
abbrev pub Fits : List JobState → Event → JobState → Type 0
Fits states e after = (before : JobState) × (slice_get states (job_number e) ≡ Some before) × (state_after e before ≡ Some after)

-- what the event leaves in a place
abbrev pub next_of : Event → Option JobState → Option JobState
next_of e None = None
next_of e (Some before) = state_after e before

abbrev pub with_state : List JobState → ℕ → Option JobState → List JobState
with_state states c None = states
with_state states c (Some after) = slice_set states c after

-- the states after an event, or as they were where it doesn't fit
abbrev pub states_after : List JobState → Event → List JobState
states_after states e = with_state states (job_number e) (next_of e (slice_get states (job_number e)))

-- the states after a list of events
abbrev pub after_all : List JobState → List Event → List JobState
after_all states [] = states
after_all states (e ∷ events) = after_all (states_after states e) events

-- each of the events fits, one after the other
abbrev pub AreAccepted : List JobState → List Event → Type 0
AreAccepted states [] = Unit {0}
AreAccepted states (e ∷ events) = ((after : JobState) × Fits states e after) × AreAccepted (states_after states e) events

-- nothing more happens to such a job
abbrev pub IsDone : JobState → Type 0
IsDone s = (s ≡ state.Taken) ⊎ (s ≡ state.Own)
