-- How the jobs of a farm stand after the entries of a story so far.
use Rattle.std.specs.Prelude.{ℕ, ◌≡◌, ◌≤◌, ◌⊎◌, List, length, slice_get, Some, None, Contains}
use Rattle.act1_channel.specs.declared.problem.Problem.{Problem}
use Rattle.act1_outside.specs.declared.helpers.Entry.{Entry}
use Rattle.act1_farm.specs.declared.event.JobState.{JobState}
use Rattle.act1_farm.specs.declared.event.JobState.TheVariants as state
use Rattle.act1_farm.specs.Story.{asks, unfinished}
use Rattle.act1_farm.specs.Events.{IsChannelOf}
use Rattle.act1_farm.specs.Farm.{IsDone}

-- what was asked for as this one has a ticket, which is unfinished
pub record IsRunning (before : List Entry) (i : ℕ) : Type 0 where
  pub t : ℕ
  pub asked : slice_get (asks before) i ≡ Some (Some t)
  pub left : Contains (unfinished before) t

-- what was asked for as this one got no helper, or one that is finished
abbrev pub IsOver : List Entry → ℕ → Type 0
IsOver before i = (slice_get (asks before) i ≡ Some None) ⊎ ((t : ℕ) × (slice_get (asks before) i ≡ Some (Some t)) × (Contains (unfinished before) t → ⊥))

-- the job is taken or own
abbrev pub HasEnded : List JobState → ℕ → Type 0
HasEnded states c = (s : JobState) × (slice_get states c ≡ Some s) × IsDone s

-- each job of a problem with connections waits until it is asked for, runs while its ticket is unfinished, and then is done
pub record Stand (problems : List Problem) (before : List Entry) (states : List JobState) : Type 0 where
  pub waiting : (i c : ℕ) (p : Problem) → IsChannelOf problems i c p → length (asks before) ≤ i → slice_get states c ≡ Some state.Waiting
  pub running : (i c : ℕ) (p : Problem) → IsChannelOf problems i c p → IsRunning before i → slice_get states c ≡ Some state.Running
  pub over : (i c : ℕ) (p : Problem) → IsChannelOf problems i c p → IsOver before i → HasEnded states c
  pub known : (t : ℕ) → Contains (unfinished before) t → (i : ℕ) × (slice_get (asks before) i ≡ Some (Some t))
