-- What helpers in memory show.
use Rattle.std.specs.Prelude.{ℕ, ◌<◌, ◌⊎◌, Bool, true, false, List, map, All, Some, Result, Err, IsErrOf}
use Rattle.act1_outside.specs.Outside.{Bench}
use Rattle.act1_outside.specs.declared.calls.Calls.{Calls}
use Rattle.act1_outside.specs.declared.fake_helpers.FakeAnswer.{FakeAnswer}
use Rattle.act1_outside.specs.declared.fake_helpers.FakeHelpers.{FakeHelpers}
use Rattle.act1_outside.specs.declared.helpers.HelperFault.{HelperFault}
use Rattle.act1_outside.specs.declared.helpers.HelperFault.TheVariants as helper_fault

-- what is seen of the helpers: their tickets, their count of faults, and all their story
abbrev pub bench_of : FakeHelpers → Bench
bench_of helpers = record {
  open_tickets = helpers.tickets.open_tickets.items;
  next = helpers.tickets.next;
  faults = helpers.faults;
  story = Some helpers.story;
}

-- the answers, by the number of the start that succeeded
abbrev pub answers_of : FakeHelpers → List (List ℕ)
answers_of helpers = map (λ (answer : FakeAnswer). answer.bytes) helpers.answers

-- the calls of `start` and `finish`
abbrev pub calls_of : FakeHelpers → Calls
calls_of helpers = helpers.calls

-- the call failed, or found no memory
abbrev pub Refuses : {T : Type 0} → Result T HelperFault → Type 0
Refuses result = IsErrOf result helper_fault.Failed ⊎ IsErrOf result helper_fault.Memory

-- the call failed
abbrev pub is_failed : {T : Type 0} → Result T HelperFault → Bool
is_failed (Err helper_fault.Failed) = true
is_failed _ = false

-- the next ticket is above all open ones
pub stay_above : (helpers : FakeHelpers) → All (λ (ticket : ℕ). ticket < (bench_of helpers).next) (bench_of helpers).open_tickets
stay_above helpers = helpers.tickets.above
