-- What `verdicts` answers.
use Rattle.std.specs.Prelude.{ℕ, ◌≡◌, ◌↔◌, ◌+◌, ◌<◌, ◌⊎◌, List, [], length, slice_get, Option, Some, Ok, Err, is_some, count_by}
use Rattle.act1_channel.specs.declared.problem.Problem.{Problem}
use Rattle.act1_channel.specs.Assignment.{Assigns}
use Rattle.act1_outside.specs.Outside.{Bench}
use Rattle.act1_outside.specs.declared.helpers.Entry.{Entry}
use Rattle.act1_search.specs.declared.verdict.Verdict.{Verdict}
use Rattle.act1_search.specs.declared.verdict.Verdict.TheVariants as verdict
use Rattle.act1_search.specs.declared.verdict.SearchStop.TheVariants as search
use Rattle.act1_search.specs.Answers.{IsAnswer}
use Rattle.act1_farm.specs.declared.outcome.FarmStop.{FarmStop}
use Rattle.act1_farm.specs.declared.outcome.FarmStop.TheVariants as stop
use Rattle.act1_farm.specs.declared.outcome.Outcome.{Outcome}
use Rattle.act1_farm.specs.declared.outcome.Tally.{Tally}
use Rattle.act1_farm.specs.Usable.{Decides, Brings}
use Rattle.act1_farm.specs.Story.{Story, HaveOwnTickets, IsAnswered, asked_for, asks, is_fault, jobs_of}
use Rattle.act1_farm.specs.Jobs.{grown, BeganStory, RoseBy}
use Rattle.act1_farm.specs.Course.{AreFound}
use Rattle.act1_farm.specs.Events.{IsChannelOf}

-- an answer that came for the channel brings this verdict of its problem
pub record IsBrought (problems : List Problem) (s : List Entry) (c : ℕ) (p : Problem) (v : Verdict) : Type 0 where
  pub i : ℕ
  pub bytes : List ℕ
  pub channel : IsChannelOf problems i c p
  pub answered : IsAnswered s i bytes
  pub brings : Brings p bytes v

-- no usable answer came for the channel
abbrev pub NoneCame : List Problem → List Entry → ℕ → Problem → Type 0
NoneCame problems s c p = (v : Verdict) → IsBrought problems s c p v → ⊥

-- the verdict of a channel: one that a usable answer brought, or where none came, that of the search
pub record IsVerdict (problems : List Problem) (budget : ℕ) (s : List Entry) (c : ℕ) (v : Verdict) : Type 0 where
  pub p : Problem
  pub there : slice_get problems c ≡ Some p
  pub from : IsBrought problems s c p v ⊎ (NoneCame problems s c p × IsAnswer p budget (Ok v))
  pub decides : Decides p v

abbrev pub IsAssigned : Verdict → Type 0
IsAssigned (verdict.Assigned tracks) = Unit {0}
IsAssigned (verdict.Refuted log) = ⊥

abbrev pub IsRefuted : Verdict → Type 0
IsRefuted (verdict.Assigned tracks) = ⊥
IsRefuted (verdict.Refuted log) = Unit {0}

-- verdicts of the channels in order, each of which is so; a refuted one ends the list, and else it has all
pub record AreVerdicts (problems : List Problem) (Is : ℕ → Verdict → Type 0) (verdicts : List Verdict) : Type 0 where
  pub each : (c : ℕ) (v : Verdict) → slice_get verdicts c ≡ Some v → Is c v
  pub last : (c : ℕ) (v : Verdict) → slice_get verdicts c ≡ Some v → IsRefuted v → c + 1 ≡ length verdicts
  pub all : (length verdicts ≡ length problems) ⊎ ((c : ℕ) × (v : Verdict) × (slice_get verdicts c ≡ Some v) × IsRefuted v)

-- helpers were asked by this story, where there are to be any, with these counts; where a story is told, it grew by it
pub record WereAsked (program : List ℕ) (problems : List Problem) (budget most : ℕ) (before after : Bench) (s : List Entry) (tally : Tally) : Type 0 where
  pub story : 0 < most → Story problems budget most program s
  pub none : most ≡ 0 → s ≡ []
  pub told : after.story ≡ grown s before.story
  pub closed : after.open_tickets ≡ before.open_tickets
  pub own : HaveOwnTickets s
  pub found : List (Option Verdict)
  pub are_found : AreFound (asked_for problems) s found
  pub asked : tally.asked ≡ length (asks s)
  pub taken : tally.taken ≡ count_by is_some found
  pub faults : tally.faults ≡ count_by is_fault s
  pub rose : RoseBy tally.faults before.faults after.faults

-- the verdicts, after helpers were asked
pub record Gives (program : List ℕ) (problems : List Problem) (budget most : ℕ) (before after : Bench) (outcome : Outcome) : Type 0 where
  pub s : List Entry
  pub asked : WereAsked program problems budget most before after s outcome.tally
  pub verdicts : AreVerdicts problems (IsVerdict problems budget s) outcome.answers

-- no usable answer came for this channel, and its search met as many conflicts as it may; each channel before it is assigned
pub record IsSpent (problems : List Problem) (budget : ℕ) (s : List Entry) (channel conflicts : ℕ) : Type 0 where
  pub p : Problem
  pub there : slice_get problems channel ≡ Some p
  pub none : NoneCame problems s channel p
  pub answer : IsAnswer p budget (Err (search.Spent conflicts))
  pub before : (c : ℕ) → c < channel → (v : Verdict) × IsVerdict problems budget s c v × IsAssigned v

-- why there are no verdicts: a search is spent, after helpers were asked; or no memory was found, and where there are to be helpers, they were asked by the front of a story
abbrev pub Stops : List ℕ → List Problem → ℕ → ℕ → Bench → Bench → FarmStop → Type 0
Stops program problems budget most before after (stop.Spent channel conflicts tally) =
    (s : List Entry) × WereAsked program problems budget most before after s tally × IsSpent problems budget s channel conflicts
Stops program problems budget most before after stop.Memory = 0 < most → BeganStory program (jobs_of budget (asked_for problems)) most before after

-- the channel has an assignment
abbrev pub HasAssignment : Problem → Type 0
HasAssignment p = (tracks : List ℕ) × Assigns p tracks

-- the verdict is an assignment exactly where the channel has one, and a refutation exactly where it has none
pub record IsExact (p : Problem) (v : Verdict) : Type 0 where
  pub assigned : IsAssigned v ↔ HasAssignment p
  pub refuted : IsRefuted v ↔ (HasAssignment p → ⊥)

-- each verdict is exact, and there is a refutation exactly where some channel has no assignment
pub record AreExact (problems : List Problem) (verdicts : List Verdict) : Type 0 where
  pub each : (c : ℕ) (p : Problem) (v : Verdict) → slice_get problems c ≡ Some p → slice_get verdicts c ≡ Some v → IsExact p v
  pub ends : ((c : ℕ) × (v : Verdict) × (slice_get verdicts c ≡ Some v) × IsRefuted v) ↔ ((c : ℕ) × (p : Problem) × (slice_get problems c ≡ Some p) × (HasAssignment p → ⊥))

-- the three numbers: of the problems that were asked for, of those for which a usable answer came, and of the calls that failed; all 0 without helpers
abbrev pub NoTally : Tally → Type 0
NoTally tally = (tally.asked ≡ 0) × (tally.taken ≡ 0) × (tally.faults ≡ 0)

-- so many problems are asked for
abbrev pub IsCounted : List Problem → ℕ → Tally → Type 0
IsCounted problems most tally = (0 < most → tally.asked ≡ length (asked_for problems)) × (most ≡ 0 → NoTally tally)
