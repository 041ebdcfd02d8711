-- What one call for a helper does to the asking.
use Rattle.std.specs.Prelude.{ℕ, ◌≡◌, ◌≤◌, ◌<◌, ◌+◌, ◌-◌, ◌*◌, ◌⊎◌, List, [], ◌∷◌, ◌++◌, length, slice_get, slice_set, Some, Result, Ok, Err, OnOk, OnErr, Vec}
use Rattle.std.specs.declared.alloc.Global.{Global}
use Rattle.act1_base.specs.declared.memory.Memory.{Memory}
use Rattle.act1_outside.specs.Outside.{Bench, Starts, Finishes}
use Rattle.act1_outside.specs.declared.helpers.Entry.{Entry}
use Rattle.act1_outside.specs.declared.helpers.HelperFault.TheVariants as helper_fault
use Rattle.act1_channel.specs.declared.problem.Problem.{Problem}
use Rattle.act1_search.specs.declared.verdict.Verdict.{Verdict}
use Rattle.act1_farm.specs.declared.course.Course.{Course}
use Rattle.act1_farm.specs.declared.course.Started.{Started}
use Rattle.act1_farm.specs.Usable.{Brings, IsUsable}
use Rattle.act1_farm.specs.Story.{AreInOrder, asks, asked_for, jobs_of}
use Rattle.act1_farm.specs.Jobs.{grown}
use Rattle.act1_farm.specs.Course.{IsCourse}

-- a helper was started, or not
abbrev pub AskGives : List ℕ → List ℕ → Bench → Course → Bench → Course → Type 0
AskGives program job before old after new =
    ((t : ℕ) × Starts program job before (Ok t) after × (new ≡ record old { started = old.started ++ (record { ticket = t; number = old.asked }) ∷ []; asked = old.asked + 1 }))
    ⊎ (Starts program job before (Err helper_fault.Failed) after × (new ≡ record old { asked = old.asked + 1; faults = old.faults + 1 }))

-- no memory: nothing was told, or a helper was started
abbrev pub AskStops : List ℕ → List ℕ → Bench → Bench → Type 0
AskStops program job before after = (after.story ≡ before.story) ⊎ ((t : ℕ) × Starts program job before (Ok t) after)

-- the answer is usable, or not
abbrev pub TakesAnswer : Problem → ℕ → List ℕ → Course → Course → Type 0
TakesAnswer p number bytes old new =
    ((v : Verdict) × Brings p bytes v × (new ≡ record old { done = old.done + 1; answers = slice_set old.answers number (Some v) }))
    ⊎ ((IsUsable p bytes → ⊥) × (new ≡ record old { done = old.done + 1 }))

-- a helper answered, or not
abbrev pub FinishGives : Problem → Started → Bench → Course → Bench → Course → Type 0
FinishGives p started before old after new =
    ((bytes : Vec ℕ Global) × Finishes started.ticket before (Ok bytes) after × TakesAnswer p started.number bytes.items old new)
    ⊎ (Finishes started.ticket before (Err helper_fault.Failed) after × (new ≡ record old { done = old.done + 1; faults = old.faults + 1 }))

-- no memory: nothing was told, or a helper answered
abbrev pub FinishStops : ℕ → Bench → Bench → Type 0
FinishStops ticket before after = (after.story ≡ before.story) ⊎ ((bytes : Vec ℕ Global) × Finishes ticket before (Ok bytes) after)

-- the entries told so far begin a story
pub record IsBegun (program : List ℕ) (jobs : List (List ℕ)) (most : ℕ) (start now : Bench) : Type 0 where
  pub s : List Entry
  pub order : AreInOrder program jobs most [] s
  pub few : length (asks s) ≤ length jobs
  pub told : now.story ≡ grown s start.story

-- the numbers of the channels whose problems are asked for
pub record AreChannels (problems : List Problem) (channels : List ℕ) : Type 0 where
  pub each : length channels ≡ length (asked_for problems)
  pub there : (i c : ℕ) → slice_get channels i ≡ Some c → slice_get problems c ≡ slice_get (asked_for problems) i
  pub within : (i c : ℕ) → slice_get channels i ≡ Some c → c < length problems

-- some asking stands there
abbrev pub IsOnCourse : List ℕ → List Problem → ℕ → ℕ → Bench → Course → Type 0
IsOnCourse program wanted budget most now course = (start : Bench) × IsCourse program wanted budget most start now course

-- how much is left to do
abbrev pub left_to_do : ℕ → Course → ℕ
left_to_do n course = 2 * (n - course.asked) + (length course.started - course.done)

-- one call more for a helper: the course goes on with less left to do, or no memory was found and what was told begins a story
pub record GoesOn (program : List ℕ) (problems : List Problem) (budget most : ℕ) (before : Bench) (old : Course) (result : Result (Unit {0}) Memory) (after : Bench) (new : Course) : Type 0 where
  pub ok : (start : Bench) → IsCourse program (asked_for problems) budget most start before old → OnOk result (IsCourse program (asked_for problems) budget most start after new)
  pub err : (start : Bench) → IsCourse program (asked_for problems) budget most start before old → OnErr result (IsBegun program (jobs_of budget (asked_for problems)) most start after)
  pub less : OnOk result (left_to_do (length (asked_for problems)) new < left_to_do (length (asked_for problems)) old)
