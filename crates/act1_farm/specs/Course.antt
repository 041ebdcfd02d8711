-- What the asking knows so far.
use Rattle.std.specs.Prelude.{ℕ, ◌≡◌, ◌+◌, ◌≤◌, List, length, map, drop, slice_get, count_by, Option, Some, None}
use Rattle.act1_outside.specs.Outside.{Bench}
use Rattle.act1_outside.specs.declared.helpers.Entry.{Entry}
use Rattle.act1_channel.specs.declared.problem.Problem.{Problem}
use Rattle.act1_search.specs.declared.verdict.Verdict.{Verdict}
use Rattle.act1_farm.specs.declared.course.Course.{Course}
use Rattle.act1_farm.specs.declared.course.Started.{Started}
use Rattle.act1_farm.specs.Usable.{Brings}
use Rattle.act1_farm.specs.Story.{IsAnswered, HasUsable, asks, is_fault, jobs_of}
use Rattle.act1_farm.specs.Jobs.{AreMade}

-- what was found for a problem: a verdict that an answer brings, or that no usable answer came
abbrev pub IsFound : List Problem → List Entry → ℕ → Option Verdict → Type 0
IsFound wanted s i (Some v) = (p : Problem) × (bytes : List ℕ) × (slice_get wanted i ≡ Some p) × IsAnswered s i bytes × Brings p bytes v
IsFound wanted s i None = HasUsable wanted s i → ⊥

-- the same for each problem that is asked for
pub record AreFound (wanted : List Problem) (s : List Entry) (found : List (Option Verdict)) : Type 0 where
  pub each : length found ≡ length wanted
  pub kept : (i : ℕ) (v : Option Verdict) → slice_get found i ≡ Some v → IsFound wanted s i v

abbrev pub running_of : Course → List ℕ
running_of course = map (λ started. started.ticket) (drop course.done course.started)

-- the course stands for the entries that were made
pub record IsCourse (program : List ℕ) (wanted : List Problem) (budget most : ℕ) (start now : Bench) (course : Course) : Type 0 where
  pub s : List Entry
  pub made : AreMade program (jobs_of budget wanted) most start now s (running_of course)
  pub asked : length (asks s) ≡ course.asked
  pub few : course.asked ≤ length wanted
  pub within : course.done ≤ length course.started
  pub short : length course.started ≤ course.asked
  pub faults : count_by is_fault s ≡ course.faults
  pub bounded : course.faults ≤ course.asked + course.done
  pub places : (k : ℕ) (b : Started) → slice_get course.started k ≡ Some b → slice_get (asks s) b.number ≡ Some (Some b.ticket)
  pub answers : AreFound wanted s course.answers
