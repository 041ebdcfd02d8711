-- What the check of a log answers.
use Rattle.std.specs.Prelude.{ℕ, ◌≡◌, ◌<◌, List, take, slice_get, Some, Result, Ok, Err}
use Rattle.act1_channel.specs.declared.problem.Problem.{Problem}
use Rattle.act1_channel.specs.declared.problem.Step.{Step}
use Rattle.act1_channel.specs.Acceptance.{choices_of, AreAccepted, IsAccepted, IsAcceptedStep, IsFinished}
use Rattle.act1_channel.specs.Assignment.{Assigns}
use Rattle.act1_refute.specs.declared.fault.CheckFault.{CheckFault}
use Rattle.act1_refute.specs.declared.fault.CheckFault.TheVariants as fault

-- each of the first steps is accepted after those before it
abbrev pub AreAcceptedBelow : Problem → List Step → ℕ → Type 0
AreAcceptedBelow p log n = (m : ℕ) (step : Step) → m < n → slice_get log m ≡ Some step → IsAcceptedStep p (choices_of (take m log)) step

-- the step of this number isn't accepted after those before it, and each of those is
pub record IsFirstFault (p : Problem) (log : List Step) (n : ℕ) : Type 0 where
  pub step : Step
  pub there : slice_get log n ≡ Some step
  pub refused : IsAcceptedStep p (choices_of (take n log)) step → ⊥
  pub before : AreAcceptedBelow p log n

-- the log is accepted, or this is why it isn't
abbrev pub IsVerdict : Problem → List Step → Result (Unit {0}) CheckFault → Type 0
IsVerdict p log (Ok _) = IsAccepted p log
IsVerdict p log (Err (fault.Step n)) = IsFirstFault p log n
IsVerdict p log (Err fault.Unfinished) = AreAccepted p log × (IsFinished log → ⊥)
IsVerdict p log (Err fault.Memory) = Unit {0}

abbrev pub HasNoAssignment : Problem → Type 0
HasNoAssignment p = (tracks : List ℕ) → Assigns p tracks → ⊥
