-- The steps of a log that were found to be accepted.
use Rattle.std.proofs.Common.{ℕ, ◌≡◌, ◌+◌, ◌<◌, ◌≤◌, ◌⊎◌, List, length, take, get_or, slice_get, Some, sym, subst, inl, inr, arith}
use Rattle.std.proofs.lemmas.Bool.{cases_lt}
use Rattle.act1_base.proofs.ListGets.{get_read, get_within, one_at}
use Rattle.act1_channel.proofs.Takes.{get_taken}
use Rattle.act1_channel.specs.declared.problem.Problem.{Problem}
use Rattle.act1_channel.specs.declared.problem.Step.{Step}
use Rattle.act1_channel.specs.Acceptance.{choices_of, AreAccepted, IsAcceptedStep}
use Rattle.act1_refute.specs.HintSteps.{StepsAreInOrder}
use Rattle.act1_refute.specs.Verdict.{AreAcceptedBelow, IsFirstFault}

module _ (p : Problem) (log : List Step) where
  pub accepted_more : (n : ℕ) (step : Step) → n < length log → step ≡ get_or log n step → IsAcceptedStep p (choices_of (take n log)) step → AreAcceptedBelow p log n → AreAcceptedBelow p log (n + 1)
  accepted_more n step low is ok below m s less at = from (cases_lt m n)
    where
      from : (m < n) ⊎ (n ≤ m) → IsAcceptedStep p (choices_of (take m log)) s
      from (inl before) = below m s before at
      from (inr behind) =
          let same : n ≡ m = omega arith in
          let own = one_at log n step s (get_read log n step low is) (subst (λ (k : ℕ). slice_get log k ≡ Some s) (sym same) at) in
          subst (λ (k : ℕ). IsAcceptedStep p (choices_of (take k log)) s) same (subst (λ (x : Step). IsAcceptedStep p (choices_of (take n log)) x) own ok)

  pub first_fault : (n : ℕ) (step : Step) → n < length log → step ≡ get_or log n step → (IsAcceptedStep p (choices_of (take n log)) step → ⊥) → AreAcceptedBelow p log n → IsFirstFault p log n
  first_fault n step low is refused below = record { step = step; there = get_read log n step low is; refused = refused; before = below }

  pub accepted_all : (whole : List Step) (n : ℕ) → log ≡ whole → length log ≤ n → AreAcceptedBelow p log n → AreAccepted p whole
  accepted_all whole n same all below =
      subst (λ (steps : List Step). AreAccepted p steps) same (λ m step at. let low = get_within log m step at in below m step (omega arith) at)

  -- accepted steps have their choices in order
  pub steps_in_order : (n : ℕ) → AreAcceptedBelow p log n → StepsAreInOrder p (take n log)
  steps_in_order n below m step at =
      let there = get_taken log n m step at in
      let ok = below m step there.0 there.1 in
      record { within = ok.within; rise = ok.rise }
