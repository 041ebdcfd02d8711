-- Every assignment makes each accepted step true.
use Rattle.std.proofs.Common.{ℕ, zero, suc, ◌≡◌, ◌≢◌, ◌-◌, ◌<◌, ◌⊎◌, Bool, true, false, not, List, [], ◌∷◌, ◌++◌, length, map, take, slice_get, Option, Some, None, Contains, nat_eq, refl, sym, ap, subst, ◌∙◌, inl, inr, arith, true≢false}
use Rattle.std.proofs.lemmas.Bool.Decides.{nat_tests}
use Rattle.act1_base.proofs.ListGets.{get_within, get_in, get_mapped}
use Rattle.act1_channel.proofs.Takes.{contains_back, get_taken}
use Rattle.act1_channel.proofs.Facts.{same_fact, taken_from}
use Rattle.act1_channel.specs.declared.problem.Problem.{Problem}
use Rattle.act1_channel.specs.declared.problem.Choice.{Choice}
use Rattle.act1_channel.specs.declared.problem.Hint.{Hint}
use Rattle.act1_channel.specs.declared.problem.Hint.TheVariants as hint
use Rattle.act1_channel.specs.declared.problem.Step.{Step}
use Rattle.act1_channel.specs.Assignment.{choice_at, Assigns}
use Rattle.act1_channel.specs.Clauses.{Fact, taken, refused, opposite, IsClause, IsPart}
use Rattle.act1_channel.specs.Acceptance.{LeadToConflict, IsAcceptedStep, choices_of, IsAccepted}
use Rattle.act1_channel.specs.Laws.{AcceptedLogsRefute}

-- whether the tracks have the choice
abbrev is_at : Option ℕ → ℕ → Bool
is_at None t = false
is_at (Some u) t = nat_eq u t

abbrev has : List ℕ → Choice → Bool
has tracks c = is_at (slice_get tracks c.connection) c.track

at_some : (o : Option ℕ) (t : ℕ) → is_at o t ≡ true → o ≡ Some t
at_some None t e = absurd (true≢false (sym e))
at_some (Some u) t e = let same : u ≡ t = grind (arith, nat_tests) in ap (λ (n : ℕ). Some n) same

some_at : (o : Option ℕ) (t : ℕ) → o ≡ Some t → is_at o t ≡ true
some_at o t e = subst (λ (r : Option ℕ). is_at r t ≡ true) (sym e) (same t)
  where
    same : (u : ℕ) → nat_eq u u ≡ true
    same u = grind (arith, nat_tests)

abbrev Holds : List ℕ → Fact → Type 0
Holds tracks f = has tracks f.choice ≡ f.truth

either : (tracks : List ℕ) (f : Fact) → Holds tracks f ⊎ Holds tracks (opposite f)
either tracks f = from (has tracks f.choice) f.truth
  where
    from : (a b : Bool) → (a ≡ b) ⊎ (a ≡ not b)
    from true true = inl refl
    from true false = inr refl
    from false true = inr refl
    from false false = inl refl

-- not all choices of the step are had
abbrev StepHolds : List ℕ → List Choice → Type 0
StepHolds tracks step = ((c : Choice) → Contains step c → has tracks c ≡ true) → ⊥

abbrev StepsHold : List ℕ → List (List Choice) → Type 0
StepsHold tracks steps = (n : ℕ) (step : List Choice) → slice_get steps n ≡ Some step → StepHolds tracks step

module _ (p : Problem) (tracks : List ℕ) (fits : Assigns p tracks) where
  -- some part of each clause holds
  clause_holds : (steps : List (List Choice)) (h : Hint) → StepsHold tracks steps → IsClause p steps h → ((f : Fact) → IsPart p steps h f → Holds tracks (opposite f)) → ⊥
  clause_holds steps (hint.AtLeast c) hold is denied =
      let there : c < length tracks = omega (arith, fits.each, is) in
      let own = get_in tracks c there in
      true≢false (sym (some_at (slice_get tracks c) own.0 own.1) ∙ denied (taken (choice_at c own.0)) (refl, refl, fits.allowed c own.0 own.1))
  clause_holds steps (hint.Clash c d t) hold is denied =
      let one = at_some (slice_get tracks c) t (denied (refused (choice_at c t)) (refl, inl refl)) in
      let other = at_some (slice_get tracks d) t (denied (refused (choice_at d t)) (refl, inr refl)) in
      fits.apart c d t is.0 one other is.3
  clause_holds steps (hint.Step n) hold is denied =
      let own = get_in steps n is in
      hold n own.0 own.1 (λ c among. denied (refused c) (refl, (own.0, own.1, among)))

  -- hints don't lead to a conflict from facts that hold
  no_conflict : (steps : List (List Choice)) (facts : List Fact) (hints : List Hint) → StepsHold tracks steps → ((f : Fact) → Contains facts f → Holds tracks f) → LeadToConflict p steps facts hints → ⊥
  no_conflict steps facts [] hold known lead = lead
  no_conflict steps facts (h ∷ []) hold known lead = clause_holds steps h hold lead.0 (λ f part. known (opposite f) (lead.1 f part))
  no_conflict steps facts (h ∷ g ∷ hints) hold known lead =
      on (λ is. no_conflict steps (facts ++ f ∷ []) (g ∷ hints) hold (λ x among. more is x (contains_back facts f x among)) lead.2) (either tracks f)
    where
      f : Fact
      f = lead.0

      more : Holds tracks f → (x : Fact) → Contains facts x ⊎ (x ≡ f) → Holds tracks x
      more is x (inl among) = known x among
      more is x (inr e) = subst (λ (y : Fact). Holds tracks y) (sym e) is

      denied : Holds tracks (opposite f) → (x : Fact) → IsPart p steps h x → (x ≡ f) ⊎ (x ≢ f) → Holds tracks (opposite x)
      denied is x part (inl e) = subst (λ (y : Fact). Holds tracks (opposite y)) (sym e) is
      denied is x part (inr other) = known (opposite x) (lead.1.others x part other)

      on : (Holds tracks f → ⊥) → Holds tracks f ⊎ Holds tracks (opposite f) → ⊥
      on further (inl is) = further is
      on further (inr is) = clause_holds steps h hold lead.1.clause (λ x part. denied is x part (same_fact x f))

  step_holds : (steps : List (List Choice)) (step : Step) → StepsHold tracks steps → IsAcceptedStep p steps step → StepHolds tracks step.choices
  step_holds steps step hold ok had = no_conflict steps (map taken step.choices) step.hints hold known ok.shown
    where
      known : (f : Fact) → Contains (map taken step.choices) f → Holds tracks f
      known f among = let own = taken_from step.choices f among in subst (λ (y : Fact). Holds tracks y) own.2 (had own.0 own.1)

  -- the steps below a number hold
  steps_hold : (log : List Step) → IsAccepted p log → (m n : ℕ) (step : Step) → n < m → slice_get log n ≡ Some step → StepHolds tracks step.choices
  steps_hold log ok zero n step below at = absurd (omega arith)
  steps_hold log ok (suc m) n step below at =
      step_holds (choices_of (take n log)) step (λ k choices own. before (λ j s low here. steps_hold log ok m j s (omega arith) here) k choices own) (ok.each n step at)
    where
      before : ((j : ℕ) (s : Step) → j < n → slice_get log j ≡ Some s → StepHolds tracks s.choices) → StepsHold tracks (choices_of (take n log))
      before earlier k choices own =
          let s = get_mapped (λ (s : Step). s.choices) (take n log) k choices own in
          let there = get_taken log n k s.0 s.1 in
          subst (λ (cs : List Choice). StepHolds tracks cs) s.2 (earlier k s.0 there.0 there.1)

pub refutes : AcceptedLogsRefute
refutes p log ok tracks fits =
    let low = get_within log (length log - 1) ok.last.0 ok.last.1 in
    steps_hold p tracks fits log ok (length log) (length log - 1) ok.last.0 low ok.last.1 (λ c among. absurd (none (ok.last.0).choices c ok.last.2 among))
  where
    none : (cs : List Choice) (c : Choice) → cs ≡ [] → Contains cs c → ⊥
    none cs c e among = let h = subst (λ (xs : List Choice). Contains xs c) e among in omega (arith, h.1)
