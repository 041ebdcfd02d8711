-- A refutation of a channel with three connections and one track, and the same with a hint changed.
use Rattle.std.proofs.Common.{ℕ, zero, suc, ◌≡◌, ◌≢◌, ◌⊎◌, true, false, not, List, [], ◌∷◌, take, slice_get, Some, Contains, refl, sym, ap, subst, ◌∙◌, inl, inr, arith}
use Rattle.std.proofs.lemmas.List.Elements.{All-from_recursion}
use Rattle.act1_channel.specs.declared.problem.Problem.{Problem}
use Rattle.act1_channel.specs.declared.problem.Choice.{Choice}
use Rattle.act1_channel.specs.declared.problem.Hint.TheVariants as hint
use Rattle.act1_channel.specs.declared.problem.Step.{Step}
use Rattle.act1_channel.specs.Acceptance.{choices_of, IsAccepted, IsAcceptedStep, IsInRange}
use Rattle.act1_channel.specs.Assignment.{choice_at, Assigns, DoClash}
use Rattle.act1_channel.specs.Clauses.{opposite, refused, taken, Fact, IsClause, IsPart, IsUnit}
use Rattle.act1_channel.specs.Ranges.{is_problem}
use Rattle.act1_channel.proofs.Facts.{choice_from, fact_from}
use Rattle.act1_channel.proofs.Refutes.{refutes}
use Rattle.act1_channel.proofs.Takes.{contains_back}
use Rattle.act1_base.proofs.ListGets.{some_is}
use Rattle.act1_samples.proofs.Channels.{span}

crowded_is_problem : is_problem 6 1 ([] ∷ []) (span 0 3 ∷ span 1 4 ∷ span 2 5 ∷ []) ≡ true
unfolding is_problem
crowded_is_problem = refl

abbrev crowded : Problem
crowded = record { columns = 6; k = 1; tracks = [] ∷ []; connections = span 0 3 ∷ span 1 4 ∷ span 2 5 ∷ []; valid = crowded_is_problem }

abbrev first : Step
first = record { choices = choice_at 0 0 ∷ []; hints = hint.Clash 0 1 0 ∷ hint.AtLeast 1 ∷ [] }

abbrev second : Step
second = record { choices = []; hints = hint.Step 0 ∷ hint.AtLeast 0 ∷ [] }

-- the first two clash in the segment of column 2, the only one
clash : DoClash crowded 0 1 0
clash = (0, (2, omega arith, omega arith, refl), (2, omega arith, omega arith, refl))

only : {X : Type 0} (x y : X) → Contains (x ∷ []) y → y ≡ x
only x y among = from (contains_back [] x y among)
  where
    from : Contains [] y ⊎ (y ≡ x) → y ≡ x
    from (inl among) = absurd (omega (arith, among.1))
    from (inr same) = same

apart : (c d t : ℕ) → c ≢ d → choice_at c t ≡ choice_at d t → ⊥
apart c d t other same = other (ap (λ (x : Choice). x.connection) same)

-- a part of the clause of a connection takes the one track
on_track : (c : ℕ) (f : Fact) → IsPart crowded [] (hint.AtLeast c) f → opposite f ≡ refused (choice_at c 0)
on_track c f part = let low = part.2.1 in fact_from (opposite f) (refused (choice_at c 0)) (choice_from f.choice (choice_at c 0) part.1 (omega arith)) (ap not part.0)

first_is_accepted : IsAcceptedStep crowded [] first
first_is_accepted = record {
  within = All-from_recursion (IsInRange crowded) (choice_at 0 0 ∷ []) ((omega arith, omega arith), tt);
  rise = tt;
  shown = (refused (choice_at 1 0), unit, (omega arith, λ f part. subst (λ (x : Fact). Contains (taken (choice_at 0 0) ∷ refused (choice_at 1 0) ∷ []) x) (sym (on_track 1 f part)) (1, omega arith, refl)));
}
  where
    others : (g : Fact) → g.truth ≡ false → (g.choice ≡ choice_at 0 0) ⊎ (g.choice ≡ choice_at 1 0) → g ≢ refused (choice_at 1 0) → Contains (taken (choice_at 0 0) ∷ []) (opposite g)
    others g denied (inl same) other = subst (λ (x : Fact). Contains (taken (choice_at 0 0) ∷ []) x) (sym (fact_from (opposite g) (taken (choice_at 0 0)) same (ap not denied))) (0, omega arith, refl)
    others g denied (inr same) other = absurd (other (fact_from g (refused (choice_at 1 0)) same denied))

    unit : IsUnit crowded [] (taken (choice_at 0 0) ∷ []) (hint.Clash 0 1 0) (refused (choice_at 1 0))
    unit = record {
      clause = (omega arith, omega arith, omega arith, clash);
      part = (refl, inr refl);
      undecided = λ f among same. apart 0 1 0 (λ e. cc) (sym (ap (λ (x : Fact). x.choice) (only (taken (choice_at 0 0)) f among)) ∙ same);
      others = λ g part other. others g part.0 part.1 other;
    }

second_is_accepted : IsAcceptedStep crowded ((choice_at 0 0 ∷ []) ∷ []) second
second_is_accepted = record {
  within = All-from_recursion (IsInRange crowded) [] tt;
  rise = tt;
  shown = (refused (choice_at 0 0), unit, (omega arith, λ f part. subst (λ (x : Fact). Contains (refused (choice_at 0 0) ∷ []) x) (sym (on_track 0 f part)) (0, omega arith, refl)));
}
  where
    unit : IsUnit crowded ((choice_at 0 0 ∷ []) ∷ []) [] (hint.Step 0) (refused (choice_at 0 0))
    unit = record {
      clause = omega arith;
      part = (refl, (choice_at 0 0 ∷ [], refl, (0, omega arith, refl)));
      undecided = λ f among same. absurd (omega (arith, among.1));
      others = λ g part other. absurd (other (fact_from g (refused (choice_at 0 0)) (only (choice_at 0 0) g.choice (subst (λ (cs : List Choice). Contains cs g.choice) (sym (some_is (choice_at 0 0 ∷ []) part.1.0 part.1.1)) part.1.2)) part.0));
    }

log_is_accepted : IsAccepted crowded (first ∷ second ∷ [])
log_is_accepted = record { each = each; last = (second, refl, refl) }
  where
    each : (n : ℕ) (step : Step) → slice_get (first ∷ second ∷ []) n ≡ Some step → IsAcceptedStep crowded (choices_of (take n (first ∷ second ∷ []))) step
    each zero step at = subst (λ (s : Step). IsAcceptedStep crowded [] s) (some_is first step at) first_is_accepted
    each (suc zero) step at = subst (λ (s : Step). IsAcceptedStep crowded ((choice_at 0 0 ∷ []) ∷ []) s) (some_is second step at) second_is_accepted
    each (suc (suc n)) step at = cc

no_assignment : (tracks : List ℕ) → Assigns crowded tracks → ⊥
no_assignment = refutes crowded (first ∷ second ∷ []) log_is_accepted

-- with the clash of the other two in its place both parts are undecided
changed_is_refused : IsAcceptedStep crowded [] (record first { hints = hint.Clash 1 2 0 ∷ hint.AtLeast 1 ∷ [] }) → ⊥
changed_is_refused ok = from ok.shown.0 ok.shown.1 ok.shown.1.part.1
  where
    false_at : (c : ℕ) → 0 ≢ c → Contains (taken (choice_at 0 0) ∷ []) (taken (choice_at c 0)) → ⊥
    false_at c other among = apart 0 c 0 other (sym (ap (λ (x : Fact). x.choice) (only (taken (choice_at 0 0)) (taken (choice_at c 0)) among)))

    from : (f : Fact) → IsUnit crowded [] (taken (choice_at 0 0) ∷ []) (hint.Clash 1 2 0) f → (f.choice ≡ choice_at 1 0) ⊎ (f.choice ≡ choice_at 2 0) → ⊥
    from f unit (inl same) = false_at 2 (λ e. cc) (unit.others (refused (choice_at 2 0)) (refl, inr refl) (λ e. apart 1 2 0 (λ k. cc) (sym same ∙ sym (ap (λ (x : Fact). x.choice) e))))
    from f unit (inr same) = false_at 1 (λ e. cc) (unit.others (refused (choice_at 1 0)) (refl, inl refl) (λ e. apart 2 1 0 (λ k. cc) (sym same ∙ sym (ap (λ (x : Fact). x.choice) e))))

-- a clash has its lower connection first
exchanged_is_none : IsClause crowded [] (hint.Clash 1 0 0) → ⊥
exchanged_is_none clause = absurd (omega (arith, clause.0))

-- no step cites itself
itself_is_none : IsClause crowded [] (hint.Step 0) → ⊥
itself_is_none low = absurd (omega (arith, low))
