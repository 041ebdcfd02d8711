-- A new step tells nothing where two of its choices have no fact.
use Rattle.std.proofs.Common.{ℕ, ◌≡◌, ◌≢◌, ◌⊎◌, List, [], ◌∷◌, ◌++◌, length, slice_get, Some, Contains, refl, sym, ap, subst, ◌∙◌, inl, inr}
use Rattle.act1_base.proofs.ListGets.{get_in, get_cases, get_last, some_is}
use Rattle.act1_channel.proofs.Facts.{same_choice}
use Rattle.act1_channel.specs.declared.problem.Problem.{Problem}
use Rattle.act1_channel.specs.declared.problem.Choice.{Choice}
use Rattle.act1_channel.specs.declared.problem.Hint.{Hint}
use Rattle.act1_channel.specs.declared.problem.Hint.TheVariants as hint
use Rattle.act1_channel.specs.Clauses.{Fact, taken, refused, opposite, IsPart}
use Rattle.act1_search.specs.Closure.{IsUsed, Follows, IsInConflict}
use Rattle.act1_search.specs.Closure.Follows.{is_chosen, is_left}
use Rattle.act1_search.specs.Search.{IsDecision}
use Rattle.act1_search.proofs.Closures.{follows_more, conflict_more, part_more, used_more}

-- a clause in use with one step more is in use without it, or is that step
used_cases : (p : Problem) (steps : List (List Choice)) (step : List Choice) (h : Hint) → IsUsed p (steps ++ step ∷ []) h → IsUsed p steps h ⊎ (h ≡ hint.Step (length steps))
used_cases p steps step (hint.AtLeast c) used = inl used
used_cases p steps step (hint.Clash c d t) used = inl used
used_cases p steps step (hint.Step n) used = from (get_in (steps ++ step ∷ []) n used.0)
  where
    cases : (s : List Choice) → (slice_get steps n ≡ Some s) ⊎ ((n ≡ length steps) × (step ≡ s)) → IsUsed p steps (hint.Step n) ⊎ (hint.Step n ≡ hint.Step (length steps))
    cases s (inl at) = inl (Rattle.act1_base.proofs.ListGets.get_within steps n s at, tt)
    cases s (inr e) = inr (ap (λ (k : ℕ). hint.Step k) e.0)

    from : (s : List Choice) × (slice_get (steps ++ step ∷ []) n ≡ Some s) → IsUsed p steps (hint.Step n) ⊎ (hint.Step n ≡ hint.Step (length steps))
    from own = cases own.0 (get_cases steps step own.0 n own.1)

module _ (p : Problem) (steps : List (List Choice)) (step chosen : List Choice) (a b : Choice)
    (no_a : Follows p steps chosen (taken a) → ⊥) (no_b : Follows p steps chosen (taken b) → ⊥)
    (has_a : Contains step a) (has_b : Contains step b) (apart : a ≢ b) where
  all : (c : Choice) → Contains chosen c → Contains chosen c
  all c among = among

  part_of : (c : Choice) → Contains step c → IsPart p (steps ++ step ∷ []) (hint.Step (length steps)) (refused c)
  part_of c among = (refl, (step, get_last steps step (length steps) refl, among))

  -- the other choice than f's is one about which there is no fact, so the step isn't the reason of f
  no_reason : (f : Fact) → ((g : Fact) → IsPart p (steps ++ step ∷ []) (hint.Step (length steps)) g → g ≢ f → Follows p steps chosen (opposite g)) → (f.choice ≡ a) ⊎ (f.choice ≢ a) → ⊥
  no_reason f others (inl e) = no_b (others (refused b) (part_of b has_b) (λ same. apart (sym e ∙ sym (ap (λ (x : Fact). x.choice) same))))
  no_reason f others (inr other) = no_a (others (refused a) (part_of a has_a) (λ same. other (sym (ap (λ (x : Fact). x.choice) same))))

  pub follows_back : (f : Fact) → Follows p (steps ++ step ∷ []) chosen f → Follows p steps chosen f
  follows_back it (is_chosen c among) = is_chosen c among
  follows_back it (is_left h f used part others) =
      from (λ g own other. follows_back (opposite g) (others g own other)) (used_cases p steps step h used)
    where
      from : ((g : Fact) → IsPart p (steps ++ step ∷ []) h g → g ≢ f → Follows p steps chosen (opposite g)) → IsUsed p steps h ⊎ (h ≡ hint.Step (length steps)) → Follows p steps chosen f
      from known (inl old) = is_left h f old (Rattle.act1_search.proofs.Closures.part_back p steps (step ∷ []) h f old part) (λ g own other. known g (part_more p steps (step ∷ []) h g own) other)
      from known (inr e) = absurd (no_reason f (λ g own other. known g (subst (λ (k : Hint). IsPart p (steps ++ step ∷ []) k g) (sym e) own) other) (same_choice f.choice a))

  pub conflict_back : IsInConflict p (steps ++ step ∷ []) chosen → IsInConflict p steps chosen
  conflict_back (inl both) = inl (both.0, follows_back (taken both.0) both.1, follows_back (refused both.0) both.2)
  conflict_back (inr (h, used, empty)) = from (used_cases p steps step h used)
    where
      from : IsUsed p steps h ⊎ (h ≡ hint.Step (length steps)) → IsInConflict p steps chosen
      from (inl old) = inr (h, old, λ f part. empty f (part_more p steps (step ∷ []) h f part))
      from (inr e) = absurd (empty (refused a) (subst (λ (k : Hint). IsPart p (steps ++ step ∷ []) k (refused a)) (sym e) (part_of a has_a)))

  pub follows_on : (f : Fact) → Follows p steps chosen f → Follows p (steps ++ step ∷ []) chosen f
  follows_on = follows_more p steps (step ∷ []) chosen chosen all

  pub same_decision : (c : Choice) → IsDecision p steps chosen c → IsDecision p (steps ++ step ∷ []) chosen c
  same_decision c d = record {
    is_there = d.is_there;
    first = λ e low. let own = d.first e low in (own.0, follows_on _ own.1);
    unsettled = λ own. d.unsettled (own.0, follows_back _ own.1);
    first_open = record {
      allowed = d.first_open.allowed;
      no_fact = λ own. d.first_open.no_fact (own.0, follows_back _ own.1);
      least = λ t low ok. let own = d.first_open.least t low ok in (own.0, follows_on _ own.1);
    };
  }
