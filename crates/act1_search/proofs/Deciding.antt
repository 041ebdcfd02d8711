-- Where there is no conflict, decisions are there.
use Rattle.std.proofs.Common.{ℕ, zero, suc, ◌≡◌, ◌≢◌, ◌+◌, ◌-◌, ◌<◌, ◌≤◌, ◌⊎◌, Bool, true, false, Option, Some, None, MatchOption, List, [], ◌∷◌, ◌++◌, length, take, slice_get, Contains, refl, sym, ap, subst, ◌∙◌, inl, inr, arith, true≢false, is_some}
use Rattle.std.proofs.lemmas.Bool.{cases_eq}
use Rattle.act1_base.proofs.ListGets.{get_in, get_within, get_cases, get_last, place_of}
use Rattle.act1_channel.proofs.Facts.{choice_from, fact_from}
use Rattle.act1_channel.specs.declared.problem.Problem.{Problem}
use Rattle.act1_channel.specs.declared.problem.Choice.{Choice}
use Rattle.act1_channel.specs.declared.problem.Hint.{Hint}
use Rattle.act1_channel.specs.declared.problem.Hint.TheVariants as hint
use Rattle.act1_channel.specs.Assignment.{IsAllowed, choice_at}
use Rattle.act1_channel.specs.Clauses.{Fact, taken, refused, opposite, IsPart}
use Rattle.act1_search.specs.Closure.{Follows, IsInConflict, HasTrueChoice, HasFactAbout}
use Rattle.act1_search.specs.Closure.Follows.{is_chosen, is_left}
use Rattle.act1_search.specs.Search.{IsDecision, Descends, EndsInConflict, HasConflict, EndsRefuted, EndsAssigned}
use Rattle.std.proofs.lemmas.List.{length-append, nil_from_length}
use Rattle.act1_search.specs.Watching.{IsVisited}
use Rattle.act1_search.specs.Watching.IsVisited.{at_first, decides, learns}
use Rattle.act1_search.specs.Watched.{Watched}
use Rattle.act1_search.proofs.Fronts.{take_whole, take_next}
use Rattle.act1_search.specs.Deciding.{IsCalm, IsFirstTrue, AreFirstTrue}
use Rattle.act1_search.proofs.Settling.{some_track_of}
use Rattle.act1_search.proofs.Visits.{descends_on, visits, one_conflict_more}
use Rattle.act1_search.proofs.Lighter.{connections_rise}

module _ (p : Problem) (steps : List (List Choice)) (chosen : List Choice) where
  -- true choices are allowed
  pub true_allowed : (f : Fact) → ((c : Choice) → Contains chosen c → IsAllowed p c) → Follows p steps chosen f → f.truth ≡ true → IsAllowed p f.choice
  true_allowed it all (is_chosen c among) is = all c among
  true_allowed it all (is_left h f used part others) is = from h part
    where
      from : (h : Hint) → IsPart p steps h f → IsAllowed p f.choice
      from (hint.AtLeast c) own = own.2
      from (hint.Clash c d t) own = absurd (true≢false (sym is ∙ own.0))
      from (hint.Step n) own = absurd (true≢false (sym is ∙ own.0))

  -- a connection with a fact about each allowed track has a true choice, or there is a conflict
  pub no_open : (c : ℕ) → c < length p.connections → (IsInConflict p steps chosen → ⊥) → (HasTrueChoice p steps chosen c → ⊥) → ((t : ℕ) → IsAllowed p (choice_at c t) → HasFactAbout p steps chosen (choice_at c t)) → ⊥
  no_open c there calm none all = from (some_track_of p c (length p.tracks) there)
    where
      off : (t : ℕ) → IsAllowed p (choice_at c t) → Follows p steps chosen (refused (choice_at c t))
      off t allowed = by (all t allowed).0 (all t allowed).1
        where
          by : (b : Bool) → Follows p steps chosen (record { choice = choice_at c t; truth = b }) → Follows p steps chosen (refused (choice_at c t))
          by true h = absurd (none (t, h))
          by false h = h

      others : (g : Fact) → IsPart p steps (hint.AtLeast c) g → Follows p steps chosen (opposite g)
      others g part =
          let e : choice_at c g.choice.track ≡ g.choice = choice_from (choice_at c g.choice.track) g.choice (sym part.1) refl in
          let h = off g.choice.track (subst (λ (x : Choice). IsAllowed p x) (sym e) part.2) in
          subst (λ (x : Fact). Follows p steps chosen x) (fact_from (refused (choice_at c g.choice.track)) (opposite g) e (sym (ap (λ (b : Bool). Rattle.std.proofs.Common.not b) part.0))) h

      from : ((t : ℕ) × IsAllowed p (choice_at c t)) ⊎ ((t : ℕ) → t < length p.tracks → IsAllowed p (choice_at c t) → ⊥) → ⊥
      from (inl one) = none (one.0, is_left (hint.AtLeast c) (taken (choice_at c one.0)) (there, tt) (refl, refl, one.1) (λ g part other. others g part))
      from (inr empty) = calm (inr (hint.AtLeast c, (there, tt), λ f part. empty f.choice.track part.2.1 (subst (λ (x : Choice). IsAllowed p x) (choice_from f.choice (choice_at c f.choice.track) part.1 refl) part.2)))

  -- a descent has no more choices than there are connections before its next decision
  at_place : (i : ℕ) (c : Choice) → Descends p steps chosen → slice_get chosen i ≡ Some c → i ≤ c.connection
  at_place zero c d at = omega arith
  at_place (suc i) c d at =
      let low = get_within chosen (suc i) c at in
      let b = get_in chosen i (omega arith) in
      let r = at_place i b.0 d b.1 in
      let up = connections_rise p steps chosen i (suc i) b.0 c d (omega arith) b.1 at in
      omega arith

  pub decided_allowed : Descends p steps chosen → (c : Choice) → Contains chosen c → IsAllowed p c
  decided_allowed d c among = let at = place_of chosen c among in (d.decided at.0 c at.1).first_open.allowed

pub short_of : (p : Problem) (steps : List (List Choice)) (chosen : List Choice) (c : Choice) → Descends p steps chosen → (IsInConflict p steps chosen → ⊥) → IsDecision p steps chosen c → length chosen < length p.connections
short_of p steps chosen c d calm is =
    let on = descends_on p steps chosen c d calm is in
    let r = at_place p steps (chosen ++ c ∷ []) (length chosen) c on (get_last chosen c (length chosen) refl) in
    let there = is.is_there in
    omega arith

-- where the search stands: its steps are conflicts, its choices a descent
pub calm_of : (p : Problem) (steps : List (List Choice)) (chosen : List Choice) → IsVisited p steps chosen → (IsInConflict p steps chosen → ⊥) → IsCalm p steps chosen
calm_of p steps chosen at still = record { calm = still; allowed = decided_allowed p steps chosen (visits p steps chosen at).2 }

pub room_for : (p : Problem) (steps : List (List Choice)) (chosen : List Choice) (c : Choice) → IsVisited p steps chosen → (IsInConflict p steps chosen → ⊥) → IsDecision p steps chosen c → length chosen < length p.connections
room_for p steps chosen c at still is = short_of p steps chosen c (visits p steps chosen at).2 still is

-- the three ways in which the search ends
pub assigned_of : (p : Problem) (steps : List (List Choice)) (chosen : List Choice) (tracks : List ℕ) → IsVisited p steps chosen → (IsInConflict p steps chosen → ⊥) → length tracks ≡ length p.connections → AreFirstTrue p steps chosen tracks → EndsAssigned p steps tracks
assigned_of p steps chosen tracks at still long first =
    let v = visits p steps chosen at in
    (v.0, v.1, record { chosen = chosen; descends = v.2; calm = still; each = long; true_there = λ c t here. (first c t here).is_taken; least = λ c t u here low. (first c t here).least u low })

pub refuted_of : (p : Problem) (steps : List (List Choice)) (chosen : List Choice) → IsVisited p steps chosen → IsInConflict p steps chosen → length chosen ≡ 0 → EndsRefuted p (steps ++ [] ∷ [])
refuted_of p steps chosen at conflict none =
    let v = visits p steps chosen at in
    let empty = nil_from_length chosen none in
    let ends = subst (λ (cs : List Choice). EndsInConflict p steps cs) empty (v.2, conflict) in
    (one_conflict_more p steps [] v.0 v.1 ends, get_last steps [] (length (steps ++ [] ∷ []) - 1) (omega (arith, length-append {A = List Choice} steps ([] ∷ []))))

pub spent_of : (p : Problem) (steps : List (List Choice)) (chosen : List Choice) (budget : ℕ) → IsVisited p steps chosen → length steps ≡ budget → 0 < budget → (last : List Choice) × HasConflict p budget last × (last ≢ [])
spent_of p steps chosen budget at long some =
    let v = visits p steps chosen at in
    let own = get_in steps (budget - 1) (omega arith) in
    (own.0, (steps, v.0, long, own.1), λ e. v.1 (budget - 1) (own.1 ∙ ap (λ (c : List Choice). Some c) e))

-- what an option that is none, or some, was promised
pub none_given : (r : Option ℕ) (P : Type 0) (Q : ℕ → Type 0) → is_some r ≡ false → MatchOption r P Q → P
none_given None P Q e h = h
none_given (Some t) P Q e h = absurd (true≢false e)

pub some_given : (r : Option ℕ) (P : Type 0) (Q : ℕ → Type 0) → is_some r ≡ true → MatchOption r P Q → (t : ℕ) × Q t
some_given None P Q e h = absurd (true≢false (sym e))
some_given (Some t) P Q e h = (t, h)

-- a test of the conflict of one problem is one of the other's, where they are the same
pub still_of : (q p : Problem) (steps : List (List Choice)) (chosen : List Choice) (r : Bool) → q ≡ p → (IsInConflict q steps chosen → r ≡ true) → r ≡ false → IsInConflict p steps chosen → ⊥
still_of q p steps chosen r same yes_if no_is h = true≢false (sym (yes_if (subst (λ (x : Problem). IsInConflict x steps chosen) (sym same) h)) ∙ no_is)

pub conflict_of : (q p : Problem) (steps : List (List Choice)) (chosen : List Choice) (r : Bool) → q ≡ p → (r ≡ true → IsInConflict q steps chosen) → r ≡ true → IsInConflict p steps chosen
conflict_of q p steps chosen r same if_yes is = subst (λ (x : Problem). IsInConflict x steps chosen) same (if_yes is)

-- one connection more has a true choice
pub true_more : (p : Problem) (steps : List (List Choice)) (chosen : List Choice) (n : ℕ) → ((c : ℕ) → c < n → HasTrueChoice p steps chosen c) → HasTrueChoice p steps chosen n → (c : ℕ) → c < n + 1 → HasTrueChoice p steps chosen c
true_more p steps chosen n before own c low = from (cases_eq c n)
  where
    from : (c ≡ n) ⊎ (c ≢ n) → HasTrueChoice p steps chosen c
    from (inl same) = subst (λ (k : ℕ). HasTrueChoice p steps chosen k) (sym same) own
    from (inr other) = before c (let e : c ≢ n = other in omega arith)

-- one track more
pub first_more : (p : Problem) (steps : List (List Choice)) (chosen : List Choice) (tracks after : List ℕ) (n t : ℕ) → after ≡ tracks ++ t ∷ [] → length tracks ≡ n → AreFirstTrue p steps chosen tracks → IsFirstTrue p steps chosen n t
    → (length after ≡ n + 1) × AreFirstTrue p steps chosen after
first_more p steps chosen tracks after n t is long all own = (
  ap (λ (xs : List ℕ). length xs) is ∙ length-append tracks (t ∷ []) ∙ ap (λ (k : ℕ). k + 1) long,
  λ c u at. from c u (get_cases tracks t u c (subst (λ (xs : List ℕ). slice_get xs c ≡ Some u) is at)),
)
  where
    from : (c u : ℕ) → (slice_get tracks c ≡ Some u) ⊎ ((c ≡ length tracks) × (t ≡ u)) → IsFirstTrue p steps chosen c u
    from c u (inl old) = all c u old
    from c u (inr new) = subst (λ (k : ℕ). IsFirstTrue p steps chosen k u) (sym (new.0 ∙ long)) (subst (λ (v : ℕ). IsFirstTrue p steps chosen n v) new.1 own)

-- one decision more, in terms of what contracts see
pub decided_more : (p : Problem) (before after : Watched) (c : Choice) → before.problem ≡ p → IsVisited p before.steps before.chosen → (IsInConflict p before.steps before.chosen → ⊥) → IsDecision p before.steps before.chosen c
    → after ≡ record before { chosen = before.chosen ++ c ∷ [] } → (after.problem ≡ p) × (after.steps ≡ before.steps) × IsVisited p after.steps after.chosen × (length p.connections - length after.chosen < length p.connections - length before.chosen)
decided_more p before after c same at still is grown = (
  ap (λ (w : Watched). w.problem) grown ∙ same,
  ap (λ (w : Watched). w.steps) grown,
  subst (λ (w : Watched). IsVisited p w.steps w.chosen) (sym grown) (decides c at still is),
  (let r = room_for p before.steps before.chosen c at still is in
      let l = ap (λ (w : Watched). length w.chosen) grown ∙ length-append before.chosen (c ∷ []) in
      omega arith),
)

-- one conflict more
pub learned_more : (p : Problem) (before after : Watched) → before.problem ≡ p → IsVisited p before.steps before.chosen → IsInConflict p before.steps before.chosen → 0 < length before.chosen
    → after ≡ record before { steps = before.steps ++ before.chosen ∷ []; chosen = take (length before.chosen - 1) before.chosen } → (after.problem ≡ p) × (length after.steps ≡ length before.steps + 1) × IsVisited p after.steps after.chosen
learned_more p before after same at conflict some grown = (
  ap (λ (w : Watched). w.problem) grown ∙ same,
  ap (λ (w : Watched). length w.steps) grown ∙ length-append before.steps (before.chosen ∷ []),
  subst (λ (w : Watched). IsVisited p w.steps w.chosen) (sym grown) learned,
)
  where
    k : ℕ
    k = length before.chosen - 1

    last : (c : Choice) × (slice_get before.chosen k ≡ Some c)
    last = get_in before.chosen k (omega arith)

    parts : before.chosen ≡ take k before.chosen ++ last.0 ∷ []
    parts = (let e : suc k ≡ length before.chosen = omega arith in sym (take_whole before.chosen (suc k) (omega arith))) ∙ take_next before.chosen k last.0 last.1

    learned : IsVisited p (before.steps ++ before.chosen ∷ []) (take k before.chosen)
    learned = subst (λ (cs : List Choice). IsVisited p (before.steps ++ cs ∷ []) (take k before.chosen)) (sym parts)
        (learns last.0 (subst (λ (cs : List Choice). IsVisited p before.steps cs) parts at) (subst (λ (cs : List Choice). IsInConflict p before.steps cs) parts conflict))

-- a new watch stands where the search begins
pub start_of : (p : Problem) (w : Watched) → w ≡ record { problem = p; steps = []; chosen = [] } → (w.problem ≡ p) × (length w.steps ≡ 0) × IsVisited p w.steps w.chosen
start_of p w e = (ap (λ (x : Watched). x.problem) e, ap (λ (x : Watched). length x.steps) e, subst (λ (x : Watched). IsVisited p x.steps x.chosen) (sym e) at_first)

-- the refutation as a list
pub refuted_as : (p : Problem) (steps after : List (List Choice)) (chosen : List Choice) → after ≡ steps ++ [] ∷ [] → IsVisited p steps chosen → IsInConflict p steps chosen → length chosen ≡ 0 → EndsRefuted p after × (length after ≡ length steps + 1)
refuted_as p steps after chosen e at conflict none =
    (subst (λ (s : List (List Choice)). EndsRefuted p s) (sym e) (refuted_of p steps chosen at conflict none), ap (λ (s : List (List Choice)). length s) e ∙ length-append {A = List Choice} steps ([] ∷ []))
