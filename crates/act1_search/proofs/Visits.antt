-- The machine that takes decisions back stands in the descents that begin anew.
use Rattle.std.proofs.Common.{ℕ, suc, ◌≡◌, ◌≢◌, ◌+◌, ◌<◌, ◌≤◌, ◌⊎◌, true, List, [], ◌∷◌, ◌++◌, length, take, slice_get, Some, Contains, sym, ap, subst, ◌∙◌, inl, inr, arith}
use Rattle.std.proofs.lemmas.List.{length-append, append-nil}
use Rattle.std.proofs.lemmas.Bool.{cases_lt}
use Rattle.act1_base.proofs.ListGets.{get_in, get_within, get_cases, contains_at}
use Rattle.act1_search.proofs.Fronts.{take_front, take_whole, take_next, get_front, get_take, contains_front}
use Rattle.act1_channel.specs.declared.problem.Problem.{Problem}
use Rattle.act1_channel.specs.declared.problem.Choice.{Choice}
use Rattle.act1_channel.specs.Clauses.{Fact, taken}
use Rattle.act1_search.specs.Closure.{Follows, IsInConflict}
use Rattle.act1_search.specs.Closure.Follows.{is_chosen}
use Rattle.act1_search.specs.Search.{IsDecision, Descends, EndsInConflict, AreConflicts}
use Rattle.act1_search.specs.Watching.IsVisited.{at_first, decides, learns}
use Rattle.act1_search.specs.Laws.{VisitsTheSearch}
use Rattle.act1_search.proofs.Closures.{follows_more}
use Rattle.act1_search.proofs.Restart.{conflict_back, same_decision}

pub nothing_descends : (p : Problem) (steps : List (List Choice)) → Descends p steps []
nothing_descends p steps = record { calm = λ i low. absurd (omega arith); decided = λ i c at. cc }

-- of a list with one element more, the first elements are the list's own
pub front_of : {X : Type 0} (xs : List X) (x : X) (i : ℕ) → i ≤ length xs → take i (xs ++ x ∷ []) ≡ take i xs
front_of xs x i low = take_front xs (x ∷ []) i low

pub whole_of : {X : Type 0} (xs : List X) (x : X) (i : ℕ) → i ≡ length xs → take i (xs ++ x ∷ []) ≡ xs
whole_of xs x i e = front_of xs x i (omega (arith, e)) ∙ take_whole xs i (omega (arith, e))

-- one decision more
pub descends_on : (p : Problem) (steps : List (List Choice)) (chosen : List Choice) (c : Choice) → Descends p steps chosen → (IsInConflict p steps chosen → ⊥) → IsDecision p steps chosen c → Descends p steps (chosen ++ c ∷ [])
descends_on p steps chosen c d calm decision = record { calm = still; decided = λ i e at. own i e (get_cases chosen c e i at) }
  where
    calm_at : (i : ℕ) → i < length (chosen ++ c ∷ []) → (i < length chosen) ⊎ (length chosen ≤ i) → IsInConflict p steps (take i (chosen ++ c ∷ [])) → ⊥
    calm_at i low (inl before) conflict = d.calm i before (subst (λ (xs : List Choice). IsInConflict p steps xs) (front_of chosen c i (omega arith)) conflict)
    calm_at i low (inr last) conflict = calm (subst (λ (xs : List Choice). IsInConflict p steps xs) (whole_of chosen c i (omega (arith, length-append chosen (c ∷ [])))) conflict)

    still : (i : ℕ) → i < length (chosen ++ c ∷ []) → IsInConflict p steps (take i (chosen ++ c ∷ [])) → ⊥
    still i low conflict = calm_at i low (cases_lt i (length chosen)) conflict

    own : (i : ℕ) (e : Choice) → (slice_get chosen i ≡ Some e) ⊎ ((i ≡ length chosen) × (c ≡ e)) → IsDecision p steps (take i (chosen ++ c ∷ [])) e
    own i e (inl at) =
        let low = get_within chosen i e at in
        subst (λ (xs : List Choice). IsDecision p steps xs e) (sym (front_of chosen c i (omega arith))) (d.decided i e at)
    own i e (inr same) =
        subst (λ (xs : List Choice). IsDecision p steps xs e) (sym (whole_of chosen c i same.0)) (subst (λ (x : Choice). IsDecision p steps chosen x) same.1 decision)

-- two choices of a descent one after the other, before the first of which there is a fact about neither
record NextTwo (p : Problem) (steps : List (List Choice)) (step front : List Choice) (i : ℕ) : Type 0 where
  a : Choice
  b : Choice
  no_a : Follows p steps front (taken a) → ⊥
  no_b : Follows p steps front (taken b) → ⊥
  has_a : Contains step a
  has_b : Contains step b
  apart : a ≢ b

next_two : (p : Problem) (steps : List (List Choice)) (chosen : List Choice) (i : ℕ) → Descends p steps chosen → suc i < length chosen → NextTwo p steps chosen (take i chosen) i
next_two p steps chosen i d low =
    let a = get_in chosen i (omega arith) in
    let b = get_in chosen (suc i) low in
    let da = d.decided i a.0 a.1 in
    let db = d.decided (suc i) b.0 b.1 in
    let one = take_next chosen i a.0 a.1 in
    let within : (c : Choice) → Contains (take i chosen) c → Contains (take (suc i) chosen) c = λ c among. subst (λ (xs : List Choice). Contains xs c) (sym one) (contains_front (take i chosen) (a.0 ∷ []) c among) in
    let later : (f : Fact) → Follows p steps (take i chosen) f → Follows p steps (take (suc i) chosen) f =
    λ f h. subst (λ (s : List (List Choice)). Follows p s (take (suc i) chosen) f) (append-nil steps) (follows_more p steps [] (take i chosen) (take (suc i) chosen) within f h) in
    let has_a : Contains (take (suc i) chosen) a.0 = contains_at (take (suc i) chosen) i a.0 (get_take chosen (suc i) i a.0 (omega arith) a.1) in
    record {
      a = a.0;
      b = b.0;
      no_a = λ h. da.first_open.no_fact (true, h);
      no_b = λ h. db.first_open.no_fact (true, later (taken b.0) h);
      has_a = contains_at chosen i a.0 a.1;
      has_b = contains_at chosen (suc i) b.0 b.1;
      apart = λ e. db.first_open.no_fact (true, subst (λ (x : Choice). Follows p steps (take (suc i) chosen) (taken x)) e (is_chosen a.0 has_a));
    }

-- with a conflict's choices as one step more, the descent comes by all its choices but the last again
pub descends_again : (p : Problem) (steps : List (List Choice)) (chosen : List Choice) (c : Choice) → Descends p steps (chosen ++ c ∷ []) → Descends p (steps ++ (chosen ++ c ∷ []) ∷ []) chosen
descends_again p steps chosen c d = record { calm = still; decided = again }
  where
    step : List Choice
    step = chosen ++ c ∷ []

    two : (i : ℕ) → i < length chosen → NextTwo p steps step (take i chosen) i
    two i low = subst (λ (xs : List Choice). NextTwo p steps step xs i) (front_of chosen c i (omega arith)) (next_two p steps step i d (omega (arith, length-append chosen (c ∷ []))))

    still : (i : ℕ) → i < length chosen → IsInConflict p (steps ++ step ∷ []) (take i chosen) → ⊥
    still i low conflict =
        let n = two i low in
        let old = conflict_back p steps step (take i chosen) n.a n.b n.no_a n.no_b n.has_a n.has_b n.apart conflict in
        d.calm i (omega (arith, length-append chosen (c ∷ []))) (subst (λ (xs : List Choice). IsInConflict p steps xs) (sym (front_of chosen c i (omega arith))) old)

    again : (i : ℕ) (e : Choice) → slice_get chosen i ≡ Some e → IsDecision p (steps ++ step ∷ []) (take i chosen) e
    again i e at =
        let low = get_within chosen i e at in
        let n = two i low in
        let old = subst (λ (xs : List Choice). IsDecision p steps xs e) (front_of chosen c i (omega arith)) (d.decided i e (get_front chosen (c ∷ []) i e at)) in
        same_decision p steps step (take i chosen) n.a n.b n.no_a n.no_b n.has_a n.has_b n.apart e old

pub one_conflict_more : (p : Problem) (steps : List (List Choice)) (chosen : List Choice) → AreConflicts p steps → ((n : ℕ) → slice_get steps n ≢ Some []) → EndsInConflict p steps chosen → AreConflicts p (steps ++ chosen ∷ [])
one_conflict_more p steps chosen are full ends = record { each = λ n e at. own n e (get_cases steps chosen e n at); goes_on = λ n e at low. on n e low (get_cases steps chosen e n at) }
  where
    own : (n : ℕ) (e : List Choice) → (slice_get steps n ≡ Some e) ⊎ ((n ≡ length steps) × (chosen ≡ e)) → EndsInConflict p (take n (steps ++ chosen ∷ [])) e
    own n e (inl at) =
        let low = get_within steps n e at in
        subst (λ (s : List (List Choice)). EndsInConflict p s e) (sym (front_of steps chosen n (omega arith))) (are.each n e at)
    own n e (inr same) =
        subst (λ (s : List (List Choice)). EndsInConflict p s e) (sym (whole_of steps chosen n same.0)) (subst (λ (x : List Choice). EndsInConflict p steps x) same.1 ends)

    on : (n : ℕ) (e : List Choice) → n + 1 < length (steps ++ chosen ∷ []) → (slice_get steps n ≡ Some e) ⊎ ((n ≡ length steps) × (chosen ≡ e)) → e ≢ []
    on n e low (inl at) empty = full n (at ∙ ap (λ (x : List Choice). Some x) empty)
    on n e low (inr same) empty = absurd (omega (arith, same.0, length-append steps (chosen ∷ [])))

-- a list with an element at its end isn't empty
not_empty : {X : Type 0} (xs : List X) (x : X) → xs ++ x ∷ [] ≢ []
not_empty {X = X} xs x e = let l = length-append xs (x ∷ []) in let none = ap (λ (ys : List X). length ys) e in omega arith

still_full : (steps : List (List Choice)) (chosen : List Choice) → ((n : ℕ) → slice_get steps n ≢ Some []) → chosen ≢ [] → (n : ℕ) → slice_get (steps ++ chosen ∷ []) n ≢ Some []
still_full steps chosen full some n at = from (get_cases steps chosen [] n at)
  where
    from : (slice_get steps n ≡ Some []) ⊎ ((n ≡ length steps) × (chosen ≡ [])) → ⊥
    from (inl old) = full n old
    from (inr new) = some new.1

pub visits : VisitsTheSearch
visits p steps chosen at_first = (record { each = λ n c at. cc; goes_on = λ n c at. cc }, (λ n at. cc), nothing_descends p [])
visits p steps it (decides {chosen = chosen} c before calm decision) =
    let r = visits p steps chosen before in (r.0, r.1, descends_on p steps chosen c r.2 calm decision)
visits p it chosen (learns {steps = steps} c before conflict) =
    let r = visits p steps (chosen ++ c ∷ []) before in
    (one_conflict_more p steps (chosen ++ c ∷ []) r.0 r.1 (r.2, conflict), still_full steps (chosen ++ c ∷ []) r.1 (not_empty chosen c), descends_again p steps chosen c r.2)
