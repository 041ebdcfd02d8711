-- Recorded steps tell nothing but that the choice taken back is false where it was taken back.
use Rattle.std.proofs.Common.{ℕ, suc, ◌≡◌, ◌≢◌, ◌<◌, ◌≤◌, ◌⊎◌, Bool, true, false, List, [], ◌∷◌, ◌++◌, length, take, slice_get, Some, Contains, refl, sym, ap, subst, ◌∙◌, inl, inr, arith, append_assoc}
use Rattle.std.proofs.lemmas.Bool.{cases_lt}
use Rattle.std.proofs.lemmas.List.{length-append, same_from_push}
use Rattle.act1_base.proofs.ListGets.{get_in, get_cases, get_last, contains_at, place_of, some_is}
use Rattle.act1_search.proofs.Fronts.{get_front, take_whole, contains_front, contains_back, contains_taken, contains_middle, middle_at, length_taken, length_at_most, take_next}
use Rattle.act1_channel.proofs.Facts.{same_choice, fact_from}
use Rattle.act1_channel.specs.declared.problem.Problem.{Problem}
use Rattle.act1_channel.specs.declared.problem.Choice.{Choice}
use Rattle.act1_channel.specs.declared.problem.Hint.{Hint}
use Rattle.act1_channel.specs.declared.problem.Hint.TheVariants as hint
use Rattle.act1_channel.specs.Clauses.{Fact, taken, refused, opposite, IsPart}
use Rattle.act1_search.specs.Closure.{IsUsed, Follows, IsInConflict, HasFactAbout}
use Rattle.act1_search.specs.Closure.Follows.{is_chosen, is_left}
use Rattle.act1_search.specs.Watching.{IsWatched, Stands, Keeps, KeepsConflict}
use Rattle.act1_search.specs.Watching.IsWatched.{is_new, is_assumed, is_learned}
use Rattle.act1_search.specs.Watching.Keeps.{stands, keeps_left}
use Rattle.act1_search.specs.Laws.{StepsTellOneFact, AssumingAddsOne, LearningAddsOne}
use Rattle.act1_search.proofs.Closures.{step_fact, used_more, part_more, part_back}
use Rattle.act1_search.proofs.Visits.{front_of}

-- a step that tells nothing: after the choices up to a place it has a choice that was taken back there
pub record IsSpent (steps : List (List Choice)) (chosen step : List Choice) : Type 0 where
  pub i : ℕ
  pub low : i ≤ length chosen
  pub c : Choice
  pub rest : List Choice
  pub is : step ≡ take i chosen ++ c ∷ rest
  pub back : Contains steps (take i chosen ++ c ∷ [])

abbrev pub AreSpent : List (List Choice) → List Choice → Type 0
AreSpent steps chosen = (n : ℕ) (step : List Choice) → slice_get steps n ≡ Some step → IsSpent steps chosen step

spent_assumed : (steps : List (List Choice)) (chosen : List Choice) (c : Choice) → AreSpent steps chosen → AreSpent steps (chosen ++ c ∷ [])
spent_assumed steps chosen c are n step at =
    let s = are n step at in
    let low = s.low in
    let same = sym (front_of chosen c s.i low) in
    record {
      i = s.i;
      low = omega (arith, length-append chosen (c ∷ []));
      c = s.c;
      rest = s.rest;
      is = subst (λ (xs : List Choice). step ≡ xs ++ s.c ∷ s.rest) same s.is;
      back = subst (λ (xs : List Choice). Contains steps (xs ++ s.c ∷ [])) same s.back;
    }

spent_learned : (steps : List (List Choice)) (chosen : List Choice) (c : Choice) → AreSpent steps (chosen ++ c ∷ []) → AreSpent (steps ++ (chosen ++ c ∷ []) ∷ []) chosen
spent_learned steps chosen c are n step at = from (get_cases steps (chosen ++ c ∷ []) step n at)
  where
    added : Contains (steps ++ (chosen ++ c ∷ []) ∷ []) (chosen ++ c ∷ [])
    added = contains_at (steps ++ (chosen ++ c ∷ []) ∷ []) (length steps) (chosen ++ c ∷ []) (get_last steps (chosen ++ c ∷ []) (length steps) refl)

    -- the step begins with the choices learned
    begins : (rest : List Choice) → step ≡ chosen ++ c ∷ rest → IsSpent (steps ++ (chosen ++ c ∷ []) ∷ []) chosen step
    begins rest is = record {
      i = length chosen;
      low = omega arith;
      c = c;
      rest = rest;
      is = subst (λ (xs : List Choice). step ≡ xs ++ c ∷ rest) (sym (take_whole chosen (length chosen) (omega arith))) is;
      back = subst (λ (xs : List Choice). Contains (steps ++ (chosen ++ c ∷ []) ∷ []) (xs ++ c ∷ [])) (sym (take_whole chosen (length chosen) (omega arith))) added;
    }

    old : (s : IsSpent steps (chosen ++ c ∷ []) step) → (s.i < suc (length chosen)) ⊎ (suc (length chosen) ≤ s.i) → IsSpent (steps ++ (chosen ++ c ∷ []) ∷ []) chosen step
    old s (inl low) =
        let same = front_of chosen c s.i (omega arith) in
        record {
          i = s.i;
          low = omega arith;
          c = s.c;
          rest = s.rest;
          is = subst (λ (xs : List Choice). step ≡ xs ++ s.c ∷ s.rest) same s.is;
          back = contains_front steps ((chosen ++ c ∷ []) ∷ []) (take s.i chosen ++ s.c ∷ []) (subst (λ (xs : List Choice). Contains steps (xs ++ s.c ∷ [])) same s.back);
        }
    old s (inr high) =
        let whole = take_whole (chosen ++ c ∷ []) s.i (omega (arith, length-append chosen (c ∷ []))) in
        begins (s.c ∷ s.rest) (subst (λ (xs : List Choice). step ≡ xs ++ s.c ∷ s.rest) whole s.is ∙ append_assoc chosen (c ∷ []) (s.c ∷ s.rest))

    from : (slice_get steps n ≡ Some step) ⊎ ((n ≡ length steps) × (chosen ++ c ∷ [] ≡ step)) → IsSpent (steps ++ (chosen ++ c ∷ []) ∷ []) chosen step
    from (inl before) = let s = are n step before in old s (cases_lt s.i (suc (length chosen)))
    from (inr same) = begins [] (sym same.1)

pub spent : (p : Problem) (steps : List (List Choice)) (chosen : List Choice) → IsWatched p steps chosen → AreSpent steps chosen
spent p steps chosen is_new = λ n step at. cc
spent p steps it (is_assumed {chosen = chosen} c before calm allowed none) = spent_assumed steps chosen c (spent p steps chosen before)
spent p it chosen (is_learned {steps = steps} c before conflict) = spent_learned steps chosen c (spent p steps (chosen ++ c ∷ []) before)

module _ (p : Problem) (steps : List (List Choice)) (chosen : List Choice) where
  -- what stands follows
  standing : (f : Fact) → Stands steps chosen f → Follows p steps chosen f
  standing f (inl own) = subst (λ (b : Bool). Follows p steps chosen (record { choice = f.choice; truth = b })) (sym own.0) (is_chosen f.choice own.1)
  standing f (inr own) =
      subst (λ (b : Bool). Follows p steps chosen (record { choice = f.choice; truth = b })) (sym own.0)
      (step_fact p steps (take own.1.0 chosen) chosen f.choice own.1.2 (λ c among. contains_taken chosen own.1.0 c among))

  kept : (f : Fact) → Keeps p steps chosen f → Follows p steps chosen f
  kept it (stands f own) = standing f own
  kept it (keeps_left h f used part others) =
      is_left h f (used_more p [] steps h used) (part_more p [] steps h f part) (λ g own other. kept (opposite g) (others g (part_back p [] steps h g used own) other))

  kept_conflict : KeepsConflict p steps chosen → IsInConflict p steps chosen
  kept_conflict (inl both) = inl (both.0, kept (taken both.0) both.1, kept (refused both.0) both.2)
  kept_conflict (inr (h, used, empty)) = inr (h, used_more p [] steps h used, λ f part. empty f (part_back p [] steps h f used part))

module _ (p : Problem) (steps : List (List Choice)) (chosen : List Choice) (are : AreSpent steps chosen) (calm : KeepsConflict p steps chosen → ⊥) where
  -- where the kept facts are in no conflict, a step gives none
  gives : (f : Fact) (h : Hint) → IsUsed p steps h → IsPart p steps h f → ((g : Fact) → IsPart p steps h g → g ≢ f → Keeps p steps chosen (opposite g)) → Keeps p steps chosen f
  gives f (hint.AtLeast c) used part known = keeps_left (hint.AtLeast c) f used part known
  gives f (hint.Clash c d t) used part known = keeps_left (hint.Clash c d t) f used part known
  gives f (hint.Step n) used part known = from (same_choice f.choice s.c)
    where
      own : (step : List Choice) × (slice_get steps n ≡ Some step)
      own = get_in steps n used.0

      s : IsSpent steps chosen own.0
      s = are n own.0 own.1

      false_there : Keeps p steps chosen (refused s.c)
      false_there = stands (refused s.c) (inr (refl, (s.i, s.low, s.back)))

      from : (f.choice ≡ s.c) ⊎ (f.choice ≢ s.c) → Keeps p steps chosen f
      from (inl same) = subst (λ (x : Fact). Keeps p steps chosen x) (sym (fact_from f (refused s.c) same part.0)) false_there
      from (inr other) =
          let among : Contains own.0 s.c = subst (λ (xs : List Choice). Contains xs s.c) (sym s.is) (contains_middle (take s.i chosen) s.c s.rest) in
          absurd (calm (inl (s.c, known (refused s.c) (refl, (own.0, own.1, among)) (λ e. other (sym (ap (λ (x : Fact). x.choice) e))), false_there)))

  found : (f : Fact) → Follows p steps chosen f → Keeps p steps chosen f
  found it (is_chosen c among) = stands (taken c) (inl (refl, among))
  found it (is_left h f used part others) = gives f h used part (λ g own other. found (opposite g) (others g own other))

  some_part : (h : Hint) → IsUsed p steps h → ((f : Fact) → IsPart p steps h f → ⊥) → ⊥
  some_part (hint.AtLeast c) used empty = calm (inr (hint.AtLeast c, used, empty))
  some_part (hint.Clash c d t) used empty = calm (inr (hint.Clash c d t, used, empty))
  some_part (hint.Step n) used empty =
      let own = get_in steps n used.0 in
      let s = are n own.0 own.1 in
      empty (refused s.c) (refl, (own.0, own.1, subst (λ (xs : List Choice). Contains xs s.c) (sym s.is) (contains_middle (take s.i chosen) s.c s.rest)))

  still : IsInConflict p steps chosen → ⊥
  still (inl both) = calm (inl (both.0, found (taken both.0) both.1, found (refused both.0) both.2))
  still (inr (h, used, empty)) = some_part h used empty

pub tells : StepsTellOneFact
tells p steps chosen watched = record {
  conflict = kept_conflict p steps chosen;
  calm = still p steps chosen (spent p steps chosen watched);
  kept = kept p steps chosen;
  found = found p steps chosen (spent p steps chosen watched);
}

-- no front of the choices is a step
pub no_front : (p : Problem) (steps : List (List Choice)) (chosen : List Choice) → IsWatched p steps chosen → (i : ℕ) → i < length chosen → Contains steps (take (suc i) chosen) → ⊥
no_front p steps chosen is_new i low among = absurd (omega arith)
no_front p steps it (is_assumed {chosen = chosen} c before calm allowed none) i low among = from (λ less own. no_front p steps chosen before i less own) (cases_lt i (length chosen))
  where
    last : length chosen ≤ i → ⊥
    last high = none (false, step_fact p steps chosen chosen c (subst (λ (xs : List Choice). Contains steps xs) (take_whole (chosen ++ c ∷ []) (suc i) (omega (arith, length-append chosen (c ∷ [])))) among) (λ d own. own))

    from : (i < length chosen → Contains steps (take (suc i) chosen) → ⊥) → (i < length chosen) ⊎ (length chosen ≤ i) → ⊥
    from old (inl less) = old less (subst (λ (xs : List Choice). Contains steps xs) (front_of chosen c (suc i) less) among)
    from old (inr high) = last high
no_front p it chosen (is_learned {steps = steps} c before conflict) i low among =
    from (λ own. no_front p steps (chosen ++ c ∷ []) before i (omega (arith, length-append chosen (c ∷ []))) own) (contains_back steps (chosen ++ c ∷ []) (take (suc i) chosen) among)
  where
    from : (Contains steps (take (suc i) (chosen ++ c ∷ [])) → ⊥) → Contains steps (take (suc i) chosen) ⊎ (take (suc i) chosen ≡ chosen ++ c ∷ []) → ⊥
    from old (inl own) = old (subst (λ (xs : List Choice). Contains steps xs) (sym (front_of chosen c (suc i) low)) own)
    from old (inr same) =
        let l = ap (λ (xs : List Choice). length xs) same in
        omega (arith, l, length-append chosen (c ∷ []), length_at_most chosen (suc i))

-- no step goes on after a choice about which there is no fact
no_deeper : (p : Problem) (steps : List (List Choice)) (chosen : List Choice) (c d : Choice) → IsWatched p steps chosen → (HasFactAbout p steps chosen c → ⊥) → Contains steps ((chosen ++ c ∷ []) ++ d ∷ []) → ⊥
no_deeper p steps chosen c d watched none among = from (cases_lt s.i (length chosen))
  where
    at : (n : ℕ) × (slice_get steps n ≡ Some ((chosen ++ c ∷ []) ++ d ∷ []))
    at = place_of steps ((chosen ++ c ∷ []) ++ d ∷ []) among

    s : IsSpent steps chosen ((chosen ++ c ∷ []) ++ d ∷ [])
    s = spent p steps chosen watched at.0 ((chosen ++ c ∷ []) ++ d ∷ []) at.1

    own : slice_get ((chosen ++ c ∷ []) ++ d ∷ []) s.i ≡ Some s.c
    own =
        ap (λ (xs : List Choice). slice_get xs s.i) s.is
        ∙ subst (λ (k : ℕ). slice_get (take s.i chosen ++ s.c ∷ s.rest) k ≡ Some s.c) (length_taken chosen s.i s.low) (middle_at (take s.i chosen) s.c s.rest)

    inside : s.i < length chosen → ⊥
    inside less =
        let a = get_in chosen s.i less in
        let same = some_is a.0 s.c (sym (get_front (chosen ++ c ∷ []) (d ∷ []) s.i a.0 (get_front chosen (c ∷ []) s.i a.0 a.1)) ∙ own) in
        no_front p steps chosen watched s.i less (subst (λ (xs : List Choice). Contains steps xs) (ap (λ (x : Choice). take s.i chosen ++ x ∷ []) (sym same) ∙ sym (take_next chosen s.i a.0 a.1)) s.back)

    outside : length chosen ≤ s.i → ⊥
    outside high =
        let e : s.i ≡ length chosen = (let low = s.low in omega arith) in
        let same = some_is c s.c (sym (get_front (chosen ++ c ∷ []) (d ∷ []) s.i c (get_last chosen c s.i e)) ∙ own) in
        let whole = take_whole chosen s.i high in
        none (false, step_fact p steps chosen chosen c (subst (λ (xs : List Choice). Contains steps xs) (ap (λ (x : Choice). take s.i chosen ++ x ∷ []) (sym same) ∙ ap (λ (xs : List Choice). xs ++ c ∷ []) whole) s.back) (λ x h. h))

    from : (s.i < length chosen) ⊎ (length chosen ≤ s.i) → ⊥
    from (inl less) = inside less
    from (inr high) = outside high

pub assuming : AssumingAddsOne
assuming p steps chosen c watched none f = (on, back)
  where
    new : Contains chosen f.choice ⊎ (f.choice ≡ c) → f.truth ≡ true → Stands steps chosen f ⊎ (f ≡ taken c)
    new (inl among) is = inl (inl (is, among))
    new (inr same) is = inr (fact_from f (taken c) same is)

    front : (i : ℕ) → f.truth ≡ false → Contains steps (take i (chosen ++ c ∷ []) ++ f.choice ∷ []) → (i < suc (length chosen)) ⊎ (suc (length chosen) ≤ i) → Stands steps chosen f
    front i is among (inl low) = inr (is, (i, omega arith, subst (λ (xs : List Choice). Contains steps (xs ++ f.choice ∷ [])) (front_of chosen c i (omega arith)) among))
    front i is among (inr high) =
        absurd (no_deeper p steps chosen c f.choice watched none (subst (λ (xs : List Choice). Contains steps (xs ++ f.choice ∷ [])) (take_whole (chosen ++ c ∷ []) i (omega (arith, length-append chosen (c ∷ [])))) among))

    on : Stands steps (chosen ++ c ∷ []) f → Stands steps chosen f ⊎ (f ≡ taken c)
    on (inl own) = new (contains_back chosen c f.choice own.1) own.0
    on (inr own) = inl (front own.1.0 own.0 own.1.2 (cases_lt own.1.0 (suc (length chosen))))

    old : Stands steps chosen f → Stands steps (chosen ++ c ∷ []) f
    old (inl own) = inl (own.0, contains_front chosen (c ∷ []) f.choice own.1)
    old (inr own) =
        let low = own.1.1 in
        inr (own.0, (own.1.0, omega (arith, length-append chosen (c ∷ [])), subst (λ (xs : List Choice). Contains steps (xs ++ f.choice ∷ [])) (sym (front_of chosen c own.1.0 low)) own.1.2))

    back : Stands steps chosen f ⊎ (f ≡ taken c) → Stands steps (chosen ++ c ∷ []) f
    back (inl own) = old own
    back (inr same) = subst (λ (x : Fact). Stands steps (chosen ++ c ∷ []) x) (sym same) (inl (refl, contains_middle chosen c []))

pub learning : LearningAddsOne
learning steps chosen c f = ((on, back), λ i low. (lower i low, higher i))
  where
    step : List Choice
    step = chosen ++ c ∷ []

    new : (i : ℕ) → i ≤ length chosen → f.truth ≡ false → Contains steps (take i chosen ++ f.choice ∷ []) ⊎ (take i chosen ++ f.choice ∷ [] ≡ step) → Stands steps chosen f ⊎ (f ≡ refused c)
    new i low is (inl among) = inl (inr (is, (i, low, among)))
    new i low is (inr same) = inr (fact_from f (refused c) (same_from_push (take i chosen) chosen f.choice c same).1 is)

    on : Stands (steps ++ step ∷ []) chosen f → Stands steps chosen f ⊎ (f ≡ refused c)
    on (inl own) = inl (inl own)
    on (inr own) = new own.1.0 own.1.1 own.0 (contains_back steps step (take own.1.0 chosen ++ f.choice ∷ []) own.1.2)

    old : (xs : List Choice) → Stands steps xs f → Stands (steps ++ step ∷ []) xs f
    old xs (inl own) = inl own
    old xs (inr own) = inr (own.0, (own.1.0, own.1.1, contains_front steps (step ∷ []) (take own.1.0 xs ++ f.choice ∷ []) own.1.2))

    back : Stands steps chosen f ⊎ (f ≡ refused c) → Stands (steps ++ step ∷ []) chosen f
    back (inl own) = old chosen own
    back (inr same) =
        subst (λ (x : Fact). Stands (steps ++ step ∷ []) chosen x) (sym same)
        (inr (refl, (length chosen, omega arith, subst (λ (xs : List Choice). Contains (steps ++ step ∷ []) (xs ++ c ∷ [])) (sym (take_whole chosen (length chosen) (omega arith))) (contains_middle steps step []))))

    -- at an earlier place the new step is too long
    short : (i j : ℕ) → i < length chosen → f.truth ≡ false → j ≤ length (take i chosen) → Contains steps (take j (take i chosen) ++ f.choice ∷ []) ⊎ (take j (take i chosen) ++ f.choice ∷ [] ≡ step) → Stands steps (take i chosen) f
    short i j low is within (inl among) = inr (is, (j, within, among))
    short i j low is within (inr same) =
        let l = ap (λ (xs : List Choice). length xs) (same_from_push (take j (take i chosen)) chosen f.choice c same).0 in
        absurd (omega (arith, l, length_at_most (take i chosen) j, length_taken chosen i))

    lower : (i : ℕ) → i < length chosen → Stands (steps ++ step ∷ []) (take i chosen) f → Stands steps (take i chosen) f
    lower i low (inl own) = inl own
    lower i low (inr own) = short i own.1.0 low own.0 own.1.1 (contains_back steps step (take own.1.0 (take i chosen) ++ f.choice ∷ []) own.1.2)

    higher : (i : ℕ) → Stands steps (take i chosen) f → Stands (steps ++ step ∷ []) (take i chosen) f
    higher i h = old (take i chosen) h
