-- The fact about a choice among entries.
use Rattle.std.proofs.Common.{ℕ, zero, suc, ◌≡◌, ◌≢◌, ◌⊎◌, ◌&&◌, nat_eq, Bool, true, false, not, Contains, Option, Some, None, List, [], ◌∷◌, ◌++◌, slice_get, refl, sym, ap, subst, ◌∙◌, inl, inr, arith}
use Rattle.std.proofs.lemmas.Bool.Decides.{nat_tests}
use Rattle.std.proofs.lemmas.Option.{none-some}
use Rattle.act1_base.proofs.ListGets.{some_is, get_map, get_mapped, contains_at, place_of}
use Rattle.act1_channel.proofs.Facts.{choice_from, same_choice, fact_from, not_itself, contains_first, contains_later}
use Rattle.act1_channel.specs.declared.problem.Choice.{Choice}
use Rattle.act1_channel.specs.Clauses.{Fact, IsUndecided}
use Rattle.act1_channel.specs.declared.trail.Entry.{Entry}
use Rattle.act1_channel.specs.Found.{fact_of, facts_of, truth_in, Tell}
use Rattle.act1_channel.specs.TrailSteps.{AreDistinct}

abbrev alike : Choice → Choice → Bool
alike a b = nat_eq a.connection b.connection && nat_eq a.track b.track

alike_same : (a b : Choice) → a ≡ b → alike a b ≡ true
alike_same a b e =
    let c = ap (λ (x : Choice). x.connection) e in
    let t = ap (λ (x : Choice). x.track) e in
    let one : nat_eq a.connection b.connection ≡ true = grind (arith, nat_tests) in
    let two : nat_eq a.track b.track ≡ true = grind (arith, nat_tests) in
    rw (one, two) refl

alike_other : (a b : Choice) → a ≢ b → alike a b ≡ false
alike_other a b other = from (nat_eq a.connection b.connection) (nat_eq a.track b.track) refl refl
  where
    equal : (x y : ℕ) → nat_eq x y ≡ true → x ≡ y
    equal x y h = grind (arith, nat_tests)

    from : (x y : Bool) → nat_eq a.connection b.connection ≡ x → nat_eq a.track b.track ≡ y → alike a b ≡ false
    from false y h k = rw h refl
    from true false h k = rw (h, k) refl
    from true true h k = absurd (other (choice_from a b (equal a.connection b.connection h) (equal a.track b.track k)))

pub truth_first : (e : Entry) (xs : List Entry) (c : Choice) → e.choice ≡ c → truth_in (e ∷ xs) c ≡ Some e.truth
unfolding truth_in
truth_first e xs c same = rw (alike_same e.choice c same) refl

pub truth_later : (e : Entry) (xs : List Entry) (c : Choice) → e.choice ≢ c → truth_in (e ∷ xs) c ≡ truth_in xs c
unfolding truth_in
truth_later e xs c other = rw (alike_other e.choice c other) refl

pub truth_nothing : (c : Choice) → truth_in [] c ≡ None
unfolding truth_in
truth_nothing c = refl

-- one entry before two lists that say the same of a choice
truth_over : (x : Entry) (xs ys : List Entry) (c : Choice) → truth_in xs c ≡ truth_in ys c → truth_in (x ∷ xs) c ≡ truth_in (x ∷ ys) c
truth_over x xs ys c rest = from (same_choice x.choice c)
  where
    from : (x.choice ≡ c) ⊎ (x.choice ≢ c) → truth_in (x ∷ xs) c ≡ truth_in (x ∷ ys) c
    from (inl same) = truth_first x xs c same ∙ sym (truth_first x ys c same)
    from (inr apart) = truth_later x xs c apart ∙ rest ∙ sym (truth_later x ys c apart)

-- an entry more doesn't speak of another choice
pub truth_other : (xs : List Entry) (e : Entry) (c : Choice) → e.choice ≢ c → truth_in (xs ++ e ∷ []) c ≡ truth_in xs c
truth_other [] e c other = truth_later e [] c other
truth_other (x ∷ xs) e c other = truth_over x (xs ++ e ∷ []) xs c (truth_other xs e c other)

-- .. and of its own where there was none
pub truth_own : (xs : List Entry) (e : Entry) (c : Choice) → e.choice ≡ c → truth_in xs c ≡ None → truth_in (xs ++ e ∷ []) c ≡ Some e.truth
truth_own [] e c same none = truth_first e [] c same
truth_own (x ∷ xs) e c same none = from (λ h. truth_own xs e c same h) (same_choice x.choice c)
  where
    from : (truth_in xs c ≡ None → truth_in (xs ++ e ∷ []) c ≡ Some e.truth) → (x.choice ≡ c) ⊎ (x.choice ≢ c) → truth_in (x ∷ (xs ++ e ∷ [])) c ≡ Some e.truth
    from rest (inl first) = absurd (none-some x.truth (sym none ∙ truth_first x xs c first))
    from rest (inr apart) = truth_later x (xs ++ e ∷ []) c apart ∙ rest (sym (truth_later x xs c apart) ∙ none)

-- where there is no fact about a choice, no entry speaks of it
pub truth_none : (xs : List Entry) (c : Choice) (n : ℕ) (e : Entry) → truth_in xs c ≡ None → slice_get xs n ≡ Some e → e.choice ≡ c → ⊥
truth_none [] c n e none at same = cc
truth_none (x ∷ xs) c zero e none at same = none-some e.truth (sym none ∙ truth_first x xs c (ap (λ (y : Entry). y.choice) (some_is x e at) ∙ same) ∙ ap (λ (y : Entry). let r : Option Bool = Some y.truth in r) (some_is x e at))
truth_none (x ∷ xs) c (suc n) e none at same = from (λ h. truth_none xs c n e h at same) (same_choice x.choice c)
  where
    from : (truth_in xs c ≡ None → ⊥) → (x.choice ≡ c) ⊎ (x.choice ≢ c) → ⊥
    from rest (inl first) = none-some x.truth (sym none ∙ truth_first x xs c first)
    from rest (inr apart) = rest (sym (truth_later x xs c apart) ∙ none)

-- and the other way round
pub none_true : (xs : List Entry) (c : Choice) → ((n : ℕ) (e : Entry) → slice_get xs n ≡ Some e → e.choice ≢ c) → truth_in xs c ≡ None
none_true [] c all = truth_nothing c
none_true (x ∷ xs) c all = truth_later x xs c (all 0 x refl) ∙ none_true xs c (λ n e at. all (suc n) e at)

-- a fact about a choice is there
pub truth_found : (xs : List Entry) (c : Choice) (b : Bool) → truth_in xs c ≡ Some b → Contains (facts_of xs) (record { choice = c; truth = b })
truth_found [] c b h = absurd (none-some b (sym (truth_nothing c) ∙ h))
truth_found (x ∷ xs) c b h = from (λ k. truth_found xs c b k) (same_choice x.choice c)
  where
    from : (truth_in xs c ≡ Some b → Contains (facts_of xs) (record { choice = c; truth = b })) → (x.choice ≡ c) ⊎ (x.choice ≢ c) → Contains (facts_of (x ∷ xs)) (record { choice = c; truth = b })
    from rest (inl same) =
        let is = fact_from (fact_of x) (record { choice = c; truth = b }) same (some_is x.truth b (sym (truth_first x xs c same) ∙ h)) in
        subst (λ (f : Fact). Contains (facts_of (x ∷ xs)) f) is (contains_first (fact_of x) (facts_of xs))
    from rest (inr apart) = contains_later (fact_of x) (facts_of xs) (record { choice = c; truth = b }) (rest (sym (truth_later x xs c apart) ∙ h))

-- among distinct choices the fact found is the one
pub found_truth : (xs : List Entry) → AreDistinct xs → (n : ℕ) (e : Entry) → slice_get xs n ≡ Some e → truth_in xs e.choice ≡ Some e.truth
found_truth [] distinct n e at = cc
found_truth (x ∷ xs) distinct zero e at = let same = some_is x e at in truth_first x xs e.choice (ap (λ (y : Entry). y.choice) same) ∙ ap (λ (y : Entry). let r : Option Bool = Some y.truth in r) same
found_truth (x ∷ xs) distinct (suc n) e at =
    truth_later x xs e.choice (distinct 0 (suc n) x e (omega arith) refl at) ∙ found_truth xs (λ k l d f low a b. distinct (suc k) (suc l) d f (omega arith) a b) n e at

-- a fact is that of an entry
entry_of : (xs : List Entry) (f : Fact) → Contains (facts_of xs) f → (n : ℕ) × (e : Entry) × (slice_get xs n ≡ Some e) × (fact_of e ≡ f)
entry_of xs f among =
    let at = place_of (facts_of xs) f among in
    let own = get_mapped fact_of xs at.0 f at.1 in
    (at.0, own.0, own.1, own.2)

contained_truth : (xs : List Entry) → AreDistinct xs → (f : Fact) → Contains (facts_of xs) f → truth_in xs f.choice ≡ Some f.truth
contained_truth xs distinct f among =
    let own = entry_of xs f among in
    subst (λ (g : Fact). truth_in xs g.choice ≡ Some g.truth) own.3 (found_truth xs distinct own.0 own.1 own.2)

-- where the choices are different, what is found is what the facts tell
pub told : (xs : List Entry) (c : Choice) → AreDistinct xs → Tell (facts_of xs) c (truth_in xs c)
told xs c distinct = from (truth_in xs c) refl
  where
    from : (o : Option Bool) → truth_in xs c ≡ o → Tell (facts_of xs) c o
    from None is = λ f among same. let own = entry_of xs f among in truth_none xs c own.0 own.1 is own.2 (ap (λ (g : Fact). g.choice) own.3 ∙ same)
    from (Some b) is = (truth_found xs c b is, λ other. not_itself b (some_is (not b) b (sym (contained_truth xs distinct (record { choice = c; truth = not b }) other) ∙ is)))

-- nothing is found of a choice that is undecided
pub undecided_none : (xs : List Entry) (c : Choice) → IsUndecided (facts_of xs) c → truth_in xs c ≡ None
undecided_none xs c free = none_true xs c (λ n e at same. free (fact_of e) (contains_at (facts_of xs) n (fact_of e) (get_map fact_of xs n e at)) same)
