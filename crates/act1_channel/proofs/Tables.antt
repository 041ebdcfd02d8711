-- The table after an entry was put or taken back.
use Rattle.std.proofs.Common.{ℕ, zero, suc, ◌≡◌, ◌≢◌, ◌+◌, ◌-◌, ◌*◌, ◌<◌, ◌≤◌, ◌⊎◌, cond, Bool, Option, Some, None, List, [], ◌∷◌, ◌++◌, length, take, slice_get, slice_set, slice_index_or, replicate, count_by, refl, sym, ap, subst, ◌∙◌, inl, inr, arith, mul-le-mul_right, suc-mul}
use Rattle.std.proofs.lemmas.Bool.{cases_lt}
use Rattle.std.proofs.lemmas.List.{length-set, length-take, get_or-set_same, get_or-set_other, take_more_set, length-replicate}
use Rattle.std.proofs.lemmas.List.Sums.{sum_by-cons}
use Rattle.act1_base.proofs.ListGets.{get_cases, get_last, get_within}
use Rattle.act1_channel.proofs.Facts.{same_choice, choice_from}
use Rattle.act1_channel.proofs.Takes.{length_taken, get_back, get_front, take_next}
use Rattle.act1_channel.specs.declared.problem.Choice.{Choice}
use Rattle.act1_channel.specs.declared.trail.Entry.{Entry}
use Rattle.act1_channel.specs.declared.problem.Problem.{Problem}
use Rattle.act1_channel.specs.Acceptance.{IsInRange}
use Rattle.act1_channel.specs.Found.{place, truth_in, Found, HasPlace, IsFor}
use Rattle.act1_channel.specs.TrailSteps.{is_empty_place, AreDistinct, IsTable}
use Rattle.act1_channel.proofs.Truths.{truth_own, truth_other, truth_none, none_true, truth_nothing}

-- a place has one choice
one_place : (tracks : ℕ) (c d : Choice) → c.track < tracks → d.track < tracks → place tracks c ≡ place tracks d → c ≡ d
one_place tracks c d one two same = from (cases_lt c.connection d.connection) (cases_lt d.connection c.connection)
  where
    apart : (a b x y : ℕ) → a < b → x < tracks → a * tracks + x ≡ b * tracks + y → ⊥
    apart a b x y low fits e = let h = mul-le-mul_right tracks low in let k = suc-mul a tracks in omega arith

    level : c.connection ≡ d.connection → c ≡ d
    level e = let h = ap (λ (k : ℕ). k * tracks) e in choice_from c d e (omega arith)

    from : (c.connection < d.connection) ⊎ (d.connection ≤ c.connection) → (d.connection < c.connection) ⊎ (c.connection ≤ d.connection) → c ≡ d
    from (inl low) x = absurd (apart c.connection d.connection c.track d.track low one same)
    from (inr x) (inl low) = absurd (apart d.connection c.connection d.track c.track low two (sym same))
    from (inr x) (inr y) = level (omega arith)

-- a write changes a count by what it writes and what it overwrites
count_set : {X : Type 0} (p : X → Bool) (xs : List X) (i : ℕ) (y d : X) → i < length xs → count_by p (slice_set xs i y) + cond (p (slice_index_or xs i d)) 1 0 ≡ count_by p xs + cond (p y) 1 0
count_set p [] i y d low = absurd (omega arith)
count_set {X} p (x ∷ xs) zero y d low =
    let one = sum_by-cons (λ (z : X). cond (p z) 1 0) y xs in
    let two = sum_by-cons (λ (z : X). cond (p z) 1 0) x xs in
    omega arith
count_set {X} p (x ∷ xs) (suc i) y d low =
    let r = count_set p xs i y d (omega arith) in
    let one = sum_by-cons (λ (z : X). cond (p z) 1 0) x (slice_set xs i y) in
    let two = sum_by-cons (λ (z : X). cond (p z) 1 0) x xs in
    omega arith

abbrev empties : Option Bool → ℕ
empties o = cond (is_empty_place o) 1 0

pub distinct_more : (xs : List Entry) (e : Entry) → AreDistinct xs → truth_in xs e.choice ≡ None → AreDistinct (xs ++ e ∷ [])
distinct_more xs e distinct none m n d f low x y = from (get_cases xs e f n y)
  where
    from : (slice_get xs n ≡ Some f) ⊎ ((n ≡ length xs) × (e ≡ f)) → d.choice ≡ f.choice → ⊥
    from (inl old) same = let inside = get_within xs n f old in distinct m n d f low (get_back xs (e ∷ []) m d (omega arith) x) old same
    from (inr new) same = truth_none xs e.choice m d none (get_back xs (e ∷ []) m d (let h = new.0 in omega arith) x) (same ∙ sym (ap (λ (z : Entry). z.choice) new.1))

pub put_table : (entries : List Entry) (used : ℕ) (table : List (Option Bool)) (tracks : ℕ) (e : Entry) (at : ℕ) → IsTable entries used table tracks → at ≡ place tracks e.choice
    → e.choice.track < tracks → place tracks e.choice < length table → truth_in (take used entries) e.choice ≡ None → IsTable (slice_set entries used e) (used + 1) (slice_set table at (Some e.truth)) tracks
put_table entries used table tracks e at t is fits there none = record {
  few = t.few;
  room = length-set entries used e ∙ t.room ∙ sym (length-set table at (Some e.truth));
  count = count;
  within = λ n d own. within n d (get_cases (take used entries) e d n (subst (λ (xs : List Entry). slice_get xs n ≡ Some d) front own));
  distinct = subst (λ (xs : List Entry). AreDistinct xs) (sym front) (distinct_more (take used entries) e t.distinct none);
  agrees = λ c low. agrees c low (same_choice e.choice c);
}
  where
    inside : at < length table
    inside = omega (arith, is)

    free : slice_index_or table at None ≡ None
    free = ap (λ (k : ℕ). slice_index_or table k None) is ∙ t.agrees e.choice fits ∙ none

    counts : count_by is_empty_place (slice_set table at (Some e.truth)) + 1 ≡ count_by is_empty_place table
    counts =
        let r = count_set is_empty_place table at (Some e.truth) None inside in
        let h : empties (slice_index_or table at None) ≡ 1 = ap empties free in
        omega arith

    count : used + 1 + count_by is_empty_place (slice_set table at (Some e.truth)) ≡ length (slice_set table at (Some e.truth))
    count = let l = length-set table at (Some e.truth) in omega (arith, t.count, counts, l)

    room : used < length entries
    room = omega (arith, t.count, counts, t.room)

    front : take (used + 1) (slice_set entries used e) ≡ take used entries ++ e ∷ []
    front = take_more_set entries used e room

    within : (n : ℕ) (d : Entry) → (slice_get (take used entries) n ≡ Some d) ⊎ ((n ≡ length (take used entries)) × (e ≡ d)) → (d.choice.track < tracks) × (place tracks d.choice < length (slice_set table at (Some e.truth)))
    within n d (inl old) = let h = t.within n d old in let one = h.0 in (one, omega (arith, h.1, length-set table at (Some e.truth)))
    within n d (inr new) = subst (λ (x : Entry). (x.choice.track < tracks) × (place tracks x.choice < length (slice_set table at (Some e.truth)))) new.1 (fits, omega (arith, length-set table at (Some e.truth)))

    agrees : (c : Choice) → c.track < tracks → (e.choice ≡ c) ⊎ (e.choice ≢ c) → slice_index_or (slice_set table at (Some e.truth)) (place tracks c) None ≡ truth_in (take (used + 1) (slice_set entries used e)) c
    agrees c low (inl same) =
        ap (λ (k : ℕ). slice_index_or (slice_set table at (Some e.truth)) k None) (sym (is ∙ ap (λ (x : Choice). place tracks x) same))
        ∙ get_or-set_same table at (Some e.truth) None inside
        ∙ sym (ap (λ (xs : List Entry). truth_in xs c) front ∙ truth_own (take used entries) e c same (subst (λ (x : Choice). truth_in (take used entries) x ≡ None) same none))
    agrees c low (inr other) =
        get_or-set_other table at (place tracks c) (Some e.truth) None (λ h. other (sym (one_place tracks c e.choice low fits (h ∙ is))))
        ∙ t.agrees c low
        ∙ sym (ap (λ (xs : List Entry). truth_in xs c) front ∙ truth_other (take used entries) e c other)

pub back_table : (entries : List Entry) (used : ℕ) (table : List (Option Bool)) (tracks : ℕ) (e : Entry) (at : ℕ) → IsTable entries used table tracks → 0 < used → slice_get entries (used - 1) ≡ Some e → at ≡ place tracks e.choice
    → IsTable entries (used - 1) (slice_set table at None) tracks
back_table entries used table tracks e at t some own is = record {
  few = t.few;
  room = t.room ∙ sym (length-set table at None);
  count = count;
  within = λ n d h. within n d h;
  distinct = λ m n d f low x y. t.distinct m n d f low (old m d x) (old n f y);
  agrees = λ c low. agrees c low (same_choice e.choice c);
}
  where
    xs : List Entry
    xs = take (used - 1) entries

    whole : take used entries ≡ xs ++ e ∷ []
    whole =
        let s : used ≡ suc (used - 1) = omega arith in
        ap (λ (k : ℕ). take k entries) s ∙ take_next entries (used - 1) e own

    old : (n : ℕ) (d : Entry) → slice_get xs n ≡ Some d → slice_get (take used entries) n ≡ Some d
    old n d h = subst (λ (ys : List Entry). slice_get ys n ≡ Some d) (sym whole) (get_front xs (e ∷ []) n d h)

    long : length xs ≡ used - 1
    long = length_taken entries (used - 1) (let h = get_within entries (used - 1) e own in omega arith)

    last : slice_get (take used entries) (used - 1) ≡ Some e
    last = subst (λ (ys : List Entry). slice_get ys (used - 1) ≡ Some e) (sym whole) (get_last xs e (used - 1) (sym long))

    mine : (e.choice.track < tracks) × (place tracks e.choice < length table)
    mine = t.within (used - 1) e last

    gone : truth_in xs e.choice ≡ None
    gone = none_true xs e.choice (λ n d h. let low = get_within xs n d h in t.distinct n (used - 1) d e (omega (arith, long)) (old n d h) last)

    filled : slice_index_or table at None ≡ Some e.truth
    filled =
        ap (λ (k : ℕ). slice_index_or table k None) is ∙ t.agrees e.choice mine.0
        ∙ ap (λ (ys : List Entry). truth_in ys e.choice) whole ∙ truth_own xs e e.choice refl gone

    count : used - 1 + count_by is_empty_place (slice_set table at None) ≡ length (slice_set table at None)
    count =
        let r = count_set is_empty_place table at None None (omega (arith, is, mine.1)) in
        let h : empties (slice_index_or table at None) ≡ 0 = ap empties filled in
        let l = length-set table at None in
        omega (arith, t.count)

    within : (n : ℕ) (d : Entry) → slice_get xs n ≡ Some d → (d.choice.track < tracks) × (place tracks d.choice < length (slice_set table at None))
    within n d h = let own = t.within n d (old n d h) in let one = own.0 in (one, omega (arith, own.1, length-set table at None))

    agrees : (c : Choice) → c.track < tracks → (e.choice ≡ c) ⊎ (e.choice ≢ c) → slice_index_or (slice_set table at None) (place tracks c) None ≡ truth_in xs c
    agrees c low (inl same) =
        ap (λ (k : ℕ). slice_index_or (slice_set table at None) k None) (sym (is ∙ ap (λ (x : Choice). place tracks x) same))
        ∙ get_or-set_same table at None None (omega (arith, is, mine.1))
        ∙ sym (subst (λ (x : Choice). truth_in xs x ≡ None) same gone)
    agrees c low (inr other) =
        get_or-set_other table at (place tracks c) None None (λ h. other (sym (one_place tracks c e.choice low mine.0 (h ∙ is))))
        ∙ t.agrees c low
        ∙ ap (λ (ys : List Entry). truth_in ys c) whole ∙ truth_other xs e c other

all_empty : (table : List (Option Bool)) → ((at : ℕ) → slice_index_or table at None ≡ None) → count_by is_empty_place table ≡ length table
all_empty [] none = refl
all_empty (x ∷ table) none =
    let r = all_empty table (λ at. none (suc at)) in
    let one = sum_by-cons (λ (z : Option Bool). cond (is_empty_place z) 1 0) x table in
    let h : empties x ≡ 1 = ap empties (none 0) in
    omega arith

pub new_table : (n tracks : ℕ) (e : Entry) (entries : List Entry) (table : List (Option Bool)) → tracks ≤ 64 → entries ≡ replicate n e → length table ≡ n → ((at : ℕ) → slice_index_or table at None ≡ None) → IsTable entries 0 table tracks
new_table n tracks e entries table few are long none = record {
  few = few;
  room = ap (λ (xs : List Entry). length xs) are ∙ length-replicate n e ∙ sym long;
  count = let h = all_empty table none in omega arith;
  within = λ k d h. cc;
  distinct = λ k l d f low x y. cc;
  agrees = λ c low. none (place tracks c) ∙ sym (truth_nothing c);
}

-- where there are entries some are used, and the last of them is there
pub used_within : (entries : List Entry) (used : ℕ) (table : List (Option Bool)) (tracks : ℕ) → IsTable entries used table tracks → 0 < length (take used entries) → (0 < used) × (used - 1 < length entries)
used_within entries used table tracks t some =
    let l = length-take used entries in
    let c = t.count in
    let r = t.room in
    (omega arith, omega arith)

-- a choice of the channel has a place
pub has_place : (p : Problem) (found : Found) (c : Choice) → IsFor p found → IsInRange p c → HasPlace found c
has_place p found c size there =
    let h = mul-le-mul_right (length p.tracks) there.0 in
    let k = suc-mul c.connection (length p.tracks) in
    let e = ap (λ (t : ℕ). c.connection * t) size.0 in
    (omega (arith, size.0, there.1), omega (arith, size.1, there.1))
