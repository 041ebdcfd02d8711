-- What stays as a trail grows, and what a step of propagation does.
use Rattle.std.proofs.Common.{ℕ, ◌≡◌, ◌≢◌, ◌+◌, ◌*◌, ◌<◌, ◌≤◌, ◌⊎◌, Bool, true, false, not, Option, Some, None, MatchOption, nat_lt, List, [], ◌∷◌, ◌++◌, length, slice_get, refl, sym, ap, subst, ◌∙◌, inl, inr, arith, true≢false, mul-le-mul_right, suc-mul}
use Rattle.std.proofs.lemmas.Bool.{cases_lt, cases_eq}
use Rattle.std.proofs.lemmas.Bool.Decides.{nat_tests}
use Rattle.std.proofs.lemmas.Option.{none-some}
use Rattle.act1_base.proofs.ListGets.{get_in, get_within, get_cases, get_last, some_is}
use Rattle.act1_search.proofs.Fronts.{get_front}
use Rattle.act1_channel.proofs.Facts.{choice_from, fact_from}
use Rattle.act1_channel.specs.declared.problem.Problem.{Problem}
use Rattle.act1_channel.specs.declared.problem.Choice.{Choice}
use Rattle.act1_channel.specs.declared.problem.Hint.{Hint}
use Rattle.act1_channel.specs.declared.problem.Hint.TheVariants as hint
use Rattle.act1_channel.specs.Assignment.{IsAllowed, DoClash, choice_at}
use Rattle.act1_channel.specs.Clauses.{Fact, opposite, IsPart}
use Rattle.act1_channel.specs.declared.trail.Entry.{Entry}
use Rattle.act1_search.specs.declared.propagate.Left.TheVariants.{Nothing, One, Several}
use Rattle.act1_search.specs.Closure.{IsUsed}
use Rattle.act1_channel.specs.Found.{Found, truth_in, HasPlace, IsFor}
use Rattle.act1_search.specs.Trail.{HasFound}
use Rattle.act1_search.specs.Propagation.{IsForced, Grows, IsContradicted, IsKeptOff, AreKeptOff, IsServed, IsLeft, IsPending, IsSettled, AreInside, clash_name}
use Rattle.act1_search.specs.Propagation.Grows.{same, more}
use Rattle.act1_search.proofs.Truths.{truth_other, truth_own, truth_found}

pub has_place : (p : Problem) (found : Found) (c : Choice) → IsFor p found → c.connection < length p.connections → c.track < length p.tracks → HasPlace found c
has_place p found c size one two =
    let h = mul-le-mul_right (length p.tracks) one in
    let k = suc-mul c.connection (length p.tracks) in
    let e = ap (λ (t : ℕ). c.connection * t) size.0 in
    (omega (arith, size.0), omega (arith, size.1))

module _ (p : Problem) where
  pub grows_on : (xs ys zs : List Entry) → Grows p xs ys → Grows p ys zs → Grows p xs zs
  grows_on xs ys zs g same = g
  grows_on xs ys it g (more found e h forced) = more found e (grows_on xs ys found g h) forced

  pub get_grown : (xs ys : List Entry) (n : ℕ) (e : Entry) → Grows p xs ys → slice_get xs n ≡ Some e → slice_get ys n ≡ Some e
  get_grown xs ys n e same at = at
  get_grown xs it n e (more found f h forced) at = get_front found (f ∷ []) n e (get_grown xs found n e h at)

  -- a fact found is no other choice's than one that comes later
  pub later_apart : (found : List Entry) (e : Entry) (c : Choice) (b : Bool) → truth_in found e.choice ≡ None → truth_in found c ≡ Some b → e.choice ≢ c
  later_apart found e c b free is e_is = none-some b (sym free ∙ ap (λ (x : Choice). truth_in found x) e_is ∙ is)

  pub truth_grown : (xs ys : List Entry) (c : Choice) (b : Bool) → Grows p xs ys → truth_in xs c ≡ Some b → truth_in ys c ≡ Some b
  truth_grown xs ys c b same is = is
  truth_grown xs it c b (more found e h forced) is =
      let own = truth_grown xs found c b h is in
      truth_other found e c (later_apart found e c b forced.free own) ∙ own

  pub inside_grown : (xs ys : List Entry) → Grows p xs ys → AreInside p xs → AreInside p ys
  inside_grown xs ys same inside = inside
  inside_grown xs it (more found e h forced) inside = λ n d at. from n d (get_cases found e d n at) (inside_grown xs found h inside)
    where
      from : (n : ℕ) (d : Entry) → (slice_get found n ≡ Some d) ⊎ ((n ≡ length found) × (e ≡ d)) → AreInside p found → IsAllowed p d.choice
      from n d (inl old) all = all n d old
      from n d (inr new) all = subst (λ (x : Entry). IsAllowed p x.choice) new.1 forced.inside

  pub kept_off_grown : (xs ys : List Entry) (c : Choice) (d : ℕ) → Grows p xs ys → IsKeptOff p xs c d → IsKeptOff p ys c d
  kept_off_grown xs ys c d g off other allowed clash = truth_grown xs ys (choice_at d c.track) false g (off other allowed clash)

  -- an entry about a connection's track that isn't a refusal leaves it served
  pub served_more : (found : List Entry) (e : Entry) (c : ℕ) → truth_in found e.choice ≡ None → IsAllowed p e.choice → IsServed p found c → IsServed p (found ++ e ∷ []) c ⊎ ((e.truth ≡ false) × (e.choice.connection ≡ c))
  served_more found e c free fits is = from e.truth refl (cases_eq e.choice.connection c)
    where
      -- about another connection's choices nothing is said
      other : e.choice.connection ≢ c → (t : ℕ) → truth_in (found ++ e ∷ []) (choice_at c t) ≡ truth_in found (choice_at c t)
      other apart t = truth_other found e (choice_at c t) (λ s. apart (ap (λ (x : Choice). x.connection) s))

      elsewhere : e.choice.connection ≢ c → IsServed p (found ++ e ∷ []) c
      elsewhere apart = record { some = is.some; last = λ t allowed all. other apart t ∙ is.last t allowed (λ u ok away. sym (other apart u) ∙ all u ok away) }

      -- the connection takes the entry's track
      mine : e.choice.connection ≡ c → truth_in (found ++ e ∷ []) (choice_at c e.choice.track) ≡ Some e.truth
      mine same_one = truth_own found e (choice_at c e.choice.track) (choice_from e.choice (choice_at c e.choice.track) same_one refl) (subst (λ (x : Choice). truth_in found x ≡ None) (choice_from e.choice (choice_at c e.choice.track) same_one refl) free)

      at_track : e.truth ≡ true → e.choice.connection ≡ c → (t : ℕ) → ((u : ℕ) → IsAllowed p (choice_at c u) → u ≢ t → truth_in (found ++ e ∷ []) (choice_at c u) ≡ Some false) → (e.choice.track ≡ t) ⊎ (e.choice.track ≢ t) → truth_in (found ++ e ∷ []) (choice_at c t) ≡ Some true
      at_track yes_true same_one t all (inl here) = subst (λ (k : ℕ). truth_in (found ++ e ∷ []) (choice_at c k) ≡ Some true) here (mine same_one ∙ ap (λ (b : Bool). let r : Option Bool = Some b in r) yes_true)
      at_track yes_true same_one t all (inr away) =
          let allowed : IsAllowed p (choice_at c e.choice.track) = subst (λ (x : Choice). IsAllowed p x) (choice_from e.choice (choice_at c e.choice.track) same_one refl) fits in
          absurd (true≢false (sym yes_true ∙ some_is e.truth false (sym (mine same_one) ∙ all e.choice.track allowed away)))

      from : (b : Bool) → e.truth ≡ b → (e.choice.connection ≡ c) ⊎ (e.choice.connection ≢ c) → IsServed p (found ++ e ∷ []) c ⊎ ((e.truth ≡ false) × (e.choice.connection ≡ c))
      from b is_b (inr apart) = inl (elsewhere apart)
      from false is_b (inl same_one) = inr (is_b, same_one)
      from true is_b (inl same_one) = inl (record { some = is.some; last = λ t allowed all. at_track is_b same_one t all (cases_eq e.choice.track t) })

  -- served, or refused from a number on
  unfoldable pub Due : ℕ → List Entry → ℕ → Type 0
  Due done found c = IsServed p found c ⊎ ((m : ℕ) × (e : Entry) × (done ≤ m) × (slice_get found m ≡ Some e) × (e.truth ≡ false) × (e.choice.connection ≡ c))

  pub due_grown : (done : ℕ) (xs ys : List Entry) (c : ℕ) → done ≤ length xs → Grows p xs ys → Due done xs c → Due done ys c
  unfolding Due
  due_grown done xs ys c low same due = due
  due_grown done xs it c low (more found e h forced) due = from (due_grown done xs found c low h due)
    where
      long : (zs : List Entry) → Grows p xs zs → length xs ≤ length zs
      long zs g = at_end (cases_lt (length zs) (length xs))
        where
          at_end : (length zs < length xs) ⊎ (length xs ≤ length zs) → length xs ≤ length zs
          at_end (inr le) = le
          at_end (inl less) = let d = get_in xs (length zs) less in let k = get_within zs (length zs) d.0 (get_grown xs zs (length zs) d.0 g d.1) in absurd (omega arith)

      new : IsServed p (found ++ e ∷ []) c ⊎ ((e.truth ≡ false) × (e.choice.connection ≡ c)) → Due done (found ++ e ∷ []) c
      new (inl is) = inl is
      new (inr is) = let l = long found h in inr (length found, e, omega arith, get_last found e (length found) refl, is.0, is.1)

      from : Due done found c → Due done (found ++ e ∷ []) c
      from (inl is) = new (served_more found e c forced.free forced.inside is)
      from (inr old) = inr (old.0, old.1, old.2, get_front found (e ∷ []) old.0 old.1 old.3, old.4, old.5)

  pub grows_none : (xs : List Entry) → Grows p xs xs
  grows_none xs = same

  pub grows_one : (xs : List Entry) (e : Entry) → IsForced p xs e → Grows p xs (xs ++ e ∷ [])
  grows_one xs e forced = more xs e same forced

  -- the clause of a clash, either way round
  record IsClashOf (c d t : ℕ) (h : Hint) : Type 0 where
    used : IsUsed p [] h
    parts : (f : Fact) → IsPart p [] h f → (f.truth ≡ false) × ((f.choice ≡ choice_at c t) ⊎ (f.choice ≡ choice_at d t))
    part : (f : Fact) → f.truth ≡ false → (f.choice ≡ choice_at c t) ⊎ (f.choice ≡ choice_at d t) → IsPart p [] h f

  swap : {A B : Type 0} → A ⊎ B → B ⊎ A
  swap (inl a) = inr a
  swap (inr b) = inl b

  clash_clause : (c d t : ℕ) → d ≢ c → c < length p.connections → d < length p.connections → IsAllowed p (choice_at c t) → IsAllowed p (choice_at d t) → DoClash p c d t → IsClashOf c d t (clash_name c d t)
  clash_clause c d t apart one two allowed other clash = from (cases_lt c d)
    where
      up : c < d → clash_name c d t ≡ hint.Clash c d t
      up low = let h : nat_lt c d ≡ true = grind (arith, nat_tests) in rw h refl

      down : d ≤ c → clash_name c d t ≡ hint.Clash d c t
      down low = let h : nat_lt c d ≡ false = grind (arith, nat_tests) in rw h refl

      from : (c < d) ⊎ (d ≤ c) → IsClashOf c d t (clash_name c d t)
      from (inl low) = subst (λ (h : Hint). IsClashOf c d t h) (sym (up low)) (record { used = ((low, two, allowed.1, clash), (allowed, other)); parts = λ f part. part; part = λ f is_false is. (is_false, is) })
      from (inr le) =
          let low : d < c = (let e : d ≢ c = apart in omega arith) in
          subst (λ (h : Hint). IsClashOf c d t h) (sym (down le)) (record { used = ((low, one, allowed.1, (clash.0, clash.2, clash.1)), (other, allowed)); parts = λ f part. (part.0, swap part.1); part = λ f is_false is. (is_false, swap is) })

  -- a taken choice and one that clashes with it
  pub record AreApart (found : List Entry) (c : Choice) (d : ℕ) : Type 0 where
    inside : IsAllowed p c
    is_taken : truth_in found c ≡ Some true
    there : d < length p.connections
    other : d ≢ c.connection
    allowed : IsAllowed p (choice_at d c.track)
    clash : DoClash p c.connection d c.track

  pub apart_of : (found : List Entry) (c : Choice) (d : ℕ) → IsAllowed p c → truth_in found c ≡ Some true → d < length p.connections → d ≢ c.connection → IsAllowed p (choice_at d c.track) → DoClash p c.connection d c.track → AreApart found c d
  apart_of found c d inside is_taken there other allowed clash = record { inside = inside; is_taken = is_taken; there = there; other = other; allowed = allowed; clash = clash }

  name_of : (found : List Entry) (c : Choice) (d : ℕ) → AreApart found c d → IsClashOf c.connection d c.track (clash_name c.connection d c.track)
  name_of found c d a = clash_clause c.connection d c.track a.other a.inside.0 a.there a.inside a.allowed a.clash

  pub contradicted_off : (found : List Entry) (c : Choice) (d : ℕ) → AreApart found c d → truth_in found (choice_at d c.track) ≡ Some true → IsContradicted p found (clash_name c.connection d c.track)
  contradicted_off found c d a too = ((name_of found c d a).used, λ g part. from g ((name_of found c d a).parts g part))
    where
      from : (g : Fact) → (g.truth ≡ false) × ((g.choice ≡ choice_at c.connection c.track) ⊎ (g.choice ≡ choice_at d c.track)) → HasFound found (opposite g)
      from g (is_false, inl is) = let h = truth_found found c true a.is_taken in (h.0, h.1, h.2, h.3 ∙ fact_from (record { choice = c; truth = true }) (opposite g) (sym is) (sym (ap not is_false)))
      from g (is_false, inr is) = let h = truth_found found (choice_at d c.track) true too in (h.0, h.1, h.2, h.3 ∙ fact_from (record { choice = choice_at d c.track; truth = true }) (opposite g) (sym is) (sym (ap not is_false)))

  pub forced_off : (found : List Entry) (c : Choice) (d : ℕ) → AreApart found c d → truth_in found (choice_at d c.track) ≡ None → IsForced p found (record { choice = choice_at d c.track; truth = false; why = Some (clash_name c.connection d c.track) })
  forced_off found c d a free = record {
    inside = a.allowed;
    free = free;
    clause = clash_name c.connection d c.track;
    why = refl;
    used = (name_of found c d a).used;
    part = (name_of found c d a).part (record { choice = choice_at d c.track; truth = false }) refl (inr refl);
    others = λ g part other. from g other ((name_of found c d a).parts g part);
  }
    where
      from : (g : Fact) → g ≢ record { choice = choice_at d c.track; truth = false } → (g.truth ≡ false) × ((g.choice ≡ choice_at c.connection c.track) ⊎ (g.choice ≡ choice_at d c.track)) → HasFound found (opposite g)
      from g other (is_false, inl is) = let h = truth_found found c true a.is_taken in (h.0, h.1, h.2, h.3 ∙ fact_from (record { choice = c; truth = true }) (opposite g) (sym is) (sym (ap not is_false)))
      from g other (is_false, inr is) = absurd (other (fact_from g (record { choice = choice_at d c.track; truth = false }) is is_false))

  pub now_off : (found : List Entry) (d t : ℕ) (why : Option Hint) → truth_in found (choice_at d t) ≡ None → truth_in (found ++ record { choice = choice_at d t; truth = false; why = why } ∷ []) (choice_at d t) ≡ Some false
  now_off found d t why free = truth_own found (record { choice = choice_at d t; truth = false; why = why }) (choice_at d t) refl free

  -- the one track left
  pub served_true : (found : List Entry) (c t : ℕ) → IsLeft p found c (length p.tracks) (One t) → truth_in found (choice_at c t) ≡ Some true → IsServed p found c
  served_true found c t left is = record { some = (t, left.1); last = λ u allowed all. from u allowed all (cases_eq t u) }
    where
      from : (u : ℕ) → IsAllowed p (choice_at c u) → ((v : ℕ) → IsAllowed p (choice_at c v) → v ≢ u → truth_in found (choice_at c v) ≡ Some false) → (t ≡ u) ⊎ (t ≢ u) → truth_in found (choice_at c u) ≡ Some true
      from u allowed all (inl same_one) = subst (λ (k : ℕ). truth_in found (choice_at c k) ≡ Some true) same_one is
      from u allowed all (inr away) = absurd (left.2 (all t left.1 away))

  pub served_some : (found : List Entry) (c t : ℕ) (b : Bool) → IsLeft p found c (length p.tracks) (One t) → truth_in found (choice_at c t) ≡ Some b → IsServed p found c
  served_some found c t true left is = served_true found c t left is
  served_some found c t false left is = absurd (left.2 is)

  pub served_several : (found : List Entry) (c : ℕ) → IsLeft p found c (length p.tracks) Several → IsServed p found c
  served_several found c (t, u, away, one, two, free, free_too) = record { some = (t, one); last = λ v allowed all. from v all (cases_eq t v) }
    where
      from : (v : ℕ) → ((w : ℕ) → IsAllowed p (choice_at c w) → w ≢ v → truth_in found (choice_at c w) ≡ Some false) → (t ≡ v) ⊎ (t ≢ v) → truth_in found (choice_at c v) ≡ Some true
      from v all (inl same_one) = absurd (free_too (all u two (λ e. away (same_one ∙ sym e))))
      from v all (inr other) = absurd (free (all t one other))

  pub contradicted_none : (found : List Entry) (c : ℕ) → c < length p.connections → IsLeft p found c (length p.tracks) Nothing → IsContradicted p found (hint.AtLeast c)
  contradicted_none found c there left = ((there, tt), λ g part. from g part.0 part.1 part.2)
    where
      from : (g : Fact) → g.truth ≡ true → g.choice.connection ≡ c → IsAllowed p g.choice → HasFound found (opposite g)
      from g is_true here allowed =
          let e : choice_at c g.choice.track ≡ g.choice = choice_from (choice_at c g.choice.track) g.choice (sym here) refl in
          let h = truth_found found (choice_at c g.choice.track) false (left g.choice.track allowed.1 (subst (λ (x : Choice). IsAllowed p x) (sym e) allowed)) in
          (h.0, h.1, h.2, h.3 ∙ fact_from (record { choice = choice_at c g.choice.track; truth = false }) (opposite g) e (sym (ap not is_true)))

  pub forced_one : (found : List Entry) (c t : ℕ) → c < length p.connections → IsLeft p found c (length p.tracks) (One t) → truth_in found (choice_at c t) ≡ None → IsForced p found (record { choice = choice_at c t; truth = true; why = Some (hint.AtLeast c) })
  forced_one found c t there left free = record {
    inside = left.1;
    free = free;
    clause = hint.AtLeast c;
    why = refl;
    used = (there, tt);
    part = (refl, refl, left.1);
    others = λ g part other. from g part.0 part.1 part.2 other (cases_eq g.choice.track t);
  }
    where
      from : (g : Fact) → g.truth ≡ true → g.choice.connection ≡ c → IsAllowed p g.choice → g ≢ record { choice = choice_at c t; truth = true } → (g.choice.track ≡ t) ⊎ (g.choice.track ≢ t) → HasFound found (opposite g)
      from g is_true here allowed other (inl same_one) = absurd (other (fact_from g (record { choice = choice_at c t; truth = true }) (choice_from g.choice (choice_at c t) here same_one) is_true))
      from g is_true here allowed other (inr away) =
          let e : choice_at c g.choice.track ≡ g.choice = choice_from (choice_at c g.choice.track) g.choice (sym here) refl in
          let h = truth_found found (choice_at c g.choice.track) false (left.3 g.choice.track allowed.1 away (subst (λ (x : Choice). IsAllowed p x) (sym e) allowed)) in
          (h.0, h.1, h.2, h.3 ∙ fact_from (record { choice = choice_at c g.choice.track; truth = false }) (opposite g) e (sym (ap not is_true)))

  -- after the track left was given
  pub served_one : (found : List Entry) (c t : ℕ) (why : Option Hint) → IsLeft p found c (length p.tracks) (One t) → truth_in found (choice_at c t) ≡ None → IsServed p (found ++ record { choice = choice_at c t; truth = true; why = why } ∷ []) c
  served_one found c t why left free = record { some = (t, left.1); last = λ u allowed all. from u allowed all (cases_eq t u) }
    where
      e : Entry
      e = record { choice = choice_at c t; truth = true; why = why }

      own : truth_in (found ++ e ∷ []) (choice_at c t) ≡ Some true
      own = truth_own found e (choice_at c t) refl free

      from : (u : ℕ) → IsAllowed p (choice_at c u) → ((v : ℕ) → IsAllowed p (choice_at c v) → v ≢ u → truth_in (found ++ e ∷ []) (choice_at c v) ≡ Some false) → (t ≡ u) ⊎ (t ≢ u) → truth_in (found ++ e ∷ []) (choice_at c u) ≡ Some true
      from u allowed all (inl same_one) = subst (λ (k : ℕ). truth_in (found ++ e ∷ []) (choice_at c k) ≡ Some true) same_one own
      from u allowed all (inr away) = absurd (true≢false (some_is true false (sym own ∙ all t left.1 away)))

  -- what stands at a place of the grown trail stood there
  get_shrunk : (xs ys : List Entry) (m : ℕ) (f : Entry) → Grows p xs ys → m < length xs → slice_get ys m ≡ Some f → slice_get xs m ≡ Some f
  get_shrunk xs ys m f g low at =
      let own = get_in xs m low in
      own.1 ∙ sym (get_grown xs ys m own.0 g own.1) ∙ at

  old_off : (xs ys : List Entry) (at m : ℕ) (f : Entry) → Grows p xs ys → at ≤ length xs → IsPending p xs at → m < at → slice_get ys m ≡ Some f → f.truth ≡ true → AreKeptOff p ys f.choice (length p.connections)
  old_off xs ys at m f g low pending before here is = λ d there. kept_off_grown xs ys f.choice d g (pending.clashes m f before (get_shrunk xs ys m f g (omega arith) here) is d there)

  -- the effect of an entry, after which the next one is due
  pub pending_taken : (xs ys : List Entry) (at : ℕ) (e : Entry) → Grows p xs ys → slice_get xs at ≡ Some e → IsPending p xs at → AreKeptOff p ys e.choice (length p.connections) → e.truth ≡ true → IsPending p ys (at + 1)
  unfolding Due
  pending_taken xs ys at e g own pending off is_true = record { clashes = λ m f low here is. clash m f low here is (cases_lt m at); served = λ c there. serve c (due_grown at xs ys c (let h = get_within xs at e own in omega arith) g (pending.served c there)) }
    where
      mine : (m : ℕ) (f : Entry) → m ≡ at → slice_get ys m ≡ Some f → e ≡ f
      mine m f is here = some_is e f (sym (get_grown xs ys at e g own) ∙ subst (λ (k : ℕ). slice_get ys k ≡ Some f) is here)

      clash : (m : ℕ) (f : Entry) → m < at + 1 → slice_get ys m ≡ Some f → f.truth ≡ true → (m < at) ⊎ (at ≤ m) → AreKeptOff p ys f.choice (length p.connections)
      clash m f low here is (inl before) = old_off xs ys at m f g (let h = get_within xs at e own in omega arith) pending before here is
      clash m f low here is (inr last) = subst (λ (x : Entry). AreKeptOff p ys x.choice (length p.connections)) (mine m f (omega arith) here) off

      serve : (c : ℕ) → IsServed p ys c ⊎ ((m : ℕ) × (d : Entry) × (at ≤ m) × (slice_get ys m ≡ Some d) × (d.truth ≡ false) × (d.choice.connection ≡ c)) → IsServed p ys c ⊎ ((m : ℕ) × (d : Entry) × (at + 1 ≤ m) × (slice_get ys m ≡ Some d) × (d.truth ≡ false) × (d.choice.connection ≡ c))
      serve c (inl is) = inl is
      serve c (inr (m, d, low, here, is_false, conn)) = from (cases_lt at m)
        where
          from : (at < m) ⊎ (m ≤ at) → IsServed p ys c ⊎ ((m : ℕ) × (d : Entry) × (at + 1 ≤ m) × (slice_get ys m ≡ Some d) × (d.truth ≡ false) × (d.choice.connection ≡ c))
          from (inl less) = inr (m, d, omega arith, here, is_false, conn)
          from (inr le) = absurd (true≢false (sym is_true ∙ ap (λ (x : Entry). x.truth) (mine m d (omega arith) here) ∙ is_false))

  pub pending_refused : (xs ys : List Entry) (at : ℕ) (e : Entry) → Grows p xs ys → slice_get xs at ≡ Some e → IsPending p xs at → IsServed p ys e.choice.connection → e.truth ≡ false → IsPending p ys (at + 1)
  unfolding Due
  pending_refused xs ys at e g own pending served is_false = record { clashes = λ m f low here is. clash m f low here is (cases_lt m at); served = λ c there. serve c (due_grown at xs ys c (let h = get_within xs at e own in omega arith) g (pending.served c there)) }
    where
      mine : (m : ℕ) (f : Entry) → m ≡ at → slice_get ys m ≡ Some f → e ≡ f
      mine m f is here = some_is e f (sym (get_grown xs ys at e g own) ∙ subst (λ (k : ℕ). slice_get ys k ≡ Some f) is here)

      clash : (m : ℕ) (f : Entry) → m < at + 1 → slice_get ys m ≡ Some f → f.truth ≡ true → (m < at) ⊎ (at ≤ m) → AreKeptOff p ys f.choice (length p.connections)
      clash m f low here is (inl before) = old_off xs ys at m f g (let h = get_within xs at e own in omega arith) pending before here is
      clash m f low here is (inr last) = absurd (true≢false (sym is ∙ sym (ap (λ (x : Entry). x.truth) (mine m f (omega arith) here)) ∙ is_false))

      serve : (c : ℕ) → IsServed p ys c ⊎ ((m : ℕ) × (d : Entry) × (at ≤ m) × (slice_get ys m ≡ Some d) × (d.truth ≡ false) × (d.choice.connection ≡ c)) → IsServed p ys c ⊎ ((m : ℕ) × (d : Entry) × (at + 1 ≤ m) × (slice_get ys m ≡ Some d) × (d.truth ≡ false) × (d.choice.connection ≡ c))
      serve c (inl is) = inl is
      serve c (inr (m, d, low, here, no_true, conn)) = from (cases_lt at m)
        where
          from : (at < m) ⊎ (m ≤ at) → IsServed p ys c ⊎ ((m : ℕ) × (d : Entry) × (at + 1 ≤ m) × (slice_get ys m ≡ Some d) × (d.truth ≡ false) × (d.choice.connection ≡ c))
          from (inl less) = inr (m, d, omega arith, here, no_true, conn)
          from (inr le) = inl (subst (λ (k : ℕ). IsServed p ys k) (ap (λ (x : Entry). x.choice.connection) (mine m d (omega arith) here) ∙ conn) served)

  pub settled : (xs : List Entry) (at : ℕ) → length xs ≤ at → IsPending p xs at → IsSettled p xs
  settled xs at all pending = record { clashes = λ m e here is. pending.clashes m e (let h = get_within xs m e here in omega arith) here is; served = λ c there. from c (pending.served c there) }
    where
      from : (c : ℕ) → IsServed p xs c ⊎ ((m : ℕ) × (e : Entry) × (at ≤ m) × (slice_get xs m ≡ Some e) × (e.truth ≡ false) × (e.choice.connection ≡ c)) → IsServed p xs c
      from c (inl is) = is
      from c (inr (m, e, low, here, is_false, conn)) = absurd (let h = get_within xs m e here in omega arith)

  -- one connection more is kept off
  pub kept_off_more : (xs ys : List Entry) (c : Choice) (n : ℕ) → Grows p xs ys → AreKeptOff p xs c n → IsKeptOff p ys c n → AreKeptOff p ys c (n + 1)
  kept_off_more xs ys c n g off own = λ d low. from d (cases_eq d n) low
    where
      from : (d : ℕ) → (d ≡ n) ⊎ (d ≢ n) → d < n + 1 → IsKeptOff p ys c d
      from d (inl e) low = subst (λ (k : ℕ). IsKeptOff p ys c k) (sym e) own
      from d (inr other) low = kept_off_grown xs ys c d g (off d (let e : d ≢ n = other in omega arith))

pub answer_by : (p : Problem) (ys : List Entry) (r : Option Hint) (P Q : Type 0) → (P → Q) → MatchOption r P (IsContradicted p ys) → MatchOption r Q (IsContradicted p ys)
answer_by p ys None P Q f h = f h
answer_by p ys (Some x) P Q f h = h

-- the first facts of all
pub due_more : (p : Problem) (xs ys : List Entry) (n : ℕ) → Grows p xs ys → ((c : ℕ) → c < n → Due p 0 xs c) → IsServed p ys n → (c : ℕ) → c < n + 1 → Due p 0 ys c
unfolding Due
due_more p xs ys n g before own c low = from (cases_eq c n)
  where
    from : (c ≡ n) ⊎ (c ≢ n) → IsServed p ys c ⊎ ((m : ℕ) × (e : Entry) × (0 ≤ m) × (slice_get ys m ≡ Some e) × (e.truth ≡ false) × (e.choice.connection ≡ c))
    from (inl same_one) = inl (subst (λ (k : ℕ). IsServed p ys k) (sym same_one) own)
    from (inr other) = due_grown p 0 xs ys c (omega arith) g (before c (let e : c ≢ n = other in omega arith))

pub pending_first : (p : Problem) (xs : List Entry) → ((c : ℕ) → c < length p.connections → Due p 0 xs c) → IsPending p xs 0
unfolding Due
pending_first p xs due = record { clashes = λ m e low at is. absurd (omega arith); served = due }

pub inside_first : (p : Problem) (xs ys : List Entry) → xs ≡ [] → Grows p xs ys → AreInside p ys
inside_first p xs ys none g = inside_grown p xs ys g (λ n e at. absurd (none-some e (ap (λ (zs : List Entry). slice_get zs n) (sym none) ∙ at)))
