-- Choices that don't clash extend to an assignment where there is an unbroken track for each connection; so what follows from them never conflicts.
use Rattle.std.proofs.Common.{ℕ, zero, suc, ◌≡◌, ◌≢◌, ◌⊎◌, ◌+◌, ◌-◌, ◌<◌, ◌≤◌, ◌==◌, ◌&&◌, not, nat_le, Bool, true, false, cond, List, [], ◌∷◌, ◌++◌, length, take, Option, Some, None, refl, sym, ap, subst, ◌∙◌, inl, inr, arith, slice_get, get_or, Contains}
use Rattle.std.specs.Prelude.{find, count_by}
use Rattle.std.specs.List.{list_all, list_any}
use Rattle.std.proofs.lemmas.Bool.{and_parts, eqb-true, eq-eqb, false≢true, leb-true, cases_eq, cases_order}
use Rattle.std.proofs.lemmas.List.{length-append, take_more, take_all}
use Rattle.std.proofs.lemmas.List.Sums.{sum_by-cons}
use Rattle.std.proofs.lemmas.List.Elements.{Contains-push_cases, Contains-append_left, Contains-push}
use Rattle.std.proofs.lemmas.Option.{get_or_from_slice_get}
use Rattle.act1_base.proofs.ListGets.{get_cases, get_within, get_in}
use Rattle.act1_channel.specs.declared.problem.Problem.{Problem}
use Rattle.act1_channel.specs.declared.problem.Choice.{Choice}
use Rattle.act1_channel.specs.declared.problem.Hint.{Hint}
use Rattle.act1_channel.specs.declared.problem.Hint.TheVariants as hint
use Rattle.act1_channel.specs.Ranges.{is_problem, is_within, is_track, is_connection}
use Rattle.act1_channel.specs.Assignment.{IsAllowed, DoClash, Assigns, connection_at, choice_at}
use Rattle.act1_channel.specs.Clauses.{Fact, taken, refused, opposite, IsPart}
use Rattle.act1_channel.proofs.Facts.{choice_from, fact_from, same_fact}
use Rattle.act1_search.specs.Closure.{IsUsed, Follows, IsInConflict}
use Rattle.act1_search.specs.Closure.Follows.{is_chosen, is_left}
use Rattle.act1_search.specs.Search.{IsDecision, Descends, EndsInConflict}
use Rattle.act1_base.proofs.Elements.{first_or_later, not_in_none, any_of, some_of, finds, found}
use Rattle.act1_ample.specs.Ample.{is_unbroken, IsWide}
use Rattle.act1_ample.specs.Laws.{NoConflicts, WideHasAssignment, WideIsAssigned, WideIsCalm}
use Rattle.act1_base.proofs.Distinct.{Differ, fewer_than}

-- the statement, or its opposite
abbrev IsSo : Bool → Type 0 → Type 0
IsSo true A = A
IsSo false A = A → ⊥

-- the places of the elements that pass
module _ {X : Type 0} (test : X → Bool) where
  abbrev places : ℕ → List X → List ℕ
  places first [] = []
  places first (x ∷ xs) = cond (test x) (first ∷ places (first + 1) xs) (places (first + 1) xs)

  how_many_places : (first : ℕ) (xs : List X) → length (places first xs) ≡ count_by test xs
  how_many_places first [] = refl
  how_many_places first (x ∷ xs) = from (test x) refl (how_many_places (first + 1) xs) ∙ sym (sum_by-cons (λ x. cond (test x) 1 0) x xs)
    where
      from : (b : Bool) → test x ≡ b → length (places (first + 1) xs) ≡ count_by test xs → length (cond b (first ∷ places (first + 1) xs) (places (first + 1) xs)) ≡ cond b 1 0 + count_by test xs
      from true e h = omega (arith, h)
      from false e h = omega (arith, h)

  -- such a place is behind the first, and its element passes
  record IsPlace (first : ℕ) (xs : List X) (n : ℕ) : Type 0 where
    at : ℕ
    element : X
    is : slice_get xs at ≡ Some element
    passes : test element ≡ true
    number : n ≡ first + at

  place_is : (first : ℕ) (xs : List X) (n : ℕ) → Contains (places first xs) n → IsPlace first xs n
  place_is first [] n h = not_in_none n h
  place_is first (x ∷ xs) n h = from (λ k. place_is (first + 1) xs n k) (test x) refl h
    where
      more : IsPlace (first + 1) xs n → IsPlace first (x ∷ xs) n
      more r = let e = r.number in record { at = suc r.at; element = r.element; is = r.is; passes = r.passes; number = omega (arith, e) }

      this : test x ≡ true → first ≡ n → IsPlace first (x ∷ xs) n
      this e same = record { at = 0; element = x; is = refl; passes = e; number = omega (arith, same) }

      by_first : (Contains (places (first + 1) xs) n → IsPlace (first + 1) xs n) → test x ≡ true → (first ≡ n) ⊎ Contains (places (first + 1) xs) n → IsPlace first (x ∷ xs) n
      by_first rec e (inl same) = this e same
      by_first rec e (inr k) = more (rec k)

      from : (Contains (places (first + 1) xs) n → IsPlace (first + 1) xs n) → (b : Bool) → test x ≡ b → Contains (cond b (first ∷ places (first + 1) xs) (places (first + 1) xs)) n → IsPlace first (x ∷ xs) n
      from rec true e k = by_first rec e (first_or_later n first (places (first + 1) xs) k)
      from rec false e k = more (rec k)

  places_differ : (first : ℕ) (xs : List X) → Differ (places first xs)
  places_differ first [] = tt
  places_differ first (x ∷ xs) = from (test x) (places_differ (first + 1) xs)
    where
      from : (b : Bool) → Differ (places (first + 1) xs) → Differ (cond b (first ∷ places (first + 1) xs) (places (first + 1) xs))
      from true h = (λ k. let r = place_is (first + 1) xs first k in let e = r.number in omega arith, h)
      from false h = h

module _ (p : Problem) (wide : IsWide p) where
  at_least_one : 1 ≤ p.k
  unfolding is_problem
  at_least_one =
      let a = is_within 2 64 p.columns in
      let b = is_within 1 64 p.k in
      let c = is_within 1 64 (length p.tracks) in
      let d = nat_le (length p.connections) 8192 in
      let e = list_all (is_track p.columns) p.tracks in
      let f = list_all (is_connection p.columns) p.connections in
      let to_e = (and_parts (a && b && c && d && e) f p.valid).0 in
      let to_d = (and_parts (a && b && c && d) e to_e).0 in
      let to_c = (and_parts (a && b && c) d to_d).0 in
      let to_b = (and_parts (a && b) c to_c).0 in
      let k = (and_parts a b to_b).1 in
      leb-true 1 p.k (and_parts (nat_le 1 p.k) (nat_le p.k 64) k).0

  -- choices of different connections, allowed, of which no two clash
  record ArePlaced (chosen : List Choice) : Type 0 where
    range : (e : Choice) → Contains chosen e → e.connection < length p.connections
    allowed : (e : Choice) → Contains chosen e → IsAllowed p e
    once : (a b : Choice) → Contains chosen a → Contains chosen b → a.connection ≡ b.connection → a ≡ b
    apart : (a b : Choice) → Contains chosen a → Contains chosen b → a.connection ≢ b.connection → a.track ≡ b.track → DoClash p a.connection b.connection a.track → ⊥

  none_placed : ArePlaced []
  none_placed = record { range = λ e h. not_in_none e h; allowed = λ e h. not_in_none e h; once = λ a b h k e. not_in_none a h; apart = λ a b h k n e c. not_in_none a h }

  clash_back : (c d t : ℕ) → DoClash p c d t → DoClash p d c t
  clash_back c d t h = (h.0, h.2, h.1)

  one_placed : (chosen : List Choice) (c : Choice) → ArePlaced chosen → c.connection < length p.connections → IsAllowed p c → ((e : Choice) → Contains chosen e → e.connection ≢ c.connection)
      → ((e : Choice) → Contains chosen e → e.track ≡ c.track → DoClash p e.connection c.connection c.track → ⊥) → ArePlaced (chosen ++ c ∷ [])
  one_placed chosen c all low ok other free = record {
    range = λ e h. range e (Contains-push_cases chosen c e h);
    allowed = λ e h. allowed e (Contains-push_cases chosen c e h);
    once = λ a b h k e. once a b e (Contains-push_cases chosen c a h) (Contains-push_cases chosen c b k);
    apart = λ a b h k n e. apart a b n e (Contains-push_cases chosen c a h) (Contains-push_cases chosen c b k);
  }
    where
      range : (e : Choice) → Contains chosen e ⊎ (c ≡ e) → e.connection < length p.connections
      range e (inl h) = all.range e h
      range e (inr h) = subst (λ (e : Choice). e.connection < length p.connections) h low

      allowed : (e : Choice) → Contains chosen e ⊎ (c ≡ e) → IsAllowed p e
      allowed e (inl h) = all.allowed e h
      allowed e (inr h) = subst (IsAllowed p) h ok

      once : (a b : Choice) → a.connection ≡ b.connection → Contains chosen a ⊎ (c ≡ a) → Contains chosen b ⊎ (c ≡ b) → a ≡ b
      once a b e (inl h) (inl k) = all.once a b h k e
      once a b e (inl h) (inr k) = absurd (other a h (e ∙ sym (ap (λ (c : Choice). c.connection) k)))
      once a b e (inr h) (inl k) = absurd (other b k (sym e ∙ sym (ap (λ (c : Choice). c.connection) h)))
      once a b e (inr h) (inr k) = sym h ∙ k

      apart : (a b : Choice) → a.connection ≢ b.connection → a.track ≡ b.track → Contains chosen a ⊎ (c ≡ a) → Contains chosen b ⊎ (c ≡ b) → DoClash p a.connection b.connection a.track → ⊥
      apart a b n e (inl h) (inl k) clash = all.apart a b h k n e clash
      apart a b n e (inl h) (inr k) clash =
          let same : a.track ≡ c.track = e ∙ sym (ap (λ (c : Choice). c.track) k) in
          free a h same (subst (λ (t : ℕ). DoClash p a.connection c.connection t) same (subst (λ (d : Choice). DoClash p a.connection d.connection a.track) (sym k) clash))
      apart a b n e (inr h) (inl k) clash =
          let same : b.track ≡ c.track = sym e ∙ sym (ap (λ (c : Choice). c.track) h) in
          free b k same (clash_back c.connection b.connection c.track (subst (λ (d : Choice). DoClash p d.connection b.connection d.track) (sym h) clash))
      apart a b n e (inr h) (inr k) clash = n (ap (λ (c : Choice). c.connection) (sym h ∙ k))

  -- an unbroken track is allowed
  unbroken_allowed : (c t : ℕ) (breaks : List ℕ) → c < length p.connections → slice_get p.tracks t ≡ Some breaks → is_unbroken breaks ≡ true → IsAllowed p (choice_at c t)
  unbroken_allowed c t breaks inside e u =
      let some = at_least_one in
      let low = get_within p.tracks t breaks e in
      (inside, low, subst (λ (bs : List ℕ). count_by (λ b. nat_le b (connection_at p c).right) bs + 1 - count_by (λ b. nat_le b (connection_at p c).left) bs ≤ p.k) (sym (get_or_from_slice_get p.tracks t breaks [] e)) (from breaks u some))
    where
      from : (bs : List ℕ) → is_unbroken bs ≡ true → 1 ≤ p.k → count_by (λ b. nat_le b (connection_at p c).right) bs + 1 - count_by (λ b. nat_le b (connection_at p c).left) bs ≤ p.k
      from [] h some = omega arith
      from (b ∷ bs) h some = absurd (false≢true h)

  -- an unbroken track is left for a connection that has none
  record IsLeft (chosen : List Choice) (c : ℕ) : Type 0 where
    track : ℕ
    breaks : List ℕ
    is : slice_get p.tracks track ≡ Some breaks
    whole : is_unbroken breaks ≡ true
    free : (e : Choice) → Contains chosen e → e.track ≢ track

  abbrev connection_of : Option Choice → ℕ
  connection_of None = 0
  connection_of (Some e) = e.connection

  left_for : (chosen : List Choice) (c : ℕ) → ArePlaced chosen → c < length p.connections → ((e : Choice) → Contains chosen e → e.connection ≢ c) → IsLeft chosen c
  left_for chosen c all low other = from (find (λ t. not (list_any (λ (e : Choice). e.track == t) chosen)) tracks) refl
    where
      tracks : List ℕ
      tracks = places is_unbroken 0 p.tracks

      user : ℕ → ℕ
      user t = connection_of (find (λ (e : Choice). e.track == t) chosen)

      none_left : find (λ t. not (list_any (λ (e : Choice). e.track == t) chosen)) tracks ≡ None → (t : ℕ) → Contains tracks t → list_any (λ (e : Choice). e.track == t) chosen ≡ true
      none_left none t h = by (list_any (λ (e : Choice). e.track == t) chosen) refl
        where
          by : (b : Bool) → list_any (λ (e : Choice). e.track == t) chosen ≡ b → list_any (λ (e : Choice). e.track == t) chosen ≡ true
          by true e = e
          by false e =
              let test = λ (t : ℕ). not (list_any (λ (e : Choice). e.track == t) chosen) in
              let passes : test t ≡ true = rw e refl in
              let f = finds test tracks (any_of test tracks t h passes) in
              let same : Some f.0 ≡ None = sym f.1 ∙ none in
              cc

      used : find (λ t. not (list_any (λ (e : Choice). e.track == t) chosen)) tracks ≡ None → (t : ℕ) → Contains tracks t → (e : Choice) × Contains chosen e × (user t ≡ e.connection) × (e.track ≡ t)
      used none t h =
          let test = λ (e : Choice). e.track == t in
          let f = finds test chosen (none_left none t h) in
          let g = found test chosen f.0 f.1 in
          (f.0, g.0, ap connection_of f.1, eqb-true f.0.track t g.1)

      injective : (none : find (λ t. not (list_any (λ (e : Choice). e.track == t) chosen)) tracks ≡ None) → (t u : ℕ) → Contains tracks t → Contains tracks u → user t ≡ user u → t ≡ u
      injective none t u h k e =
          let a = used none t h in
          let b = used none u k in
          sym a.3 ∙ ap (λ (c : Choice). c.track) (all.once a.0 b.0 a.1 b.1 (sym a.2 ∙ e ∙ b.2)) ∙ b.3

      never : {A : Type 0} → find (λ t. not (list_any (λ (e : Choice). e.track == t) chosen)) tracks ≡ None → A
      never none =
          let few = fewer_than user tracks (length p.connections) c (places_differ is_unbroken 0 p.tracks) (injective none)
          (λ t h. let a = used none t h in subst (λ (k : ℕ). k < length p.connections) (sym a.2) (all.range a.0 a.1)) low
          (λ t h e. let a = used none t h in other a.0 a.1 (sym a.2 ∙ e)) in
          absurd (omega (arith, few, how_many_places is_unbroken 0 p.tracks, wide))

      from : (o : Option ℕ) → find (λ t. not (list_any (λ (e : Choice). e.track == t) chosen)) tracks ≡ o → IsLeft chosen c
      from None e = never e
      from (Some t) e =
          let f = found (λ (t : ℕ). not (list_any (λ (e : Choice). e.track == t) chosen)) tracks t e in
          let r = place_is is_unbroken 0 p.tracks t f.0 in
          let number : r.at ≡ t = omega (arith, r.number) in
          record {
            track = t;
            breaks = r.element;
            is = ap (slice_get p.tracks) (sym number) ∙ r.is;
            whole = r.passes;
            free = λ c h k. not_used f.1 c h k;
          }
        where
          not_used : not (list_any (λ (e : Choice). e.track == t) chosen) ≡ true → (c : Choice) → Contains chosen c → c.track ≢ t
          not_used e c h k = false≢true (ap not (sym (any_of (λ (e : Choice). e.track == t) chosen c h (eq-eqb c.track t k))) ∙ e)

  -- each connection below n has a choice
  record Extends (chosen : List Choice) (n : ℕ) : Type 0 where
    more : List Choice
    placed : ArePlaced more
    kept : (e : Choice) → Contains chosen e → Contains more e
    each : (c : ℕ) → c < n → (e : Choice) × Contains more e × (e.connection ≡ c)

  extend : (chosen : List Choice) (n : ℕ) → ArePlaced chosen → n ≤ length p.connections → Extends chosen n
  extend chosen zero all low = record { more = chosen; placed = all; kept = λ e h. h; each = λ c h. absurd (omega arith) }
  extend chosen (suc n) all low = from (extend chosen n all (omega arith))
    where
      from : Extends chosen n → Extends chosen (suc n)
      from so = by (list_any (λ (e : Choice). e.connection == n) so.more) refl
        where
          by : (b : Bool) → list_any (λ (e : Choice). e.connection == n) so.more ≡ b → Extends chosen (suc n)
          by true e = record { more = so.more; placed = so.placed; kept = so.kept; each = λ c h. at c h (cases_eq c n) }
            where
              at : (c : ℕ) → c < suc n → (c ≡ n) ⊎ (c ≡ n → ⊥) → (e : Choice) × Contains so.more e × (e.connection ≡ c)
              at c h (inl same) = let r = some_of (λ (e : Choice). e.connection == n) so.more e in (r.0, r.1, eqb-true r.0.connection n r.2 ∙ sym same)
              at c h (inr other) = so.each c (omega (arith, other))
          by false e = with_track (left_for so.more n so.placed (omega arith) other)
            where
              other : (c : Choice) → Contains so.more c → c.connection ≢ n
              other c h k = false≢true (sym e ∙ any_of (λ (e : Choice). e.connection == n) so.more c h (eq-eqb c.connection n k))

              with_track : IsLeft so.more n → Extends chosen (suc n)
              with_track l = record {
                more = so.more ++ choice_at n l.track ∷ [];
                placed = one_placed so.more (choice_at n l.track) so.placed (omega arith) (unbroken_allowed n l.track l.breaks (omega arith) l.is l.whole) other (λ c h k clash. l.free c h k);
                kept = λ c h. Contains-append_left so.more (choice_at n l.track ∷ []) c (so.kept c h);
                each = λ c h. at c h (cases_eq c n);
              }
                where
                  at : (c : ℕ) → c < suc n → (c ≡ n) ⊎ (c ≡ n → ⊥) → (e : Choice) × Contains (so.more ++ choice_at n l.track ∷ []) e × (e.connection ≡ c)
                  at c h (inl same) = (choice_at n l.track, Contains-push so.more (choice_at n l.track), sym same)
                  at c h (inr other) = let r = so.each c (omega (arith, other)) in (r.0, Contains-append_left so.more (choice_at n l.track ∷ []) r.0 r.1, r.2)

  -- what follows from the choices holds of each assignment that has them
  module _ (chosen : List Choice) (so : Extends chosen (length p.connections)) where
    abbrev HoldsThere : Fact → Type 0
    HoldsThere f = IsSo f.truth (Contains so.more f.choice)

    follows_holds : (f : Fact) → Follows p [] chosen f → HoldsThere f
    follows_holds it (is_chosen c h) = so.kept c h
    follows_holds it (is_left h f used part others) = from h used part (λ g own other. follows_holds (opposite g) (others g own other))
      where
        from : (h : Hint) → IsUsed p [] h → IsPart p [] h f → ((g : Fact) → IsPart p [] h g → g ≢ f → HoldsThere (opposite g)) → HoldsThere f
        from (hint.AtLeast c) used part rest = at (so.each c used.0)
          where
            at : (e : Choice) × Contains so.more e × (e.connection ≡ c) → HoldsThere f
            at r = by (same_fact (taken r.0) f)
              where
                by : (taken r.0 ≡ f) ⊎ (taken r.0 ≢ f) → HoldsThere f
                by (inl same) = subst HoldsThere same r.1
                by (inr other) = absurd (rest (taken r.0) (refl, r.2, so.placed.allowed r.0 r.1) other r.1)
        from (hint.Clash c d t) used part rest = which part.1
          where
            less : c < d
            less = used.0.0

            apart : Contains so.more (choice_at c t) → Contains so.more (choice_at d t) → ⊥
            apart h k = so.placed.apart (choice_at c t) (choice_at d t) h k (λ e. let l = less in omega (arith, e)) refl used.0.3

            is_refused : (e : Choice) → f.choice ≡ e → refused e ≡ f
            is_refused e same = fact_from (refused e) f (sym same) (sym part.0)

            which : (f.choice ≡ choice_at c t) ⊎ (f.choice ≡ choice_at d t) → HoldsThere f
            which (inl same) =
                subst HoldsThere (is_refused (choice_at c t) same)
                (λ h. apart h (rest (refused (choice_at d t)) (refl, inr refl) (λ e. let l = less in let number : d ≡ c = ap (λ (g : Fact). g.choice.connection) e ∙ ap (λ (c : Choice). c.connection) same in omega arith)))
            which (inr same) =
                subst HoldsThere (is_refused (choice_at d t) same)
                (λ h. apart (rest (refused (choice_at c t)) (refl, inl refl) (λ e. let l = less in let number : c ≡ d = ap (λ (g : Fact). g.choice.connection) e ∙ ap (λ (c : Choice). c.connection) same in omega arith)) h)
        from (hint.Step n) used part rest = let low : n < 0 = used.0 in absurd (omega arith)

    no_conflict : IsInConflict p [] chosen → ⊥
    no_conflict (inl h) = follows_holds (refused h.0) h.2 (follows_holds (taken h.0) h.1)
    no_conflict (inr h) = from h.0 h.1 h.2
      where
        from : (k : Hint) → IsUsed p [] k → ((f : Fact) → IsPart p [] k f → ⊥) → ⊥
        from (hint.AtLeast c) used none = let r = so.each c used.0 in none (taken r.0) (refl, r.2, so.placed.allowed r.0 r.1)
        from (hint.Clash c d t) used none = none (refused (choice_at c t)) (refl, inl refl)
        from (hint.Step n) used none = let low : n < 0 = used.0 in omega arith

  -- a decision doesn't clash with the choices before it
  decision_placed : (chosen : List Choice) (c : Choice) → ArePlaced chosen → IsDecision p [] chosen c → ArePlaced (chosen ++ c ∷ [])
  decision_placed chosen c all d = one_placed chosen c all d.is_there d.first_open.allowed other free
    where
      other : (e : Choice) → Contains chosen e → e.connection ≢ c.connection
      other e h same = d.unsettled (e.track, subst (λ (k : ℕ). Follows p [] chosen (taken (choice_at k e.track))) same (is_chosen e h))

      free : (e : Choice) → Contains chosen e → e.track ≡ c.track → DoClash p e.connection c.connection c.track → ⊥
      free e h same clash = d.first_open.no_fact (false, from (cases_order e.connection c.connection))
        where
          here_is : choice_at e.connection c.track ≡ e
          here_is = choice_from (choice_at e.connection c.track) e refl (sym same)

          e_allowed : IsAllowed p (choice_at e.connection c.track)
          e_allowed = subst (IsAllowed p) (sym here_is) (all.allowed e h)

          known : (g : Fact) → g.truth ≡ false → (g.choice ≡ choice_at e.connection c.track) → Follows p [] chosen (opposite g)
          known g is k = subst (Follows p [] chosen) (fact_from (taken e) (opposite g) (sym (k ∙ here_is)) (sym (ap not is))) (is_chosen e h)

          from : (e.connection ≡ c.connection) ⊎ ((e.connection < c.connection) ⊎ (c.connection < e.connection)) → Follows p [] chosen (refused c)
          from (inl k) = absurd (other e h k)
          from (inr (inl less)) =
              is_left (hint.Clash e.connection c.connection c.track) (refused c) ((less, d.is_there, d.first_open.allowed.1, clash), (e_allowed, d.first_open.allowed)) (refl, inr refl) (λ g own n. by g own.0 n own.1)
            where
              by : (g : Fact) → g.truth ≡ false → g ≢ refused c → (g.choice ≡ choice_at e.connection c.track) ⊎ (g.choice ≡ choice_at c.connection c.track) → Follows p [] chosen (opposite g)
              by g is n (inl k) = known g is k
              by g is n (inr k) = absurd (n (fact_from g (refused c) k is))
          from (inr (inr more)) =
              is_left (hint.Clash c.connection e.connection c.track) (refused c) ((more, all.range e h, d.first_open.allowed.1, clash_back e.connection c.connection c.track clash), (d.first_open.allowed, e_allowed)) (refl, inl refl) (λ g own n. by g own.0 n own.1)
            where
              by : (g : Fact) → g.truth ≡ false → g ≢ refused c → (g.choice ≡ choice_at c.connection c.track) ⊎ (g.choice ≡ choice_at e.connection c.track) → Follows p [] chosen (opposite g)
              by g is n (inl k) = absurd (n (fact_from g (refused c) k is))
              by g is n (inr k) = known g is k

  descent_placed : (chosen : List Choice) → Descends p [] chosen → (i : ℕ) → i ≤ length chosen → ArePlaced (take i chosen)
  descent_placed chosen d zero low = none_placed
  descent_placed chosen d (suc i) low =
      let inside : i < length chosen = omega arith in
      let before : i ≤ length chosen = omega arith in
      let c = get_in chosen i inside in
      let same : get_or chosen i c.0 ≡ c.0 = get_or_from_slice_get chosen i c.0 c.0 c.1 in
      let number : suc i ≡ i + 1 = omega arith in
      let all = decision_placed (take i chosen) c.0 (descent_placed chosen d i before) (d.decided i c.0 c.1) in
      subst ArePlaced (sym (ap (λ (n : ℕ). take n chosen) number ∙ take_more chosen i c.0 inside ∙ ap (λ (e : Choice). take i chosen ++ e ∷ []) same)) all

  pub calm : (chosen : List Choice) → EndsInConflict p [] chosen → ⊥
  calm chosen h =
      let whole : length chosen ≤ length chosen = omega arith in
      let placed = subst ArePlaced (take_all (length chosen) chosen whole) (descent_placed chosen h.0 (length chosen) whole) in
      no_conflict chosen (extend chosen (length p.connections) placed (omega arith)) h.1

  -- the tracks that these choices give the first connections
  record GiveTracks (more : List Choice) (n : ℕ) : Type 0 where
    tracks : List ℕ
    long : length tracks ≡ n
    given : (c t : ℕ) → slice_get tracks c ≡ Some t → Contains more (choice_at c t)

  tracks_of : (so : Extends [] (length p.connections)) (n : ℕ) → n ≤ length p.connections → GiveTracks so.more n
  tracks_of so zero low = record { tracks = []; long = refl; given = λ c t e. absurd (let none = get_within [] c t e in omega (arith, none)) }
  tracks_of so (suc n) low = from (tracks_of so n (omega arith)) (so.each n (omega arith))
    where
      from : GiveTracks so.more n → (e : Choice) × Contains so.more e × (e.connection ≡ n) → GiveTracks so.more (suc n)
      from had (e, chosen, is) = record {
        tracks = had.tracks ++ e.track ∷ [];
        long = omega (arith, length-append had.tracks (e.track ∷ []), had.long);
        given = λ c t there. by c t (get_cases had.tracks e.track t c there);
      }
        where
          by : (c t : ℕ) → (slice_get had.tracks c ≡ Some t) ⊎ ((c ≡ length had.tracks) × (e.track ≡ t)) → Contains so.more (choice_at c t)
          by c t (inl k) = had.given c t k
          by c t (inr (k, same)) = subst (Contains so.more) (choice_from e (choice_at c t) (is ∙ sym (k ∙ had.long)) same) chosen

  pub assigned : (tracks : List ℕ) × Assigns p tracks
  assigned =
      let so = extend [] (length p.connections) none_placed (omega arith) in
      let had = tracks_of so (length p.connections) (omega arith) in (
        had.tracks,
        record {
          each = had.long;
          allowed = λ c t e. so.placed.allowed (choice_at c t) (had.given c t e);
          apart = λ c d t less e f clash. so.placed.apart (choice_at c t) (choice_at d t) (had.given c t e) (had.given d t f) (λ same. absurd (omega (arith, less, same))) refl clash;
        },
      )

pub wide_has_assignment : WideHasAssignment
wide_has_assignment p wide = assigned p wide

pub wide_is_calm : WideIsCalm
wide_is_calm p wide chosen h = calm p wide chosen h

pub no_conflicts : NoConflicts
no_conflicts p wide [] h = refl
no_conflicts p wide (chosen ∷ steps) h = absurd (calm p wide chosen (h.each 0 chosen refl))

nothing_at : {X A : Type 0} (xs : List X) (i : ℕ) (x : X) → xs ≡ [] → slice_get xs i ≡ Some x → A
nothing_at {X} xs i x e h = let low = get_within xs i x h in absurd (omega (arith, ap (λ (ys : List X). length ys) e))

pub wide_is_assigned : WideIsAssigned
wide_is_assigned p wide = (
  λ steps h. nothing_at steps (length steps - 1) [] (no_conflicts p wide steps h.0) h.1,
  λ number chosen h. nothing_at h.0 (number - 1) chosen (no_conflicts p wide h.0 h.1) h.3,
)
