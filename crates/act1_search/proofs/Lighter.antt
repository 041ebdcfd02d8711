-- Each conflict weighs less than the one before it, so there are few.
use Rattle.std.proofs.Common.{ℕ, zero, suc, ◌≡◌, ◌≢◌, ◌+◌, ◌-◌, ◌^◌, ◌<◌, ◌≤◌, ◌⊎◌, false, List, [], ◌∷◌, ◌++◌, length, take, drop, slice_get, Some, refl, sym, ap, subst, inl, inr, arith}
use Rattle.std.proofs.lemmas.Bool.{cases_lt}
use Rattle.act1_base.proofs.ListGets.{get_in, get_within, get_last, contains_at}
use Rattle.act1_search.proofs.Fronts.{get_take, get_dropped, take_then_drop, take_next, contains_longer, front_and_last}
use Rattle.act1_channel.proofs.Facts.{choice_from}
use Rattle.act1_channel.specs.declared.problem.Problem.{Problem}
use Rattle.act1_channel.specs.declared.problem.Choice.{Choice}
use Rattle.act1_channel.specs.Assignment.{IsAllowed, choice_at}
use Rattle.act1_channel.specs.Clauses.{Fact, taken}
use Rattle.act1_search.specs.Closure.{Follows, HasTrueChoice, HasFactAbout}
use Rattle.act1_search.specs.Closure.Follows.{is_chosen}
use Rattle.act1_search.specs.Search.{IsDecision, Descends, EndsInConflict, AreConflicts}
use Rattle.act1_search.specs.Laws.{ConflictsAreFew, SpendingIsShort}
use Rattle.act1_search.proofs.Closures.{follows_more, follows_wider, learned_fact}
use Rattle.act1_search.proofs.Visits.{whole_of, descends_again}
use Rattle.act1_search.proofs.Unique.{Order, order, front_is, not_past, at_most}
use Rattle.act1_search.proofs.Unique.Order.{below, above, level}
use Rattle.act1_search.proofs.Bound as bound
use Rattle.act1_search.proofs.Bound.{weight, RiseFrom, ComesAfter, weight_append, lighter, rises}

module _ (p : Problem) where
  -- the connections of a descent's choices rise
  pub connections_rise : (steps : List (List Choice)) (chosen : List Choice) (i j : ℕ) (a b : Choice) → Descends p steps chosen → i < j → slice_get chosen i ≡ Some a → slice_get chosen j ≡ Some b → a.connection < b.connection
  connections_rise steps chosen i j a b d low x y = from (order a.connection b.connection)
    where
      own : IsDecision p steps (take j chosen) b
      own = d.decided j b y

      true_there : Follows p steps (take j chosen) (taken a)
      true_there = is_chosen a (contains_at (take j chosen) i a (get_take chosen j i a low x))

      from : Order a.connection b.connection → a.connection < b.connection
      from (below less) = less
      from (above more) =
          let h = (d.decided i a x).first b.connection more in
          absurd (own.unsettled (h.0, follows_wider p steps (take i chosen) (take j chosen) (λ c among. contains_longer chosen i j c (omega arith) among) (taken (choice_at b.connection h.0)) h.1))
      from (level e) = absurd (own.unsettled (subst (λ (k : ℕ). HasTrueChoice p steps (take j chosen) k) e (a.track, true_there)))

  -- so do those that it takes from a place on
  pub rest_rises : (steps : List (List Choice)) (chosen : List Choice) (k : ℕ) → Descends p steps chosen → RiseFrom (length p.tracks) (length p.connections) 0 (drop k chosen)
  rest_rises steps chosen k d =
      rises (length p.tracks) (length p.connections) 0 (drop k chosen)
      (λ i c at. let own = d.decided (k + i) c (get_dropped chosen k i c at) in (omega arith, own.is_there, own.first_open.allowed.1))
      (λ i j a b low x y. connections_rise steps chosen (k + i) (k + j) a b d (omega arith) (get_dropped chosen k i a x) (get_dropped chosen k j b y))

  -- where the descent goes on after a choice was taken back, it takes a later track or a later connection
  after : (steps : List (List Choice)) (chosen : List Choice) (e c : Choice) → IsDecision p steps chosen e → IsDecision p (steps ++ (chosen ++ e ∷ []) ∷ []) chosen c → (e.connection < c.connection) ⊎ ((e.connection ≡ c.connection) × (e.track < c.track))
  after steps chosen e c x y = from (order e.connection c.connection) (order e.track c.track)
    where
      more : (f : Fact) → Follows p steps chosen f → Follows p (steps ++ (chosen ++ e ∷ []) ∷ []) chosen f
      more = follows_more p steps ((chosen ++ e ∷ []) ∷ []) chosen chosen (λ d among. among)

      earlier : e.connection ≡ c.connection → c.track < e.track → ⊥
      earlier same low =
          let is : choice_at e.connection c.track ≡ c = choice_from (choice_at e.connection c.track) c same refl in
          let h = x.first_open.least c.track low (subst (λ (d : Choice). IsAllowed p d) (sym is) y.first_open.allowed) in
          y.first_open.no_fact (subst (λ (d : Choice). HasFactAbout p (steps ++ (chosen ++ e ∷ []) ∷ []) chosen d) is (h.0, more _ h.1))

      again : e ≡ c → ⊥
      again same = y.first_open.no_fact (subst (λ (d : Choice). HasFactAbout p (steps ++ (chosen ++ e ∷ []) ∷ []) chosen d) same (false, learned_fact p steps chosen e))

      from : Order e.connection c.connection → Order e.track c.track → (e.connection < c.connection) ⊎ ((e.connection ≡ c.connection) × (e.track < c.track))
      from (below low) t = inl low
      from (above low) t = let h = x.first c.connection low in absurd (y.unsettled (h.0, more _ h.1))
      from (level same) (below low) = inr (same, low)
      from (level same) (above low) = absurd (earlier same low)
      from (level same) (level t) = absurd (again (choice_from e c same t))

  -- what follows in a descent that comes by the choices of a conflict but the last
  comes_after : (steps : List (List Choice)) (chosen other : List Choice) (e : Choice) → Descends p steps (chosen ++ e ∷ []) → Descends p (steps ++ (chosen ++ e ∷ []) ∷ []) other → take (length chosen) other ≡ chosen
      → ComesAfter e (drop (length chosen) other)
  unfolding ComesAfter
  comes_after steps chosen other e d y same = from (drop (length chosen) other) refl
    where
      first : IsDecision p steps chosen e
      first = subst (λ (xs : List Choice). IsDecision p steps xs e) (whole_of chosen e (length chosen) refl) (d.decided (length chosen) e (get_last chosen e (length chosen) refl))

      from : (rest : List Choice) → drop (length chosen) other ≡ rest → ComesAfter e rest
      from [] is = tt
      from (c ∷ rest) is =
          let at = get_dropped other (length chosen) 0 c (ap (λ (xs : List Choice). slice_get xs 0) is) in
          let own = y.decided (length chosen) c (subst (λ (k : ℕ). slice_get other k ≡ Some c) (omega arith) at) in
          after steps chosen e c first (subst (λ (xs : List Choice). IsDecision p (steps ++ (chosen ++ e ∷ []) ∷ []) xs c) same own)

  weight_of : List Choice → ℕ
  weight_of = weight (length p.tracks) (length p.connections)

  -- the next conflict weighs less
  falls : (steps : List (List Choice)) (chosen other : List Choice) (e : Choice) → EndsInConflict p steps (chosen ++ e ∷ []) → EndsInConflict p (steps ++ (chosen ++ e ∷ []) ∷ []) other → weight_of other < weight_of (chosen ++ e ∷ [])
  unfolding weight_of
  falls steps chosen other e x y =
      let again = descends_again p steps chosen e x.0 in
      let long = at_most (length chosen) (length other) (not_past p (steps ++ (chosen ++ e ∷ []) ∷ []) other chosen y again) in
      let same = front_is p (steps ++ (chosen ++ e ∷ []) ∷ []) chosen other again y.0 long in
      let own = x.0.decided (length chosen) e (get_last chosen e (length chosen) refl) in
      let rest = lighter (length p.tracks) (length p.connections) 0 e (drop (length chosen) other) own.is_there own.first_open.allowed.1 (rest_rises (steps ++ (chosen ++ e ∷ []) ∷ []) other (length chosen) y.0) (comes_after steps chosen other e x.0 y.0 same) in
      let parts = ap (λ (xs : List Choice). weight (length p.tracks) (length p.connections) xs) (take_then_drop other (length chosen)) in
      let sum = weight_append (length p.tracks) (length p.connections) (take (length chosen) other) (drop (length chosen) other) in
      let front = ap (λ (xs : List Choice). weight (length p.tracks) (length p.connections) xs) same in
      let whole = weight_append (length p.tracks) (length p.connections) chosen (e ∷ []) in
      omega arith

  -- the conflict of a place weighs so little that all before it have their own weight above it
  light : (steps : List (List Choice)) (n : ℕ) (chosen : List Choice) → AreConflicts p steps → slice_get steps n ≡ Some chosen → weight_of chosen + n < (1 + length p.tracks) ^ length p.connections
  unfolding weight_of
  light steps zero chosen are at =
      let x = are.each 0 chosen at in
      let h = bound.below (length p.tracks) (length p.connections) 0 chosen (omega arith) (rest_rises [] chosen 0 x.0) in
      let e = ap (λ (k : ℕ). (1 + length p.tracks) ^ k) (no_less (length p.connections)) in
      omega arith
    where
      no_less : (k : ℕ) → k - 0 ≡ k
      no_less k = omega arith
  light steps (suc n) chosen are at =
      let there = get_within steps (suc n) chosen at in
      let own = get_in steps n (omega arith) in
      let parts = front_and_last own.0 (are.goes_on n own.0 own.1 (omega arith)) in
      let before = light steps n own.0 are own.1 in
      let x = subst (λ (xs : List Choice). EndsInConflict p (take n steps) xs) parts.2 (are.each n own.0 own.1) in
      let y = subst (λ (s : List (List Choice)). EndsInConflict p s chosen) (take_next steps n own.0 own.1) (are.each (suc n) chosen at) in
      let y' = subst (λ (xs : List Choice). EndsInConflict p (take n steps ++ xs ∷ []) chosen) parts.2 y in
      let less = falls (take n steps) parts.0 chosen parts.1 x y' in
      let e = ap (λ (xs : List Choice). weight (length p.tracks) (length p.connections) xs) parts.2 in
      omega arith

  -- a conflict with choices weighs something
  heavy : (steps : List (List Choice)) (chosen : List Choice) → Descends p steps chosen → chosen ≢ [] → 1 ≤ weight_of chosen
  unfolding weight_of
  heavy steps chosen d some =
      let parts = front_and_last chosen some in
      let d' = subst (λ (xs : List Choice). Descends p steps xs) parts.2 d in
      let own = d'.decided (length parts.0) parts.1 (get_last parts.0 parts.1 (length parts.0) refl) in
      let one = last_weighs parts.1 own.is_there own.first_open.allowed.1 in
      let sum = weight_append (length p.tracks) (length p.connections) parts.0 (parts.1 ∷ []) in
      let e = ap (λ (xs : List Choice). weight (length p.tracks) (length p.connections) xs) parts.2 in
      omega arith
    where
      last_weighs : (e : Choice) → e.connection < length p.connections → e.track < length p.tracks → weight (length p.tracks) (length p.connections) [] < weight (length p.tracks) (length p.connections) (e ∷ [])
      last_weighs e there track = bound.lighter_than_nothing (length p.tracks) (length p.connections) e there track

pub few : ConflictsAreFew
few p steps are = from (cases_lt 0 (length steps))
  where
    from : (0 < length steps) ⊎ (length steps ≤ 0) → length steps ≤ (1 + length p.tracks) ^ length p.connections
    from (inl some) =
        let own = get_in steps (length steps - 1) (omega arith) in
        let h = light p steps (length steps - 1) own.0 are own.1 in
        omega arith
    from (inr none) = omega arith

pub short : SpendingIsShort
short p number chosen h some =
    let at : slice_get h.0 (number - 1) ≡ Some chosen = h.3 in
    let there = get_within h.0 (number - 1) chosen at in
    let own = light p h.0 (number - 1) chosen h.1 at in
    let one = heavy p (take (number - 1) h.0) chosen (h.1.each (number - 1) chosen at).0 some in
    omega (arith, h.2)
