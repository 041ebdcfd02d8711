-- What the changes of a module's nets and of another's say of the whole sum.
use Rattle.std.proofs.Common.{ℕ, ◌≡◌, ◌≢◌, ◌⊎◌, ◌+◌, ◌*◌, ◌<◌, ◌≤◌, ◌==◌, ◌||◌, not, Bool, true, false, cond, List, [], ◌∷◌, ◌++◌, length, map, Option, Some, None, refl, sym, ap, subst, ◌∙◌, inl, inr, arith, Contains, AllPairs}
use Rattle.std.specs.Prelude.{filter, sum_by, slice_get, slice_set, All}
use Rattle.std.proofs.lemmas.Bool.{eqb-true, eq-eqb, false≢true}
use Rattle.std.proofs.lemmas.List.{get_or-map}
use Rattle.std.proofs.lemmas.List.Elements.{All-contains, Contains-append_left as append_left, Contains-append_right as append_right, Contains-append_cases as append_cases}
use Rattle.std.proofs.lemmas.List.Filters.{sum_by-filter_both}
use Rattle.std.proofs.lemmas.List.Sums.{sum_by-cons}
use Rattle.std.proofs.lemmas.Option.{slice_get-get_or}
use Rattle.act1_base.proofs.ListGets.{get_within}
use Rattle.act1_circuit.specs.declared.circuit.Spot.{Spot}
use Rattle.act1_place.specs.declared.ends.Ends.{Ends}
use Rattle.act1_place.specs.declared.ends.Change.{Change}
use Rattle.act1_place.specs.declared.net.Joins.{Joins}
use Rattle.act1_place.specs.declared.net.Place.{Place}
use Rattle.act1_place.specs.Ends.{AreEnds, AreAllEnds, AreRenewed, IsChange, has, without, ends_at, half_with, number_of}
use Rattle.act1_place.specs.Gains.{IsInside, HasAll, AreItsNets, IsKept}
use Rattle.act1_place.specs.Kept.{spot_of, places, net_sum, kept_total, joins, touches, net_at, others, Occupies, AreTouched}
use Rattle.act1_place.specs.Moves.{columns_with, heights_with}
use Rattle.act1_place.specs.Passes.{is_same_spot, moved, exchange}
use Rattle.act1_place.specs.Perimeter.{place_of, spread, half_perimeter}
use Rattle.act1_base.proofs.Elements.{here, later, filtered, any_of, some_of, in_map, mapped}
use Rattle.act1_place.proofs.KeptSums.{perimeter_among, sum_agree, moves, place_once, untouched}
use Rattle.act1_place.proofs.LocalSums.{local, same_each, kept_sum}
use Rattle.act1_place.proofs.MoveSums.{net_set, spot_is}
use Rattle.act1_place.proofs.PassLaws.{spot_cases, moved_first, moved_second, moved_other, exchange_back}

module _ (spots : List Spot) (a b : Spot) (apart : AllPairs (λ (s t : Spot). s ≢ t) spots) where
  -- a net of the one module and not of the other
  pub moved_net : (m : ℕ) (o : Option ℕ) → Occupies spots a (Some m) → Occupies spots b o → (n : Joins) → joins m n ≡ true → touches o n ≡ false
      → net_sum (exchange a b spots) n ≡ spread (columns_with spots m b.column n) + spread (heights_with spots m b.row n)
  moved_net m None at_a at_b n joined other =
      ap (λ (ss : List Spot). net_sum ss n) ((moves spots apart a b).one m at_a at_b) ∙ net_set spots m b (get_within spots m a at_a) n
  moved_net m (Some o) at_a at_b n joined other =
      ap (λ (ss : List Spot). net_sum ss n) ((moves spots apart a b).two m o at_a at_b differ)
      ∙ sym (ap (λ (ps : List Place). half_perimeter (ps ++ n.pads)) (untouched (slice_set spots m b) o a n.modules other))
      ∙ net_set spots m b (get_within spots m a at_a) n
    where
      differ : a ≢ b
      differ same =
          let one : m ≡ o = place_once spots apart m o b (at_a ∙ ap (λ (s : Spot). let r : Option Spot = Some s in r) same) at_b in
          false≢true (sym other ∙ ap (λ (k : ℕ). joins k n) (sym one) ∙ joined)

  -- a net of both
  abbrev BothWays : Joins → ℕ → Type 0
  BothWays n k = Contains (map (λ j. place_of (spot_of spots j)) n.modules) (place_of (spot_of (exchange a b spots) k)) × Contains (map (λ j. place_of (spot_of (exchange a b spots) j)) n.modules) (place_of (spot_of spots k))

  shared_place : (o : ℕ) → slice_get spots o ≡ Some b → (n : Joins) → joins o n ≡ true → (m : ℕ) → slice_get spots m ≡ Some a → joins m n ≡ true → (k : ℕ) → k < length spots → Contains n.modules k → BothWays n k
  shared_place o at_b n joins_o m at_a joins_m k low inside = from (spot_cases (spot_of spots k) a) (spot_cases (spot_of spots k) b)
    where
      after : (j : ℕ) → j < length spots → spot_of (exchange a b spots) j ≡ moved a b (spot_of spots j)
      after j within = get_or-map (moved a b) spots j (record { row = 0; column = 0 }) (record { row = 0; column = 0 }) within

      member : (j : ℕ) → joins j n ≡ true → Contains n.modules j
      member j e = let r = some_of (λ i. i == j) n.modules e in subst (λ (i : ℕ). Contains n.modules i) (eqb-true r.0 j r.2) r.1

      now : (j : ℕ) → Contains n.modules j → (s : Spot) → spot_of spots j ≡ s → Contains (map (λ j. place_of (spot_of spots j)) n.modules) (place_of s)
      now j c s e = subst (λ (t : Spot). Contains (map (λ j. place_of (spot_of spots j)) n.modules) (place_of t)) e (in_map {X = ℕ} {Y = Place} (λ j. place_of (spot_of spots j)) n.modules j c)

      next : (j : ℕ) → Contains n.modules j → (s : Spot) → spot_of (exchange a b spots) j ≡ s → Contains (map (λ j. place_of (spot_of (exchange a b spots) j)) n.modules) (place_of s)
      next j c s e = subst (λ (t : Spot). Contains (map (λ j. place_of (spot_of (exchange a b spots) j)) n.modules) (place_of t)) e (in_map {X = ℕ} {Y = Place} (λ j. place_of (spot_of (exchange a b spots) j)) n.modules j c)

      m_next : spot_of (exchange a b spots) m ≡ b
      m_next = after m (get_within spots m a at_a) ∙ ap (moved a b) (spot_is spots m a at_a) ∙ moved_first a b

      o_next : spot_of (exchange a b spots) o ≡ a
      o_next = after o (get_within spots o b at_b) ∙ ap (moved a b) (spot_is spots o b at_b) ∙ moved_second a b

      from : (spot_of spots k ≡ a) ⊎ (is_same_spot (spot_of spots k) a ≡ false) → (spot_of spots k ≡ b) ⊎ (is_same_spot (spot_of spots k) b ≡ false) → BothWays n k
      from (inl e) y = (
        now o (member o joins_o) (spot_of (exchange a b spots) k) (spot_is spots o b at_b ∙ sym (after k low ∙ ap (moved a b) e ∙ moved_first a b)),
        next o (member o joins_o) (spot_of spots k) (o_next ∙ sym e),
      )
      from (inr x) (inl e) = (
        now m (member m joins_m) (spot_of (exchange a b spots) k) (spot_is spots m a at_a ∙ sym (after k low ∙ ap (moved a b) e ∙ moved_second a b)),
        next m (member m joins_m) (spot_of spots k) (m_next ∙ sym e),
      )
      from (inr x) (inr y) = (
        now k inside (spot_of (exchange a b spots) k) (sym (after k low ∙ moved_other a b (spot_of spots k) x y)),
        next k inside (spot_of spots k) (after k low ∙ moved_other a b (spot_of spots k) x y),
      )

  pub shared_net : (m o : ℕ) → slice_get spots m ≡ Some a → slice_get spots o ≡ Some b → (n : Joins) → All (λ k. k < length spots) n.modules → joins m n ≡ true → joins o n ≡ true → net_sum spots n ≡ net_sum (exchange a b spots) n
  shared_net m o at_a at_b n low joins_m joins_o =
      perimeter_among (places spots n) (places (exchange a b spots) n) (
        λ p h. from_now p (append_cases (map (λ j. place_of (spot_of spots j)) n.modules) n.pads p h),
        λ p h. from_next p (append_cases (map (λ j. place_of (spot_of (exchange a b spots) j)) n.modules) n.pads p h),
      )
    where
      each : (k : ℕ) → Contains n.modules k → BothWays n k
      each k c = shared_place o at_b n joins_o m at_a joins_m k (All-contains (λ k. k < length spots) n.modules k low c) c

      from_now : (p : Place) → Contains (map (λ j. place_of (spot_of spots j)) n.modules) p ⊎ Contains n.pads p → Contains (places (exchange a b spots) n) p
      from_now p (inl h) =
          let r = mapped {X = ℕ} {Y = Place} (λ j. place_of (spot_of spots j)) n.modules p h in
          append_left (map (λ j. place_of (spot_of (exchange a b spots) j)) n.modules) n.pads p (subst (λ (q : Place). Contains (map (λ j. place_of (spot_of (exchange a b spots) j)) n.modules) q) r.2 (each r.0 r.1).1)
      from_now p (inr h) = append_right (map (λ j. place_of (spot_of (exchange a b spots) j)) n.modules) n.pads p h

      from_next : (p : Place) → Contains (map (λ j. place_of (spot_of (exchange a b spots) j)) n.modules) p ⊎ Contains n.pads p → Contains (places spots n) p
      from_next p (inl h) =
          let r = mapped {X = ℕ} {Y = Place} (λ j. place_of (spot_of (exchange a b spots) j)) n.modules p h in
          append_left (map (λ j. place_of (spot_of spots j)) n.modules) n.pads p (subst (λ (q : Place). Contains (map (λ j. place_of (spot_of spots j)) n.modules) q) r.2 (each r.0 r.1).0)
      from_next p (inr h) = append_right (map (λ j. place_of (spot_of spots j)) n.modules) n.pads p h

  -- a net of neither
  pub unmoved_net : (m o : Option ℕ) → Occupies spots a m → Occupies spots b o → (n : Joins) (e : Ends) → touches m n ≡ false → touches o n ≡ false → AreEnds spots n e → AreEnds (exchange a b spots) n e
  unmoved_net m o at_a at_b n e not_m not_o h = record {
    sum = h.sum ∙ kept_sum spots a b m o apart at_a at_b n (λ i. not_m i || not_o i);
    width = λ k column low small joined.
        h.width k column low small joined
        ∙ ap (λ (xs : List ℕ). spread (xs ++ map (λ (p : Place). p.x) n.pads)) (same_each spots a b m o apart at_a at_b (λ j (s : Spot). cond (j == k) column s.column) n.modules n.pads not_m not_o);
    height = λ k row low small joined.
        h.height k row low small joined
        ∙ ap (λ (xs : List ℕ). spread (xs ++ map (λ (p : Place). p.y) n.pads)) (same_each spots a b m o apart at_a at_b (λ j (s : Spot). cond (j == k) (2 * row + 1) (2 * s.row + 1)) n.modules n.pads not_m not_o);
  }

-- which numbers are those of nets that join a module
module _ (nets : List Joins) (numbers : List ℕ) (o : Option ℕ) (touched : AreTouched nets numbers o) (all : HasAll nets numbers o) where
  pub has_is : (i : ℕ) → i < length nets → has numbers i ≡ touches o (net_at nets i)
  has_is i low = from (has numbers i) (touches o (net_at nets i)) refl refl
    where
      from : (s t : Bool) → has numbers i ≡ s → touches o (net_at nets i) ≡ t → has numbers i ≡ touches o (net_at nets i)
      from true true e h = e ∙ sym h
      from false false e h = e ∙ sym h
      from true false e h =
          let r = some_of (λ k. k == i) numbers e in
          let inside : Contains numbers i = subst (λ (k : ℕ). Contains numbers k) (eqb-true r.0 i r.2) r.1 in
          let found = subst (λ (xs : List Joins). Contains xs (net_at nets i)) touched (in_map {X = ℕ} {Y = Joins} (net_at nets) numbers i inside) in
          absurd (false≢true (sym h ∙ (filtered (touches o) nets (net_at nets i) found).1))
      from false true e h = absurd (false≢true (sym e ∙ any_of (λ k. k == i) numbers i (all i low h) (eq-eqb i i refl)))

-- sums over numbers are sums over nets
sum_without : (nets : List Joins) (o : Option ℕ) (listed numbers : List ℕ) (g : ℕ → ℕ) (f : Joins → ℕ) → ((i : ℕ) → Contains listed i → (has numbers i ≡ touches o (net_at nets i)) × (touches o (net_at nets i) ≡ false → g i ≡ f (net_at nets i)))
    → sum_by g (without listed numbers) ≡ sum_by f (others nets listed o)
sum_without nets o [] numbers g f h = refl
sum_without nets o (i ∷ listed) numbers g f h = from (has numbers i) (touches o (net_at nets i)) refl refl (h i (here i i listed refl)) (sum_without nets o listed numbers g f (λ j c. h j (later j i listed c)))
  where
    from : (s t : Bool) → has numbers i ≡ s → touches o (net_at nets i) ≡ t → (has numbers i ≡ touches o (net_at nets i)) × (touches o (net_at nets i) ≡ false → g i ≡ f (net_at nets i)) → sum_by g (without listed numbers) ≡ sum_by f (others nets listed o)
        → sum_by g (cond (not s) (i ∷ without listed numbers) (without listed numbers)) ≡ sum_by f (cond (not t) (net_at nets i ∷ others nets listed o) (others nets listed o))
    from true true e k both rest = rest
    from false false e k both rest = omega (arith, rest, both.1 k, sum_by-cons g i (without listed numbers), sum_by-cons f (net_at nets i) (others nets listed o))
    from true false e k both rest = absurd (false≢true (sym k ∙ sym both.0 ∙ e))
    from false true e k both rest = absurd (false≢true (sym e ∙ both.0 ∙ k))

module _ (rows columns : ℕ) (nets : List Joins) (touching : List (List ℕ)) (spots : List Spot) (at : List (Option ℕ)) (ends : List Ends) (kept : IsKept rows columns nets touching spots at) (are : AreAllEnds nets spots ends) where
  read : (i : ℕ) → i < length nets → AreEnds spots (net_at nets i) (ends_at ends i)
  read i low =
      let within : i < length ends = let each = are.each in omega (arith, low, each) in
      are.at i (ends_at ends i) (slice_get-get_or ends i (ends_at [] 0) within)

  module _ (a b : Spot) (in_b : IsInside rows columns b) (m o : Option ℕ) (at_a : Occupies spots a m) (at_b : Occupies spots b o) (first second : List ℕ) (one : AreItsNets nets first m) (two : AreItsNets nets second o) where
    after_is : (x : Option ℕ) → m ≡ x → Occupies spots a x → (i : ℕ) → i < length nets → touches x (net_at nets i) ≡ true → touches o (net_at nets i) ≡ false → half_with (ends_at ends i) (number_of m) b ≡ net_sum (exchange a b spots) (net_at nets i)
    after_is None is there i low joined other = absurd (false≢true joined)
    after_is (Some k) is there i low joined other =
        let e = read i low in
        let few = kept.few in
        let within = get_within spots k a there in
        let small : k < 65535 = omega (arith, few, within) in
        let few_columns = kept.at_are.few_columns in
        let few_rows = kept.at_are.few_rows in
        let column_in = in_b.1 in
        let row_in = in_b.0 in
        let column : b.column ≤ 255 = omega (arith, few_columns, column_in) in
        let row : b.row ≤ 31 = omega (arith, few_rows, row_in) in
        ap (λ (y : Option ℕ). half_with (ends_at ends i) (number_of y) b) is
        ∙ (λ j. e.width k b.column small column joined j + e.height k b.row small row joined j)
        ∙ sym (moved_net spots a b kept.at_are.apart k o there at_b (net_at nets i) joined other)

    number_in : (i : ℕ) → Contains first i → (i < length nets) × (touches m (net_at nets i) ≡ true)
    number_in i c = (
      All-contains (λ i. i < length nets) first i one.listed c,
      (filtered (touches m) nets (net_at nets i) (subst (λ (xs : List Joins). Contains xs (net_at nets i)) one.touched (in_map {X = ℕ} {Y = Joins} (net_at nets) first i c))).1,
    )

    pub change_is : (c : Change) → IsChange ends first second (number_of m) b c
        → (c.before ≡ sum_by (net_sum spots) (filter (λ n. not (touches o n)) (filter (touches m) nets))) × (c.after ≡ sum_by (net_sum (exchange a b spots)) (filter (λ n. not (touches o n)) (filter (touches m) nets)))
    change_is c h = (
      h.before
          ∙ sum_without nets o first second (λ i. (ends_at ends i).sum) (net_sum spots) (λ i k. let r = number_in i k in (has_is nets second o two.touched two.all i r.0, λ other. (read i r.0).sum))
          ∙ ap (λ (xs : List Joins). sum_by (net_sum spots) (filter (λ n. not (touches o n)) xs)) one.touched,
      h.after
          ∙ sum_without nets o first second (λ i. half_with (ends_at ends i) (number_of m) b) (net_sum (exchange a b spots)) (λ i k. let r = number_in i k in (has_is nets second o two.touched two.all i r.0, λ other. after_is m refl at_a i r.0 r.1 other))
          ∙ ap (λ (xs : List Joins). sum_by (net_sum (exchange a b spots)) (filter (λ n. not (touches o n)) xs)) one.touched,
    )

  -- so both changes give that of the whole sum
  pub changes_are : (a b : Spot) → IsInside rows columns a → IsInside rows columns b → (m o : Option ℕ) → Occupies spots a m → Occupies spots b o → (first second : List ℕ) → AreItsNets nets first m → AreItsNets nets second o → (c d : Change)
      → IsChange ends first second (number_of m) b c → IsChange ends second first (number_of o) a d
      → kept_total nets spots + (c.after + d.after) ≡ kept_total nets (exchange a b spots) + (c.before + d.before)
  changes_are a b in_a in_b m o at_a at_b first second one two c d c_is d_is =
      let now = net_sum spots in
      let next = net_sum (exchange a b spots) in
      let x = change_is a b in_b m o at_a at_b first second one two c c_is in
      let y = change_is b a in_a o m at_b at_a second first two one d d_is in
      let y_after = y.1 ∙ ap (λ (ss : List Spot). sum_by (net_sum ss) (filter (λ n. not (touches m n)) (filter (touches o) nets))) (exchange_back a b spots) in
      let ours = filter (touches m) nets in
      let shared = sum_agree now next (filter (touches o) ours) (λ n h. let p = filtered (touches o) ours n h in let q = filtered (touches m) nets n p.0 in both m o at_a at_b n q.0 q.1 p.1) in
      let before = sum_by-filter_both (touches o) (λ n. not (touches o n)) (λ n. refl) now ours in
      let after = sum_by-filter_both (touches o) (λ n. not (touches o n)) (λ n. refl) next ours in
      let whole = local spots a b m o kept.at_are.apart at_a at_b nets in
      omega (arith, x.0, x.1, y.0, y_after, shared, before, after, whole)
    where
      both : (m o : Option ℕ) → Occupies spots a m → Occupies spots b o → (n : Joins) → Contains nets n → touches m n ≡ true → touches o n ≡ true → net_sum spots n ≡ net_sum (exchange a b spots) n
      both None o at_a at_b n inside p q = absurd (false≢true p)
      both (Some m) None at_a at_b n inside p q = absurd (false≢true q)
      both (Some m) (Some o) at_a at_b n inside p q = shared_net spots a b kept.at_are.apart m o at_a at_b n (All-contains (λ (n : Joins). All (λ k. k < length spots) n.modules) nets n kept.nets_are.modules inside) p q

  -- what is kept after an exchange
  pub ends_exchanged : (a b : Spot) (m o : Option ℕ) → Occupies spots a m → Occupies spots b o → (first second : List ℕ) → AreItsNets nets first m → AreItsNets nets second o → (mid after : List Ends)
      → AreRenewed nets (exchange a b spots) first ends mid → AreRenewed nets (exchange a b spots) second mid after → AreAllEnds nets (exchange a b spots) after
  ends_exchanged a b m o at_a at_b first second one two mid after r s = record {
    each = s.each ∙ r.each ∙ are.each;
    at = λ i e g. last i e g (s.at i e g);
  }
    where
      old : (i : ℕ) (e : Ends) → i < length nets → (Contains second i → ⊥) → AreEnds (exchange a b spots) (net_at nets i) e ⊎ ((Contains first i → ⊥) × (slice_get ends i ≡ Some e)) → AreEnds (exchange a b spots) (net_at nets i) e
      old i e low not_second (inl renewed) = renewed
      old i e low not_second (inr k) =
          unmoved_net spots a b kept.at_are.apart m o at_a at_b (net_at nets i) e (untouched_by m first (one.all i low) k.0) (untouched_by o second (two.all i low) not_second) (are.at i e k.1)
        where
          untouched_by : (x : Option ℕ) (numbers : List ℕ) → (touches x (net_at nets i) ≡ true → Contains numbers i) → (Contains numbers i → ⊥) → touches x (net_at nets i) ≡ false
          untouched_by x numbers all none = from (touches x (net_at nets i)) refl
            where
              from : (t : Bool) → touches x (net_at nets i) ≡ t → touches x (net_at nets i) ≡ false
              from true e = absurd (none (all e))
              from false e = e

      last : (i : ℕ) (e : Ends) → slice_get after i ≡ Some e → AreEnds (exchange a b spots) (net_at nets i) e ⊎ ((Contains second i → ⊥) × (slice_get mid i ≡ Some e)) → AreEnds (exchange a b spots) (net_at nets i) e
      last i e g (inl renewed) = renewed
      last i e g (inr k) =
          let low : i < length nets = let within = get_within after i e g in let each = s.each ∙ r.each ∙ are.each in omega (arith, within, each) in
          old i e low k.0 (r.at i e k.1)
