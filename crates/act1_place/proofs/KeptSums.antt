-- Sums by what nets join.
use Rattle.std.proofs.Common.{ℕ, zero, suc, ◌≡◌, ◌≢◌, ◌⊎◌, ◌+◌, ◌-◌, ◌<◌, ◌≤◌, ◌==◌, ◌||◌, not, Bool, true, false, cond, List, [], ◌∷◌, ◌++◌, length, map, Option, Some, refl, sym, ap, subst, ◌∙◌, inl, inr, arith, slice_get, slice_set, get_or, Contains, AllPairs}
use Rattle.std.specs.Prelude.{filter, sum_by}
use Rattle.std.specs.List.{list_any}
use Rattle.std.proofs.lemmas.Bool.{eq-eqb, false≢true, cases_eq}
use Rattle.std.proofs.lemmas.List.{length-map, length-set, get_or-map, get_or-set_same, get_or-set_other, same_lists}
use Rattle.std.proofs.lemmas.List.Sums.{sum_by-cons}
use Rattle.std.proofs.lemmas.List.Filters.{sum_by-filter_both}
use Rattle.std.proofs.lemmas.List.Elements.{Contains-append_left, Contains-append_right, Contains-append_cases as append_cases}
use Rattle.std.proofs.lemmas.Option.{slice_get-get_or, get_or_from_slice_get}
use Rattle.act1_base.proofs.ListGets.{some_is, get_within}
use Rattle.act1_device.specs.declared.device.Device.{Device}
use Rattle.act1_circuit.specs.declared.circuit.Circuit.{Circuit}
use Rattle.act1_circuit.specs.declared.circuit.Source.{Source}
use Rattle.act1_circuit.specs.declared.circuit.Source.TheVariants.{Input, Module}
use Rattle.act1_circuit.specs.declared.circuit.Spot.{Spot}
use Rattle.act1_base.specs.Lists.{numbers, least_number, greatest_number}
use Rattle.act1_plan.specs.Nets.{is_same_source}
use Rattle.act1_base.proofs.Elements.{here, later, first_or_later, not_in_none, in_filter, filtered, any_of, some_of, in_map, mapped, least_is, greatest_is}
use Rattle.act1_plan.proofs.SourceFacts.{same_source_is, source_is_itself}
use Rattle.act1_place.specs.declared.net.Place.{Place}
use Rattle.act1_place.specs.Perimeter.{place_of, pad_place, End, pin_ends, output_ends, all_ends, nets_of, places_of, spread, half_perimeter, total}
use Rattle.act1_place.specs.Passes.{is_same_spot, moved, exchange}
use Rattle.act1_place.specs.declared.net.Joins.{Joins}
use Rattle.act1_place.specs.Kept.{spot_of, net_sum, kept_total, joins, users, output_places, joins_of, all_joins, KeptIsTotal, MoveIsLocal, ExchangeIsMoves, ExchangesAreMoves}
use Rattle.act1_place.proofs.PassLaws.{moved_first, moved_second, moved_other, same_spot}

-- the least and the greatest of a list are in it
least_in_list : (n : ℕ) (ns : List ℕ) → Contains (n ∷ ns) (least_number (n ∷ ns))
least_in_list n [] = here n n [] refl
least_in_list n (m ∷ ns) = from (least_in_list m ns) (smaller n (least_number (m ∷ ns)))
  where
    smaller : (a b : ℕ) → (least_number (a ∷ b ∷ []) ≡ a) ⊎ (least_number (a ∷ b ∷ []) ≡ b)
    smaller a b = by (le_cases a b)
      where
        le_cases : (a b : ℕ) → (a ≤ b) ⊎ (b ≤ a)
        le_cases a b = by_eq (cases_eq (a - b) 0)
          where
            by_eq : (a - b ≡ 0) ⊎ (a - b ≡ 0 → ⊥) → (a ≤ b) ⊎ (b ≤ a)
            by_eq (inl e) = inl (omega (arith, e))
            by_eq (inr e) = inr (omega (arith, e))

        by : (a ≤ b) ⊎ (b ≤ a) → (least_number (a ∷ b ∷ []) ≡ a) ⊎ (least_number (a ∷ b ∷ []) ≡ b)
        by (inl h) = inl (omega arith)
        by (inr h) = inr (omega arith)

    from : Contains (m ∷ ns) (least_number (m ∷ ns)) → (least_number (n ∷ least_number (m ∷ ns) ∷ []) ≡ n) ⊎ (least_number (n ∷ least_number (m ∷ ns) ∷ []) ≡ least_number (m ∷ ns)) → Contains (n ∷ m ∷ ns) (least_number (n ∷ m ∷ ns))
    from rest (inl e) = here (least_number (n ∷ m ∷ ns)) n (m ∷ ns) (sym e)
    from rest (inr e) = subst (λ (k : ℕ). Contains (n ∷ m ∷ ns) k) (sym e) (later (least_number (m ∷ ns)) n (m ∷ ns) rest)

greatest_in_list : (n : ℕ) (ns : List ℕ) → Contains (n ∷ ns) (greatest_number (n ∷ ns))
greatest_in_list n [] = let e : n ≡ greatest_number (n ∷ []) = omega arith in here (greatest_number (n ∷ [])) n [] e
greatest_in_list n (m ∷ ns) = from (greatest_in_list m ns) (cases_eq (greatest_number (m ∷ ns) - n) 0)
  where
    from : Contains (m ∷ ns) (greatest_number (m ∷ ns)) → (greatest_number (m ∷ ns) - n ≡ 0) ⊎ (greatest_number (m ∷ ns) - n ≡ 0 → ⊥) → Contains (n ∷ m ∷ ns) (greatest_number (n ∷ m ∷ ns))
    from rest (inl e) = let same : n ≡ greatest_number (n ∷ m ∷ ns) = omega (arith, e) in here (greatest_number (n ∷ m ∷ ns)) n (m ∷ ns) same
    from rest (inr e) = let same : greatest_number (m ∷ ns) ≡ greatest_number (n ∷ m ∷ ns) = omega (arith, e) in subst (λ (k : ℕ). Contains (n ∷ m ∷ ns) k) same (later (greatest_number (m ∷ ns)) n (m ∷ ns) rest)

-- lists with the same elements have the same spread
abbrev pub AmongEachOther : {A : Type 0} → List A → List A → Type 0
AmongEachOther {A} xs ys = ((x : A) → Contains xs x → Contains ys x) × ((y : A) → Contains ys y → Contains xs y)

spread_among : (ns ms : List ℕ) → AmongEachOther ns ms → spread ns ≡ spread ms
spread_among [] [] h = refl
spread_among [] (m ∷ ms) h = not_in_none m (h.1 m (here m m ms refl))
spread_among (n ∷ ns) [] h = not_in_none n (h.0 n (here n n ns refl))
spread_among (n ∷ ns) (m ∷ ms) h =
    let a = least_is (m ∷ ms) (least_number (n ∷ ns)) (h.0 (least_number (n ∷ ns)) (least_in_list n ns)) in
    let b = least_is (n ∷ ns) (least_number (m ∷ ms)) (h.1 (least_number (m ∷ ms)) (least_in_list m ms)) in
    let c = greatest_is (m ∷ ms) (greatest_number (n ∷ ns)) (h.0 (greatest_number (n ∷ ns)) (greatest_in_list n ns)) in
    let d = greatest_is (n ∷ ns) (greatest_number (m ∷ ms)) (h.1 (greatest_number (m ∷ ms)) (greatest_in_list m ms)) in
    let least : least_number (n ∷ ns) ≡ least_number (m ∷ ms) = omega (arith, a, b) in
    let greatest : greatest_number (n ∷ ns) ≡ greatest_number (m ∷ ms) = omega (arith, c, d) in
    ap (λ (g : ℕ). g - least_number (n ∷ ns)) greatest ∙ ap (λ (l : ℕ). greatest_number (m ∷ ms) - l) least

among_map : {A B : Type 0} (f : A → B) (xs ys : List A) → AmongEachOther xs ys → AmongEachOther (map f xs) (map f ys)
among_map f xs ys h = (
  λ y k. let r = mapped f xs y k in subst (λ (y : _). Contains (map f ys) y) r.2 (in_map f ys r.0 (h.0 r.0 r.1)),
  λ y k. let r = mapped f ys y k in subst (λ (y : _). Contains (map f xs) y) r.2 (in_map f xs r.0 (h.1 r.0 r.1)),
)

pub perimeter_among : (xs ys : List Place) → AmongEachOther xs ys → half_perimeter xs ≡ half_perimeter ys
perimeter_among xs ys h =
    ap (λ (n : ℕ). n + spread (map (λ (p : Place). p.y) xs)) (spread_among (map (λ (p : Place). p.x) xs) (map (λ (p : Place). p.x) ys) (among_map (λ (p : Place). p.x) xs ys h))
    ∙ ap (λ (n : ℕ). spread (map (λ (p : Place). p.x) ys) + n) (spread_among (map (λ (p : Place). p.y) xs) (map (λ (p : Place). p.y) ys) (among_map (λ (p : Place). p.y) xs ys h))

-- sums of functions that agree
pub sum_agree : {X : Type 0} (f g : X → ℕ) (xs : List X) → ((x : X) → Contains xs x → f x ≡ g x) → sum_by f xs ≡ sum_by g xs
sum_agree f g [] h = refl
sum_agree f g (x ∷ xs) h = omega (arith, sum_by-cons f x xs, sum_by-cons g x xs, h x (here x x xs refl), sum_agree f g xs (λ y k. h y (later y x xs k)))

pub sum_map : {X Y : Type 0} (f : Y → ℕ) (g : X → Y) (xs : List X) → sum_by f (map g xs) ≡ sum_by (λ x. f (g x)) xs
sum_map f g [] = refl
sum_map f g (x ∷ xs) = omega (arith, sum_by-cons f (g x) (map g xs), sum_by-cons (λ x. f (g x)) x xs, sum_map f g xs)

-- a net that doesn't join the module keeps its half perimeter
pub untouched : (spots : List Spot) (m : ℕ) (to : Spot) (ms : List ℕ) → list_any (λ k. k == m) ms ≡ false
    → map (λ k. place_of (spot_of spots k)) ms ≡ map (λ k. place_of (spot_of (slice_set spots m to) k)) ms
untouched spots m to [] e = refl
untouched spots m to (k ∷ ms) e = from (k == m) refl e (λ q. untouched spots m to ms q)
  where
    d : Spot
    d = record { row = 0; column = 0 }

    from : (b : Bool) → (k == m) ≡ b → (b || list_any (λ k. k == m) ms) ≡ false → (list_any (λ k. k == m) ms ≡ false → map (λ k. place_of (spot_of spots k)) ms ≡ map (λ k. place_of (spot_of (slice_set spots m to) k)) ms)
        → map (λ k. place_of (spot_of spots k)) (k ∷ ms) ≡ map (λ k. place_of (spot_of (slice_set spots m to) k)) (k ∷ ms)
    from true q r rest = absurd (false≢true (sym r))
    from false q r rest =
        let other : k ≢ m = λ same. false≢true (sym q ∙ eq-eqb k m same) in
        let first : spot_of spots k ≡ spot_of (slice_set spots m to) k = sym (get_or-set_other spots m k to (record { row = 0; column = 0 }) other) in
        ap (λ (s : Spot). place_of s ∷ map (λ k. place_of (spot_of spots k)) ms) first
        ∙ ap (λ (ps : List Place). place_of (spot_of (slice_set spots m to) k) ∷ ps) (rest r)

pub move_is_local_law : MoveIsLocal
move_is_local_law nets spots m to =
    let f = net_sum spots in
    let g = net_sum (slice_set spots m to) in
    let p = joins m in
    let q = λ (n : Joins). not (joins m n) in
    let a = sum_by-filter_both p q (λ n. refl) f nets in
    let b = sum_by-filter_both p q (λ n. refl) g nets in
    let same = sum_agree f g (filter q nets) (λ n h. kept n (filtered q nets n h).1) in
    omega (arith, a, b, same)
  where
    kept : (n : Joins) → not (joins m n) ≡ true → net_sum spots n ≡ net_sum (slice_set spots m to) n
    kept n e = from (joins m n) refl e
      where
        from : (b : Bool) → joins m n ≡ b → not b ≡ true → net_sum spots n ≡ net_sum (slice_set spots m to) n
        from true k e = absurd (false≢true e)
        from false k e = ap (λ (ps : List Place). half_perimeter (ps ++ n.pads)) (untouched spots m to n.modules k)

-- an exchange is one move or two
apart_at : (spots : List Spot) (i j : ℕ) (s : Spot) → AllPairs (λ (s t : Spot). s ≢ t) spots → i < j → slice_get spots i ≡ Some s → slice_get spots j ≡ Some s → ⊥
apart_at spots i j s apart less a b =
    apart i j s less (get_within spots j s b) (get_or_from_slice_get spots i s s a ∙ sym (get_or_from_slice_get spots j s s b))

module _ (spots : List Spot) (apart : AllPairs (λ (s t : Spot). s ≢ t) spots) where
  -- two places of one spot are one
  pub place_once : (i j : ℕ) (s : Spot) → slice_get spots i ≡ Some s → slice_get spots j ≡ Some s → i ≡ j
  place_once i j s a b = from (cases_eq i j) (cases_eq (i - j) 0)
    where
      from : (i ≡ j) ⊎ (i ≡ j → ⊥) → (i - j ≡ 0) ⊎ (i - j ≡ 0 → ⊥) → i ≡ j
      from (inl e) k = e
      from (inr e) (inl k) = absurd (apart_at spots i j s apart (omega (arith, e, k)) a b)
      from (inr e) (inr k) = absurd (apart_at spots j i s apart (omega (arith, e, k)) b a)

  at_place : (i : ℕ) (d : Spot) → i < length spots → slice_get spots i ≡ Some (get_or spots i d)
  at_place i d low = slice_get-get_or spots i d low

  differs : (s t : Spot) → s ≢ t → is_same_spot s t ≡ false
  differs s t n = from (is_same_spot s t) refl
    where
      from : (b : Bool) → is_same_spot s t ≡ b → is_same_spot s t ≡ false
      from true e = absurd (n (same_spot s t e))
      from false e = e

  pub moves : (a b : Spot) → ExchangeIsMoves spots a b
  moves a b = record { none = none; one = one; two = two }
    where
      none : ((k : ℕ) (s : Spot) → slice_get spots k ≡ Some s → (s ≢ a) × (s ≢ b)) → exchange a b spots ≡ spots
      none h = same_lists (exchange a b spots) spots (length-map spots (moved a b)) (λ i d within. let low : i < length spots = omega (arith, within, length-map spots (moved a b)) in
          let k = h i (get_or spots i d) (at_place i d low) in
          get_or-map (moved a b) spots i d d low ∙ moved_other a b (get_or spots i d) (differs (get_or spots i d) a k.0) (differs (get_or spots i d) b k.1))

      one : (m : ℕ) → slice_get spots m ≡ Some a → ((k : ℕ) → slice_get spots k ≢ Some b) → exchange a b spots ≡ slice_set spots m b
      one m e h = same_lists (exchange a b spots) (slice_set spots m b) (length-map spots (moved a b) ∙ sym (length-set spots m b)) at
        where
          at : (i : ℕ) (d : Spot) → i < length (exchange a b spots) → get_or (exchange a b spots) i d ≡ get_or (slice_set spots m b) i d
          at i d within = from (cases_eq i m)
            where
              low : i < length spots
              low = omega (arith, within, length-map spots (moved a b))

              from : (i ≡ m) ⊎ (i ≡ m → ⊥) → get_or (exchange a b spots) i d ≡ get_or (slice_set spots m b) i d
              from (inl same) =
                  let here_is : get_or spots i d ≡ a = some_is (get_or spots i d) a (sym (at_place i d low) ∙ ap (slice_get spots) same ∙ e) in
                  get_or-map (moved a b) spots i d d low ∙ ap (moved a b) here_is ∙ moved_first a b
                  ∙ sym (ap (λ (k : ℕ). get_or (slice_set spots m b) k d) same ∙ get_or-set_same spots m b d (get_within spots m a e))
              from (inr other) =
                  let not_a : get_or spots i d ≢ a = λ k. other (place_once i m a (at_place i d low ∙ ap (λ (s : Spot). let r : Option Spot = Some s in r) k) e) in
                  let not_b : get_or spots i d ≢ b = λ k. h i (at_place i d low ∙ ap (λ (s : Spot). let r : Option Spot = Some s in r) k) in
                  get_or-map (moved a b) spots i d d low ∙ moved_other a b (get_or spots i d) (differs (get_or spots i d) a not_a) (differs (get_or spots i d) b not_b) ∙ sym (get_or-set_other spots m i b d other)

      two : (m o : ℕ) → slice_get spots m ≡ Some a → slice_get spots o ≡ Some b → a ≢ b → exchange a b spots ≡ slice_set (slice_set spots m b) o a
      two m o e h n = same_lists (exchange a b spots) (slice_set (slice_set spots m b) o a) (length-map spots (moved a b) ∙ sym (length-set (slice_set spots m b) o a ∙ length-set spots m b)) at
        where
          apart_places : m ≢ o
          apart_places same = n (some_is a b (sym e ∙ ap (slice_get spots) same ∙ h))

          at : (i : ℕ) (d : Spot) → i < length (exchange a b spots) → get_or (exchange a b spots) i d ≡ get_or (slice_set (slice_set spots m b) o a) i d
          at i d within = from (cases_eq i o) (cases_eq i m)
            where
              low : i < length spots
              low = omega (arith, within, length-map spots (moved a b))

              from : (i ≡ o) ⊎ (i ≡ o → ⊥) → (i ≡ m) ⊎ (i ≡ m → ⊥) → get_or (exchange a b spots) i d ≡ get_or (slice_set (slice_set spots m b) o a) i d
              from (inl same) k =
                  let here_is : get_or spots i d ≡ b = some_is (get_or spots i d) b (sym (at_place i d low) ∙ ap (slice_get spots) same ∙ h) in
                  let inside : o < length (slice_set spots m b) = omega (arith, get_within spots o b h, length-set spots m b) in
                  get_or-map (moved a b) spots i d d low ∙ ap (moved a b) here_is ∙ moved_second a b
                  ∙ sym (ap (λ (k : ℕ). get_or (slice_set (slice_set spots m b) o a) k d) same ∙ get_or-set_same (slice_set spots m b) o a d inside)
              from (inr other) (inl same) =
                  let here_is : get_or spots i d ≡ a = some_is (get_or spots i d) a (sym (at_place i d low) ∙ ap (slice_get spots) same ∙ e) in
                  get_or-map (moved a b) spots i d d low ∙ ap (moved a b) here_is ∙ moved_first a b
                  ∙ sym (get_or-set_other (slice_set spots m b) o i a d other ∙ ap (λ (k : ℕ). get_or (slice_set spots m b) k d) same ∙ get_or-set_same spots m b d (get_within spots m a e))
              from (inr other) (inr also) =
                  let not_a : get_or spots i d ≢ a = λ k. also (place_once i m a (at_place i d low ∙ ap (λ (s : Spot). let r : Option Spot = Some s in r) k) e) in
                  let not_b : get_or spots i d ≢ b = λ k. other (place_once i o b (at_place i d low ∙ ap (λ (s : Spot). let r : Option Spot = Some s in r) k) h) in
                  get_or-map (moved a b) spots i d d low ∙ moved_other a b (get_or spots i d) (differs (get_or spots i d) a not_a) (differs (get_or spots i d) b not_b)
                  ∙ sym (get_or-set_other (slice_set spots m b) o i a d other ∙ get_or-set_other spots m i b d also)

pub exchanges_are_moves_law : ExchangesAreMoves
exchanges_are_moves_law spots a b apart = moves spots apart a b

-- the modules that use a net, and the ends of its pins
record IsUser (net : Source) (first : ℕ) (modules : List (List Source)) (m : ℕ) : Type 0 where
  at : ℕ
  sources : List Source
  is : slice_get modules at ≡ Some sources
  uses : Contains sources net
  number : m ≡ first + at

user_is : (net : Source) (first : ℕ) (modules : List (List Source)) (m : ℕ) → Contains (users net first modules) m → IsUser net first modules m
user_is net first [] m h = not_in_none m h
user_is net first (sources ∷ modules) m h = from (λ k. user_is net (first + 1) modules m k) (list_any (λ source. is_same_source source net) sources) refl h
  where
    more : IsUser net (first + 1) modules m → IsUser net first (sources ∷ modules) m
    more r = let e = r.number in record { at = suc r.at; sources = r.sources; is = r.is; uses = r.uses; number = omega (arith, e) }

    this : list_any (λ source. is_same_source source net) sources ≡ true → first ≡ m → IsUser net first (sources ∷ modules) m
    this e same =
        let r = some_of (λ source. is_same_source source net) sources e in
        record { at = 0; sources = sources; is = refl; uses = subst (λ (s : Source). Contains sources s) (same_source_is r.0 net r.2) r.1; number = omega (arith, same) }

    by_first : (Contains (users net (first + 1) modules) m → IsUser net (first + 1) modules m) → list_any (λ source. is_same_source source net) sources ≡ true → (first ≡ m) ⊎ Contains (users net (first + 1) modules) m → IsUser net first (sources ∷ modules) m
    by_first rec e (inl same) = this e same
    by_first rec e (inr k) = more (rec k)

    from : (Contains (users net (first + 1) modules) m → IsUser net (first + 1) modules m) → (b : Bool) → list_any (λ source. is_same_source source net) sources ≡ b
        → Contains ((cond b (first ∷ []) []) ++ users net (first + 1) modules) m → IsUser net first (sources ∷ modules) m
    from rec true e k = by_first rec e (first_or_later m first (users net (first + 1) modules) k)
    from rec false e k = more (rec k)

is_user : (net : Source) (first : ℕ) (modules : List (List Source)) (k : ℕ) (sources : List Source) → slice_get modules k ≡ Some sources → Contains sources net → Contains (users net first modules) (first + k)
is_user net first [] k sources e h = cc
is_user net first (ss ∷ modules) zero sources e h =
    let number : first ≡ first + 0 = omega arith in
    let any : list_any (λ source. is_same_source source net) ss ≡ true = any_of (λ source. is_same_source source net) ss net (subst (λ (xs : List Source). Contains xs net) (sym (some_is ss sources e)) h) (source_is_itself net) in
    rw any (here (first + 0) first (users net (first + 1) modules) number)
is_user net first (ss ∷ modules) (suc k) sources e h =
    let number : first + 1 + k ≡ first + suc k = omega arith in
    Contains-append_right (cond (list_any (λ source. is_same_source source net) ss) (first ∷ []) []) (users net (first + 1) modules) (first + suc k)
    (subst (λ (n : ℕ). Contains (users net (first + 1) modules) n) number (is_user net (first + 1) modules k sources e h))

pub record IsPinEnd (spots : List Spot) (modules : List (List Source)) (e : End) : Type 0 where
  pub at : ℕ
  pub spot : Spot
  pub sources : List Source
  pub spot_is : slice_get spots at ≡ Some spot
  pub is : slice_get modules at ≡ Some sources
  pub uses : Contains sources e.source
  pub place : e.place ≡ place_of spot

pub pin_end_is : (spots : List Spot) (modules : List (List Source)) (e : End) → Contains (pin_ends spots modules) e → IsPinEnd spots modules e
pin_end_is [] modules e h = not_in_none e h
pin_end_is (s ∷ spots) [] e h = not_in_none e h
pin_end_is (s ∷ spots) (sources ∷ modules) e h =
    from (λ k. pin_end_is spots modules e k) (append_cases (map (λ source. let e : End = record { source = source; place = place_of s } in e) sources) (pin_ends spots modules) e h)
  where
    this : (source : Source) × Contains sources source × ((let e : End = record { source = source; place = place_of s } in e) ≡ e) → IsPinEnd (s ∷ spots) (sources ∷ modules) e
    this r = record { at = 0; spot = s; sources = sources; spot_is = refl; is = refl; uses = subst (λ (x : Source). Contains sources x) (ap (λ (e : End). e.source) r.2) r.1; place = sym (ap (λ (e : End). e.place) r.2) }

    more : IsPinEnd spots modules e → IsPinEnd (s ∷ spots) (sources ∷ modules) e
    more r = record { at = suc r.at; spot = r.spot; sources = r.sources; spot_is = r.spot_is; is = r.is; uses = r.uses; place = r.place }

    from : (Contains (pin_ends spots modules) e → IsPinEnd spots modules e) → Contains (map (λ source. let e : End = record { source = source; place = place_of s } in e) sources) e ⊎ Contains (pin_ends spots modules) e → IsPinEnd (s ∷ spots) (sources ∷ modules) e
    from rec (inl k) = this (mapped (λ source. let e : End = record { source = source; place = place_of s } in e) sources e k)
    from rec (inr k) = more (rec k)

pub is_pin_end : (spots : List Spot) (modules : List (List Source)) (k : ℕ) (s : Spot) (sources : List Source) (source : Source) → slice_get spots k ≡ Some s → slice_get modules k ≡ Some sources → Contains sources source
    → Contains (pin_ends spots modules) (record { source = source; place = place_of s })
is_pin_end [] modules k s sources source a b h = cc
is_pin_end (t ∷ spots) [] k s sources source a b h = cc
is_pin_end (t ∷ spots) (ss ∷ modules) zero s sources source a b h =
    let listed = in_map (λ source. let e : End = record { source = source; place = place_of t } in e) ss source (subst (λ (xs : List Source). Contains xs source) (sym (some_is ss sources b)) h) in
    Contains-append_left (map (λ source. let e : End = record { source = source; place = place_of t } in e) ss) (pin_ends spots modules) (record { source = source; place = place_of s })
    (subst (λ (u : Spot). Contains (map (λ source. let e : End = record { source = source; place = place_of t } in e) ss) (record { source = source; place = place_of u })) (some_is t s a) listed)
is_pin_end (t ∷ spots) (ss ∷ modules) (suc k) s sources source a b h =
    Contains-append_right (map (λ source. let e : End = record { source = source; place = place_of t } in e) ss) (pin_ends spots modules) (record { source = source; place = place_of s })
    (is_pin_end spots modules k s sources source a b h)

module _ (dev : Device) (c : Circuit) (spots : List Spot) (one_each : length spots ≡ length c.modules) where
  -- the places of a net by its pins, and by its users
  abbrev pin_places : Source → List Place
  pin_places net = map (λ (e : End). e.place) (filter (λ (e : End). is_same_source e.source net) (pin_ends spots c.modules))

  abbrev user_places : Source → List Place
  user_places net = map (λ m. place_of (spot_of spots m)) (users net 0 c.modules)

  filter_both : {X : Type 0} (p : X → Bool) (xs ys : List X) → filter p (xs ++ ys) ≡ filter p xs ++ filter p ys
  filter_both p [] ys = refl
  filter_both {X} p (x ∷ xs) ys = from (p x) (filter_both p xs ys)
    where
      from : (b : Bool) → filter p (xs ++ ys) ≡ filter p xs ++ filter p ys → cond b (x ∷ filter p (xs ++ ys)) (filter p (xs ++ ys)) ≡ cond b (x ∷ filter p xs) (filter p xs) ++ filter p ys
      from true h = ap (λ (zs : List X). x ∷ zs) h
      from false h = h

  map_both : {X Y : Type 0} (f : X → Y) (xs ys : List X) → map f (xs ++ ys) ≡ map f xs ++ map f ys
  map_both f [] ys = refl
  map_both {X} {Y} f (x ∷ xs) ys = ap (λ (zs : List Y). f x ∷ zs) (map_both f xs ys)

  split : (net : Source) → map (λ (e : End). e.place) (filter (λ (e : End). is_same_source e.source net) (all_ends dev c spots)) ≡ pin_places net ++ output_places dev c net
  split net =
      ap (map (λ (e : End). e.place)) (filter_both (λ (e : End). is_same_source e.source net) (pin_ends spots c.modules) (output_ends dev (length c.inputs) c.outputs))
      ∙ map_both (λ (e : End). e.place) (filter (λ (e : End). is_same_source e.source net) (pin_ends spots c.modules)) (filter (λ (e : End). is_same_source e.source net) (output_ends dev (length c.inputs) c.outputs))

  pins_among : (net : Source) (p : Place) → Contains (pin_places net) p → Contains (user_places net) p
  pins_among net p h =
      let r = mapped (λ (e : End). e.place) (filter (λ (e : End). is_same_source e.source net) (pin_ends spots c.modules)) p h in
      let f = filtered (λ (e : End). is_same_source e.source net) (pin_ends spots c.modules) r.0 r.1 in
      let e = pin_end_is spots c.modules r.0 f.0 in
      let uses = subst (λ (s : Source). Contains e.sources s) (same_source_is r.0.source net f.1) e.uses in
      let number : 0 + e.at ≡ e.at = omega arith in
      let user = subst (λ (n : ℕ). Contains (users net 0 c.modules) n) number (is_user net 0 c.modules e.at e.sources e.is uses) in
      let spot : spot_of spots e.at ≡ e.spot = get_or_from_slice_get spots e.at e.spot (record { row = 0; column = 0 }) e.spot_is in
      subst (λ (p : Place). Contains (map (λ m. place_of (spot_of spots m)) (users net 0 c.modules)) p) (ap place_of spot ∙ sym e.place ∙ r.2) (in_map (λ m. place_of (spot_of spots m)) (users net 0 c.modules) e.at user)

  users_among : (net : Source) (p : Place) → Contains (user_places net) p → Contains (pin_places net) p
  users_among net p h =
      let r = mapped (λ m. place_of (spot_of spots m)) (users net 0 c.modules) p h in
      let u = user_is net 0 c.modules r.0 r.1 in
      let number : r.0 ≡ u.at = omega (arith, u.number) in
      let within : u.at < length spots = omega (arith, get_within c.modules u.at u.sources u.is, one_each) in
      let spot = spot_of spots u.at in
      let listed = is_pin_end spots c.modules u.at spot u.sources net (slice_get-get_or spots u.at (record { row = 0; column = 0 }) within) u.is u.uses in
      subst (λ (p : Place). Contains (map (λ (e : End). e.place) (filter (λ (e : End). is_same_source e.source net) (pin_ends spots c.modules))) p)
      (ap (λ (n : ℕ). place_of (spot_of spots n)) (sym number) ∙ r.2)
      (in_map (λ (e : End). e.place) (filter (λ (e : End). is_same_source e.source net) (pin_ends spots c.modules)) (record { source = net; place = place_of spot })
      (in_filter (λ (e : End). is_same_source e.source net) (pin_ends spots c.modules) (record { source = net; place = place_of spot }) listed (source_is_itself net)))

  input_places : (i : ℕ) → net_sum spots (joins_of dev c (Input i)) ≡ half_perimeter (places_of dev c spots (Input i))
  input_places i =
      perimeter_among (user_places (Input i) ++ pad_place dev i ∷ output_places dev c (Input i)) (pad_place dev i ∷ (pin_places (Input i) ++ output_places dev c (Input i))) (on, back)
      ∙ ap (λ (ps : List Place). half_perimeter (pad_place dev i ∷ ps)) (sym (split (Input i)))
    where
      on : (p : Place) → Contains (user_places (Input i) ++ pad_place dev i ∷ output_places dev c (Input i)) p → Contains (pad_place dev i ∷ (pin_places (Input i) ++ output_places dev c (Input i))) p
      on p h = from (append_cases (user_places (Input i)) (pad_place dev i ∷ output_places dev c (Input i)) p h)
        where
          own : (pad_place dev i ≡ p) ⊎ Contains (output_places dev c (Input i)) p → Contains (pad_place dev i ∷ (pin_places (Input i) ++ output_places dev c (Input i))) p
          own (inl e) = here p (pad_place dev i) (pin_places (Input i) ++ output_places dev c (Input i)) e
          own (inr k) = later p (pad_place dev i) (pin_places (Input i) ++ output_places dev c (Input i)) (Contains-append_right (pin_places (Input i)) (output_places dev c (Input i)) p k)

          from : Contains (user_places (Input i)) p ⊎ Contains (pad_place dev i ∷ output_places dev c (Input i)) p → Contains (pad_place dev i ∷ (pin_places (Input i) ++ output_places dev c (Input i))) p
          from (inl k) = later p (pad_place dev i) (pin_places (Input i) ++ output_places dev c (Input i)) (Contains-append_left (pin_places (Input i)) (output_places dev c (Input i)) p (users_among (Input i) p k))
          from (inr k) = own (first_or_later p (pad_place dev i) (output_places dev c (Input i)) k)

      back : (p : Place) → Contains (pad_place dev i ∷ (pin_places (Input i) ++ output_places dev c (Input i))) p → Contains (user_places (Input i) ++ pad_place dev i ∷ output_places dev c (Input i)) p
      back p h = from (first_or_later p (pad_place dev i) (pin_places (Input i) ++ output_places dev c (Input i)) h)
        where
          behind : Contains (pin_places (Input i)) p ⊎ Contains (output_places dev c (Input i)) p → Contains (user_places (Input i) ++ pad_place dev i ∷ output_places dev c (Input i)) p
          behind (inl k) = Contains-append_left (user_places (Input i)) (pad_place dev i ∷ output_places dev c (Input i)) p (pins_among (Input i) p k)
          behind (inr k) = Contains-append_right (user_places (Input i)) (pad_place dev i ∷ output_places dev c (Input i)) p (later p (pad_place dev i) (output_places dev c (Input i)) k)

          from : (pad_place dev i ≡ p) ⊎ Contains (pin_places (Input i) ++ output_places dev c (Input i)) p → Contains (user_places (Input i) ++ pad_place dev i ∷ output_places dev c (Input i)) p
          from (inl e) = Contains-append_right (user_places (Input i)) (pad_place dev i ∷ output_places dev c (Input i)) p (here p (pad_place dev i) (output_places dev c (Input i)) e)
          from (inr k) = behind (append_cases (pin_places (Input i)) (output_places dev c (Input i)) p k)

  module_places : (m : ℕ) → net_sum spots (joins_of dev c (Module m)) ≡ half_perimeter (places_of dev c spots (Module m))
  module_places m =
      perimeter_among (own ∷ (user_places (Module m) ++ output_places dev c (Module m))) (own ∷ (pin_places (Module m) ++ output_places dev c (Module m)))
      (both (user_places (Module m)) (pin_places (Module m)) (users_among (Module m)), both (pin_places (Module m)) (user_places (Module m)) (pins_among (Module m)))
      ∙ ap (λ (ps : List Place). half_perimeter (place_of (spot_of spots m) ∷ ps)) (sym (split (Module m)))
    where
      own : Place
      own = place_of (spot_of spots m)

      both : (xs ys : List Place) → ((p : Place) → Contains xs p → Contains ys p) → (p : Place) → Contains (place_of (spot_of spots m) ∷ (xs ++ output_places dev c (Module m))) p → Contains (place_of (spot_of spots m) ∷ (ys ++ output_places dev c (Module m))) p
      both xs ys on p h = from (first_or_later p (place_of (spot_of spots m)) (xs ++ output_places dev c (Module m)) h)
        where
          behind : Contains xs p ⊎ Contains (output_places dev c (Module m)) p → Contains (ys ++ output_places dev c (Module m)) p
          behind (inl k) = Contains-append_left ys (output_places dev c (Module m)) p (on p k)
          behind (inr k) = Contains-append_right ys (output_places dev c (Module m)) p k

          from : (place_of (spot_of spots m) ≡ p) ⊎ Contains (xs ++ output_places dev c (Module m)) p → Contains (place_of (spot_of spots m) ∷ (ys ++ output_places dev c (Module m))) p
          from (inl e) = here p (place_of (spot_of spots m)) (ys ++ output_places dev c (Module m)) e
          from (inr k) = later p (place_of (spot_of spots m)) (ys ++ output_places dev c (Module m)) (behind (append_cases xs (output_places dev c (Module m)) p k))

  pub kept_is_total_here : kept_total (all_joins dev c) spots ≡ total dev c spots
  kept_is_total_here = sum_map (net_sum spots) (joins_of dev c) (nets_of c) ∙ sum_agree (λ net. net_sum spots (joins_of dev c net)) (λ net. half_perimeter (places_of dev c spots net)) (nets_of c) each
    where
      each : (net : Source) → Contains (nets_of c) net → net_sum spots (joins_of dev c net) ≡ half_perimeter (places_of dev c spots net)
      each net h = from (append_cases (map Input (numbers 0 (length c.inputs))) (map Module (numbers 0 (length c.modules))) net h)
        where
          by_input : (i : ℕ) × Contains (numbers 0 (length c.inputs)) i × (Input i ≡ net) → net_sum spots (joins_of dev c net) ≡ half_perimeter (places_of dev c spots net)
          by_input r = subst (λ (n : Source). net_sum spots (joins_of dev c n) ≡ half_perimeter (places_of dev c spots n)) r.2 (input_places r.0)

          by_module : (m : ℕ) × Contains (numbers 0 (length c.modules)) m × (Module m ≡ net) → net_sum spots (joins_of dev c net) ≡ half_perimeter (places_of dev c spots net)
          by_module r = subst (λ (n : Source). net_sum spots (joins_of dev c n) ≡ half_perimeter (places_of dev c spots n)) r.2 (module_places r.0)

          from : Contains (map Input (numbers 0 (length c.inputs))) net ⊎ Contains (map Module (numbers 0 (length c.modules))) net → net_sum spots (joins_of dev c net) ≡ half_perimeter (places_of dev c spots net)
          from (inl k) = by_input (mapped Input (numbers 0 (length c.inputs)) net k)
          from (inr k) = by_module (mapped Module (numbers 0 (length c.modules)) net k)

pub kept_is_total_law : KeptIsTotal
kept_is_total_law dev c spots one_each = kept_is_total_here dev c spots one_each
