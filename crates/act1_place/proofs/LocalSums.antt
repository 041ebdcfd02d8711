-- An exchange changes the sum by the nets that join a module of the two sites.
use Rattle.std.proofs.Common.{ℕ, ◌≡◌, ◌≢◌, ◌⊎◌, ◌+◌, ◌<◌, ◌≤◌, ◌==◌, ◌||◌, not, Bool, true, false, cond, List, [], ◌∷◌, ◌++◌, length, map, Option, Some, None, refl, sym, ap, ◌∙◌, inl, inr, arith, slice_get, AllPairs}
use Rattle.std.specs.Prelude.{filter, sum_by}
use Rattle.std.specs.List.{list_any}
use Rattle.std.proofs.lemmas.Bool.{eq-eqb, false≢true, cases_lt, or_parts}
use Rattle.std.proofs.lemmas.List.{length-map, get_or-map, get_or_past}
use Rattle.std.proofs.lemmas.List.Sums.{sum_by-cons}
use Rattle.std.proofs.lemmas.Option.{slice_get-get_or}
use Rattle.act1_circuit.specs.declared.circuit.Spot.{Spot}
use Rattle.act1_place.specs.declared.net.Place.{Place}
use Rattle.act1_place.specs.declared.net.Joins.{Joins}
use Rattle.act1_place.specs.Perimeter.{place_of, half_perimeter}
use Rattle.act1_place.specs.Passes.{is_same_spot, moved, exchange}
use Rattle.act1_place.specs.Kept.{spot_of, net_sum, kept_total, Occupies, touches, touched_sum, ExchangeIsLocal}
use Rattle.act1_place.proofs.PassLaws.{same_spot, moved_other}
use Rattle.act1_place.proofs.KeptSums.{place_once}

-- sums of functions that agree where a test fails
sum_changes : {X : Type 0} (f g : X → ℕ) (p : X → Bool) (xs : List X) → ((x : X) → p x ≡ false → f x ≡ g x) → sum_by f xs + sum_by g (filter p xs) ≡ sum_by g xs + sum_by f (filter p xs)
sum_changes f g p [] h = refl
sum_changes {X} f g p (x ∷ xs) h = from (p x) refl (sum_changes f g p xs h)
  where
    from : (b : Bool) → p x ≡ b → sum_by f xs + sum_by g (filter p xs) ≡ sum_by g xs + sum_by f (filter p xs)
        → sum_by f (x ∷ xs) + sum_by g (cond b (x ∷ filter p xs) (filter p xs)) ≡ sum_by g (x ∷ xs) + sum_by f (cond b (x ∷ filter p xs) (filter p xs))
    from true e rest = omega (arith, rest, sum_by-cons f x xs, sum_by-cons g x xs, sum_by-cons f x (filter p xs), sum_by-cons g x (filter p xs))
    from false e rest = omega (arith, rest, sum_by-cons f x xs, sum_by-cons g x xs, h x e)

-- the sum over what passes one of two tests
sum_union : {X : Type 0} (f : X → ℕ) (p q : X → Bool) (xs : List X) → sum_by f (filter (λ x. p x || q x) xs) ≡ sum_by f (filter p xs) + sum_by f (filter (λ x. not (p x)) (filter q xs))
sum_union f p q [] = refl
sum_union {X} f p q (x ∷ xs) = from (p x) (q x) refl refl (sum_union f p q xs)
  where
    from : (a b : Bool) → p x ≡ a → q x ≡ b → sum_by f (filter (λ x. p x || q x) xs) ≡ sum_by f (filter p xs) + sum_by f (filter (λ x. not (p x)) (filter q xs))
        → sum_by f (cond (a || b) (x ∷ filter (λ x. p x || q x) xs) (filter (λ x. p x || q x) xs)) ≡ sum_by f (cond a (x ∷ filter p xs) (filter p xs)) + sum_by f (filter (λ x. not (p x)) (cond b (x ∷ filter q xs) (filter q xs)))
    from true true e k rest = rw e (omega (arith, rest, sum_by-cons f x (filter (λ x. p x || q x) xs), sum_by-cons f x (filter p xs)))
    from true false e k rest = omega (arith, rest, sum_by-cons f x (filter (λ x. p x || q x) xs), sum_by-cons f x (filter p xs))
    from false true e k rest = rw e (omega (arith, rest, sum_by-cons f x (filter (λ x. p x || q x) xs), sum_by-cons f x (filter (λ x. not (p x)) (filter q xs))))
    from false false e k rest = rest

module _ (spots : List Spot) (a b : Spot) (m o : Option ℕ) (apart : AllPairs (λ (s t : Spot). s ≢ t) spots) (at_a : Occupies spots a m) (at_b : Occupies spots b o) where
  -- a module that isn't one of the two stands at neither site
  stands_elsewhere : (s : Spot) (x : Option ℕ) → Occupies spots s x → (k : ℕ) → k < length spots → ((y : ℕ) → x ≡ Some y → k ≢ y) → is_same_spot (spot_of spots k) s ≡ false
  stands_elsewhere s x at k low other = from (is_same_spot (spot_of spots k) s) refl
    where
      here : slice_get spots k ≡ Some (spot_of spots k)
      here = slice_get-get_or spots k (record { row = 0; column = 0 }) low

      never : {A : Type 0} → spot_of spots k ≡ s → (x : Option ℕ) → Occupies spots s x → ((y : ℕ) → x ≡ Some y → k ≢ y) → A
      never e None at other = absurd (at k (here ∙ ap (λ (t : Spot). let r : Option Spot = Some t in r) e))
      never e (Some y) at other = absurd (other y refl (place_once spots apart k y s (here ∙ ap (λ (t : Spot). let r : Option Spot = Some t in r) e) at))

      from : (c : Bool) → is_same_spot (spot_of spots k) s ≡ c → is_same_spot (spot_of spots k) s ≡ false
      from true e = never (same_spot (spot_of spots k) s e) x at other
      from false e = e

  stays : (k : ℕ) → ((y : ℕ) → m ≡ Some y → k ≢ y) → ((y : ℕ) → o ≡ Some y → k ≢ y) → spot_of (exchange a b spots) k ≡ spot_of spots k
  stays k not_m not_o = from (cases_lt k (length spots))
    where
      d : Spot
      d = record { row = 0; column = 0 }

      from : (k < length spots) ⊎ (length spots ≤ k) → spot_of (exchange a b spots) k ≡ spot_of spots k
      from (inl low) =
          get_or-map (moved a b) spots k (record { row = 0; column = 0 }) (record { row = 0; column = 0 }) low
          ∙ moved_other a b (spot_of spots k) (stands_elsewhere a m at_a k low not_m) (stands_elsewhere b o at_b k low not_o)
      from (inr high) =
          get_or_past (exchange a b spots) k (record { row = 0; column = 0 }) (omega (arith, length-map spots (moved a b), high))
          ∙ sym (get_or_past spots k (record { row = 0; column = 0 }) high)

  not_joined : (x : Option ℕ) (k : ℕ) (ms : List ℕ) (ps : List Place) → touches x (record { modules = k ∷ ms; pads = ps }) ≡ false → ((y : ℕ) → x ≡ Some y → k ≢ y) × (touches x (record { modules = ms; pads = ps }) ≡ false)
  not_joined None k ms ps e = (λ y h. cc, refl)
  not_joined (Some z) k ms ps e =
      let parts = or_parts (k == z) (list_any (λ k. k == z) ms) e in
      (λ y h same. let z_is : z ≡ y = cc in false≢true (sym parts.0 ∙ eq-eqb k z (same ∙ sym z_is)), parts.1)

  same_places : (ms : List ℕ) (ps : List Place) → touches m (record { modules = ms; pads = ps }) ≡ false → touches o (record { modules = ms; pads = ps }) ≡ false
      → map (λ k. place_of (spot_of spots k)) ms ≡ map (λ k. place_of (spot_of (exchange a b spots) k)) ms
  same_places [] ps e h = refl
  same_places (k ∷ ms) ps e h =
      let x = not_joined m k ms ps e in
      let y = not_joined o k ms ps h in
      ap (λ (s : Spot). place_of s ∷ map (λ k. place_of (spot_of spots k)) ms) (sym (stays k x.0 y.0)) ∙ ap (λ (qs : List Place). place_of (spot_of (exchange a b spots) k) ∷ qs) (same_places ms ps x.1 y.1)

  pub same_each : {X : Type 0} (f : ℕ → Spot → X) (ms : List ℕ) (ps : List Place) → touches m (record { modules = ms; pads = ps }) ≡ false → touches o (record { modules = ms; pads = ps }) ≡ false
      → map (λ k. f k (spot_of spots k)) ms ≡ map (λ k. f k (spot_of (exchange a b spots) k)) ms
  same_each f [] ps e h = refl
  same_each f (k ∷ ms) ps e h =
      let x = not_joined m k ms ps e in
      let y = not_joined o k ms ps h in
      let same = stays k x.0 y.0 in
      let rest = same_each f ms ps x.1 y.1 in
      λ i. f k (sym same i) ∷ rest i

  pub kept_sum : (n : Joins) → (touches m n || touches o n) ≡ false → net_sum spots n ≡ net_sum (exchange a b spots) n
  kept_sum n e = let parts = or_parts (touches m n) (touches o n) e in ap (λ (qs : List Place). half_perimeter (qs ++ n.pads)) (same_places n.modules n.pads parts.0 parts.1)

  pub local : (nets : List Joins) → kept_total nets spots + touched_sum (net_sum (exchange a b spots)) m o nets ≡ kept_total nets (exchange a b spots) + touched_sum (net_sum spots) m o nets
  local nets =
      omega (
        arith,
        sum_changes (net_sum spots) (net_sum (exchange a b spots)) (λ n. touches m n || touches o n) nets kept_sum,
        sum_union (net_sum spots) (touches m) (touches o) nets,
        sum_union (net_sum (exchange a b spots)) (touches m) (touches o) nets,
      )

pub exchange_is_local_law : ExchangeIsLocal
exchange_is_local_law nets spots a b m o apart at_a at_b = local spots a b m o apart at_a at_b nets
