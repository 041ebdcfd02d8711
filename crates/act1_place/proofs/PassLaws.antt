-- What the passes leave is stable.
use Rattle.std.proofs.Common.{ℕ, zero, suc, ◌≡◌, ◌⊎◌, ◌+◌, ◌-◌, ◌<◌, ◌≤◌, ◌==◌, nat_lt, Bool, true, false, cond, List, [], ◌∷◌, length, map, Some, refl, sym, ap, subst, ◌∙◌, inl, inr, arith, slice_get, get_or, Contains}
use Rattle.std.specs.Prelude.{fold}
use Rattle.std.proofs.lemmas.Bool.{and_parts, eqb-true, eq-eqb, ltb-true, lt-ltb, cases_lt, cases_order}
use Rattle.std.proofs.lemmas.List.{length-map, get_or-map}
use Rattle.std.proofs.lemmas.List.Elements.{Contains-append_left, Contains-append_right, Contains-append_cases as append_cases}
use Rattle.act1_base.proofs.ListGets.{some_is, contains_at, place_of}
use Rattle.act1_device.specs.declared.device.Device.{Device}
use Rattle.act1_circuit.specs.declared.circuit.Circuit.{Circuit}
use Rattle.act1_circuit.specs.declared.circuit.Spot.{Spot}
use Rattle.act1_base.specs.Lists.{numbers}
use Rattle.act1_base.proofs.Elements.{here, later, first_or_later, not_in_none, in_map, in_flat, in_numbers, flattened, mapped, number_in}
use Rattle.act1_place.specs.Perimeter.{total}
use Rattle.act1_place.specs.Passes.{sites, is_same_spot, moved, exchange, IsStable, pairs, step, pass, passes, Leaves}
use Rattle.act1_plan.specs.Order.{AreSites}
use Rattle.act1_place.specs.Laws.{LeftIsStable, LeftIsOne, PassesEnd}

pub same_spot : (s t : Spot) → is_same_spot s t ≡ true → s ≡ t
same_spot s t e = let parts = and_parts (s.row == t.row) (s.column == t.column) e in let r = eqb-true s.row t.row parts.0 in let c = eqb-true s.column t.column parts.1 in λ i. record { row = r i; column = c i }

pub spot_itself : (s : Spot) → is_same_spot s s ≡ true
spot_itself s = rw (eq-eqb s.row s.row refl, eq-eqb s.column s.column refl) refl

-- a spot is that spot or another
pub spot_cases : (s t : Spot) → (s ≡ t) ⊎ (is_same_spot s t ≡ false)
spot_cases s t = from (is_same_spot s t) refl
  where
    from : (b : Bool) → is_same_spot s t ≡ b → (s ≡ t) ⊎ (is_same_spot s t ≡ false)
    from true e = inl (same_spot s t e)
    from false e = inr e

pub moved_first : (a b : Spot) → moved a b a ≡ b
moved_first a b = rw (spot_itself a) refl

pub moved_other : (a b s : Spot) → is_same_spot s a ≡ false → is_same_spot s b ≡ false → moved a b s ≡ s
moved_other a b s e k = rw (e, k) refl

pub moved_second : (a b : Spot) → moved a b b ≡ a
moved_second a b = from (spot_cases b a)
  where
    from : (b ≡ a) ⊎ (is_same_spot b a ≡ false) → moved a b b ≡ a
    from (inl e) = ap (moved a b) e ∙ moved_first a b ∙ e
    from (inr e) = rw (e, spot_itself b) refl

moved_same : (a s : Spot) → moved a a s ≡ s
moved_same a s = from (spot_cases s a)
  where
    from : (s ≡ a) ⊎ (is_same_spot s a ≡ false) → moved a a s ≡ s
    from (inl e) = ap (moved a a) e ∙ moved_first a a ∙ sym e
    from (inr e) = moved_other a a s e e

moved_back : (a b s : Spot) → moved b a s ≡ moved a b s
moved_back a b s = from (spot_cases s a) (spot_cases s b)
  where
    from : (s ≡ a) ⊎ (is_same_spot s a ≡ false) → (s ≡ b) ⊎ (is_same_spot s b ≡ false) → moved b a s ≡ moved a b s
    from (inl e) k = ap (moved b a) e ∙ moved_second b a ∙ sym (ap (moved a b) e ∙ moved_first a b)
    from (inr e) (inl k) = ap (moved b a) k ∙ moved_first b a ∙ sym (ap (moved a b) k ∙ moved_second a b)
    from (inr e) (inr k) = moved_other b a s k e ∙ sym (moved_other a b s e k)

pub moved_twice : (a b s : Spot) → moved a b (moved a b s) ≡ s
moved_twice a b s = from (spot_cases s a) (spot_cases s b)
  where
    from : (s ≡ a) ⊎ (is_same_spot s a ≡ false) → (s ≡ b) ⊎ (is_same_spot s b ≡ false) → moved a b (moved a b s) ≡ s
    from (inl e) k = ap (λ (t : Spot). moved a b (moved a b t)) e ∙ ap (moved a b) (moved_first a b) ∙ moved_second a b ∙ sym e
    from (inr e) (inl k) = ap (λ (t : Spot). moved a b (moved a b t)) k ∙ ap (moved a b) (moved_second a b) ∙ moved_first a b ∙ sym k
    from (inr e) (inr k) = ap (moved a b) (moved_other a b s e k) ∙ moved_other a b s e k

map_same : {A : Type 0} (f : A → A) (xs : List A) → ((x : A) → f x ≡ x) → map f xs ≡ xs
map_same f [] h = refl
map_same {A} f (x ∷ xs) h = ap (λ (y : A). y ∷ map f xs) (h x) ∙ ap (λ (ys : List A). x ∷ ys) (map_same f xs h)

map_agree : {A B : Type 0} (f g : A → B) (xs : List A) → ((x : A) → f x ≡ g x) → map f xs ≡ map g xs
map_agree f g [] h = refl
map_agree {A} {B} f g (x ∷ xs) h = ap (λ (y : B). y ∷ map f xs) (h x) ∙ ap (λ (ys : List B). g x ∷ ys) (map_agree f g xs h)

pub exchange_same : (a : Spot) (spots : List Spot) → exchange a a spots ≡ spots
exchange_same a spots = map_same (moved a a) spots (moved_same a)

pub exchange_back : (a b : Spot) (spots : List Spot) → exchange b a spots ≡ exchange a b spots
exchange_back a b spots = map_agree (moved b a) (moved a b) spots (moved_back a b)

-- sites
pub in_sites : (dev : Device) (s : Spot) → s.row < dev.rows → s.column < dev.columns → Contains (sites dev) s
in_sites dev s low left =
    in_flat (λ row. map (λ column. let s : Spot = record { row = row; column = column } in s) (numbers 0 dev.columns)) (numbers 0 dev.rows) s.row s (in_numbers 0 dev.rows s.row (omega arith) (omega arith))
    (in_map (λ column. let t : Spot = record { row = s.row; column = column } in t) (numbers 0 dev.columns) s.column (in_numbers 0 dev.columns s.column (omega arith) (omega arith)))

pub site_in : (dev : Device) (s : Spot) → Contains (sites dev) s → (s.row < dev.rows) × (s.column < dev.columns)
site_in dev s h =
    let r = flattened (λ row. map (λ column. let s : Spot = record { row = row; column = column } in s) (numbers 0 dev.columns)) (numbers 0 dev.rows) s h in
    let k = mapped (λ column. let t : Spot = record { row = r.0; column = column } in t) (numbers 0 dev.columns) s r.2 in
    let rows = number_in 0 dev.rows r.0 r.1 in
    let columns = number_in 0 dev.columns k.0 k.1 in
    let a : r.0 < dev.rows = omega (arith, rows.1) in
    let b : k.0 < dev.columns = omega (arith, columns.1) in
    (subst (λ (n : ℕ). n < dev.rows) (ap (λ (s : Spot). s.row) k.2) a, subst (λ (n : ℕ). n < dev.columns) (ap (λ (s : Spot). s.column) k.2) b)

module _ {A : Type 0} where
  later_pair : (x : A) (xs : List A) (j : ℕ) (y : A) → slice_get xs j ≡ Some y → Contains (pairs (x ∷ xs)) (x, y)
  later_pair x xs j y e = Contains-append_left (map {B = A × A} (λ y. (x, y)) xs) (pairs xs) (x, y) (in_map {X = A} {Y = A × A} (λ y. (x, y)) xs y (contains_at xs j y e))

  pub in_pairs : (xs : List A) (i j : ℕ) (x y : A) → i < j → slice_get xs i ≡ Some x → slice_get xs j ≡ Some y → Contains (pairs xs) (x, y)
  in_pairs [] i j x y less a b = cc
  in_pairs (z ∷ xs) zero zero x y less a b = absurd (omega arith)
  in_pairs (z ∷ xs) zero (suc j) x y less a b = subst (λ (z : A). Contains (pairs (z ∷ xs)) (x, y)) (sym (some_is z x a)) (later_pair x xs j y b)
  in_pairs (z ∷ xs) (suc i) zero x y less a b = absurd (omega arith)
  in_pairs (z ∷ xs) (suc i) (suc j) x y less a b = Contains-append_right (map {B = A × A} (λ y. (z, y)) xs) (pairs xs) (x, y) (in_pairs xs i j x y (omega arith) a b)

module _ (dev : Device) (c : Circuit) where
  -- a step doesn't raise the sum, and lessens it where it changes anything
  pub step_cases : (spots : List Spot) (p : Spot × Spot)
      → ((step dev c spots p ≡ exchange p.0 p.1 spots) × (total dev c (exchange p.0 p.1 spots) < total dev c spots)) ⊎ ((step dev c spots p ≡ spots) × (total dev c spots ≤ total dev c (exchange p.0 p.1 spots)))
  step_cases spots p = from (cases_lt (total dev c (exchange p.0 p.1 spots)) (total dev c spots))
    where
      from : (total dev c (exchange p.0 p.1 spots) < total dev c spots) ⊎ (total dev c spots ≤ total dev c (exchange p.0 p.1 spots))
          → ((step dev c spots p ≡ exchange p.0 p.1 spots) × (total dev c (exchange p.0 p.1 spots) < total dev c spots)) ⊎ ((step dev c spots p ≡ spots) × (total dev c spots ≤ total dev c (exchange p.0 p.1 spots)))
      from (inl less) = inl (rw (lt-ltb (total dev c (exchange p.0 p.1 spots)) (total dev c spots) less) refl, less)
      from (inr more) = inr (by (nat_lt (total dev c (exchange p.0 p.1 spots)) (total dev c spots)) refl, more)
        where
          by : (b : Bool) → nat_lt (total dev c (exchange p.0 p.1 spots)) (total dev c spots) ≡ b → cond b (exchange p.0 p.1 spots) spots ≡ spots
          by true e = let less = ltb-true (total dev c (exchange p.0 p.1 spots)) (total dev c spots) e in absurd (omega arith)
          by false e = refl

  pub fold_less : (ps : List (Spot × Spot)) (spots : List Spot) → total dev c (fold (step dev c) spots ps) ≤ total dev c spots
  fold_less [] spots = omega arith
  fold_less (p ∷ ps) spots = let rest = fold_less ps (step dev c spots p) in from (step_cases spots p) rest
    where
      from : ((step dev c spots p ≡ exchange p.0 p.1 spots) × (total dev c (exchange p.0 p.1 spots) < total dev c spots)) ⊎ ((step dev c spots p ≡ spots) × (total dev c spots ≤ total dev c (exchange p.0 p.1 spots)))
          → total dev c (fold (step dev c) (step dev c spots p) ps) ≤ total dev c (step dev c spots p) → total dev c (fold (step dev c) (step dev c spots p) ps) ≤ total dev c spots
      from (inl h) rest = omega (arith, h.1, rest, ap (total dev c) h.0)
      from (inr h) rest = omega (arith, rest, ap (total dev c) h.0)

  -- where the steps leave the spots, each of them made no exchange; and if they change anything the sum is less
  pub fold_cases : (ps : List (Spot × Spot)) (spots : List Spot) → ((p : Spot × Spot) → Contains ps p → total dev c spots ≤ total dev c (exchange p.0 p.1 spots)) × (fold (step dev c) spots ps ≡ spots)
      ⊎ (total dev c (fold (step dev c) spots ps) < total dev c spots)
  fold_cases [] spots = inl (λ p h. not_in_none p h, refl)
  fold_cases (q ∷ ps) spots = from (step_cases spots q) (fold_cases ps spots)
    where
      from : ((step dev c spots q ≡ exchange q.0 q.1 spots) × (total dev c (exchange q.0 q.1 spots) < total dev c spots)) ⊎ ((step dev c spots q ≡ spots) × (total dev c spots ≤ total dev c (exchange q.0 q.1 spots)))
          → (((p : Spot × Spot) → Contains ps p → total dev c spots ≤ total dev c (exchange p.0 p.1 spots)) × (fold (step dev c) spots ps ≡ spots)) ⊎ (total dev c (fold (step dev c) spots ps) < total dev c spots)
          → (((p : Spot × Spot) → Contains (q ∷ ps) p → total dev c spots ≤ total dev c (exchange p.0 p.1 spots)) × (fold (step dev c) spots (q ∷ ps) ≡ spots)) ⊎ (total dev c (fold (step dev c) spots (q ∷ ps)) < total dev c spots)
      from (inl h) rest = let less = fold_less ps (step dev c spots q) in inr (omega (arith, h.1, less, ap (total dev c) h.0))
      from (inr h) (inl k) = inl (λ p m. at p (first_or_later p q ps m), ap (λ (s : List Spot). fold (step dev c) s ps) h.0 ∙ k.1)
        where
          at : (p : Spot × Spot) → (q ≡ p) ⊎ Contains ps p → total dev c spots ≤ total dev c (exchange p.0 p.1 spots)
          at p (inl same) = subst (λ (p : Spot × Spot). total dev c spots ≤ total dev c (exchange p.0 p.1 spots)) same h.1
          at p (inr m) = k.0 p m
      from (inr h) (inr k) = inr (omega (arith, k, ap (λ (s : List Spot). total dev c (fold (step dev c) s ps)) h.0))

  pub last_is_stable : (spots : List Spot) → pass dev c spots ≡ spots → IsStable dev c spots
  last_is_stable spots e a b a_row a_column b_row b_column = from (fold_cases (pairs (sites dev)) spots)
    where
      at : ((p : Spot × Spot) → Contains (pairs (sites dev)) p → total dev c spots ≤ total dev c (exchange p.0 p.1 spots)) → (i : ℕ) × (slice_get (sites dev) i ≡ Some a) → (j : ℕ) × (slice_get (sites dev) j ≡ Some b)
          → total dev c spots ≤ total dev c (exchange a b spots)
      at all p q = by (cases_order p.0 q.0)
        where
          by : (p.0 ≡ q.0) ⊎ ((p.0 < q.0) ⊎ (q.0 < p.0)) → total dev c spots ≤ total dev c (exchange a b spots)
          by (inl same) =
              let one : a ≡ b = some_is a b (sym p.1 ∙ ap (slice_get (sites dev)) same ∙ q.1) in
              let none : exchange a b spots ≡ spots = ap (λ (b : Spot). exchange a b spots) (sym one) ∙ exchange_same a spots in
              omega (arith, ap (total dev c) none)
          by (inr (inl less)) = all (a, b) (in_pairs (sites dev) p.0 q.0 a b less p.1 q.1)
          by (inr (inr less)) = let h = all (b, a) (in_pairs (sites dev) q.0 p.0 b a less q.1 p.1) in omega (arith, h, ap (total dev c) (exchange_back a b spots))

      from : (((p : Spot × Spot) → Contains (pairs (sites dev)) p → total dev c spots ≤ total dev c (exchange p.0 p.1 spots)) × (fold (step dev c) spots (pairs (sites dev)) ≡ spots)) ⊎ (total dev c (fold (step dev c) spots (pairs (sites dev))) < total dev c spots)
          → total dev c spots ≤ total dev c (exchange a b spots)
      from (inl h) = at h.0 (place_of (sites dev) a (in_sites dev a a_row a_column)) (place_of (sites dev) b (in_sites dev b b_row b_column))
      from (inr h) = absurd (omega (arith, h, ap (total dev c) e))

  pub passes_less : (n : ℕ) (start : List Spot) → total dev c (passes dev c n start) ≤ total dev c start
  passes_less zero start = omega arith
  passes_less (suc n) start = let rest = passes_less n start in let one = fold_less (pairs (sites dev)) (passes dev c n start) in omega (arith, one, rest)

  -- what an exchange keeps, the passes keep
  module _ (P : List Spot → Type 0) (kept : (a b : Spot) (spots : List Spot) → Contains (sites dev) a → Contains (sites dev) b → P spots → P (exchange a b spots)) where
    fold_keeps : (ps : List (Spot × Spot)) (spots : List Spot) → ((p : Spot × Spot) → Contains ps p → Contains (sites dev) p.0 × Contains (sites dev) p.1) → P spots → P (fold (step dev c) spots ps)
    fold_keeps [] spots on h = h
    fold_keeps (p ∷ ps) spots on h = fold_keeps ps (step dev c spots p) (λ q m. on q (later q p ps m)) (from (step_cases spots p))
      where
        from : ((step dev c spots p ≡ exchange p.0 p.1 spots) × (total dev c (exchange p.0 p.1 spots) < total dev c spots)) ⊎ ((step dev c spots p ≡ spots) × (total dev c spots ≤ total dev c (exchange p.0 p.1 spots))) → P (step dev c spots p)
        from (inl k) = let o = on p (here p p ps refl) in subst P (sym k.0) (kept p.0 p.1 spots o.0 o.1 h)
        from (inr k) = subst P (sym k.0) h

    pub passes_keep : (n : ℕ) (start : List Spot) → ((p : Spot × Spot) → Contains (pairs (sites dev)) p → Contains (sites dev) p.0 × Contains (sites dev) p.1) → P start → P (passes dev c n start)
    passes_keep zero start on h = h
    passes_keep (suc n) start on h = fold_keeps (pairs (sites dev)) (passes dev c n start) on (passes_keep n start on h)

  fixed_stays : (n k : ℕ) (start : List Spot) → pass dev c (passes dev c n start) ≡ passes dev c n start → passes dev c (n + k) start ≡ passes dev c n start
  fixed_stays n zero start e = let number : n + 0 ≡ n = omega arith in ap (λ (m : ℕ). passes dev c m start) number
  fixed_stays n (suc k) start e = let number : n + suc k ≡ suc (n + k) = omega arith in ap (λ (m : ℕ). passes dev c m start) number ∙ ap (pass dev c) (fixed_stays n k start e) ∙ e

  one_left : (start a b : List Spot) → (h : Leaves dev c start a) → (k : Leaves dev c start b) → h.count ≤ k.count → a ≡ b
  one_left start a b h k low =
      let n = k.count - h.count in
      let number : h.count + n ≡ k.count = omega arith in
      let fixed : pass dev c (passes dev c h.count start) ≡ passes dev c h.count start = ap (pass dev c) (sym h.after) ∙ h.last ∙ h.after in
      h.after ∙ sym (fixed_stays h.count n start fixed) ∙ ap (λ (m : ℕ). passes dev c m start) number ∙ sym k.after

  pub left_once : (start a b : List Spot) → Leaves dev c start a → Leaves dev c start b → a ≡ b
  left_once start a b h k = from (cases_lt h.count k.count)
    where
      from : (h.count < k.count) ⊎ (k.count ≤ h.count) → a ≡ b
      from (inl less) = one_left start a b h k (omega arith)
      from (inr more) = sym (one_left start b a k h more)

-- an exchange keeps spots of the device that are all different
pub pairs_in : {A : Type 0} (xs : List A) (p : A × A) → Contains (pairs xs) p → Contains xs p.0 × Contains xs p.1
pairs_in [] p h = not_in_none p h
pairs_in {A} (x ∷ xs) p h = from (λ k. pairs_in xs p k) (append_cases (map {B = A × A} (λ y. (x, y)) xs) (pairs xs) p h)
  where
    with_first : (y : A) × Contains xs y × ((x, y) ≡ p) → Contains (x ∷ xs) p.0 × Contains (x ∷ xs) p.1
    with_first r = (here p.0 x xs (ap (λ (q : A × A). q.0) r.2), later p.1 x xs (subst (λ (z : A). Contains xs z) (ap (λ (q : A × A). q.1) r.2) r.1))

    more : Contains xs p.0 × Contains xs p.1 → Contains (x ∷ xs) p.0 × Contains (x ∷ xs) p.1
    more r = (later p.0 x xs r.0, later p.1 x xs r.1)

    from : (Contains (pairs xs) p → Contains xs p.0 × Contains xs p.1) → Contains (map {B = A × A} (λ y. (x, y)) xs) p ⊎ Contains (pairs xs) p → Contains (x ∷ xs) p.0 × Contains (x ∷ xs) p.1
    from rec (inl k) = with_first (mapped {X = A} {Y = A × A} (λ y. (x, y)) xs p k)
    from rec (inr k) = more (rec k)

moved_on : (dev : Device) (a b s : Spot) → Contains (sites dev) a → Contains (sites dev) b → (s.row < dev.rows) × (s.column < dev.columns) → ((moved a b s).row < dev.rows) × ((moved a b s).column < dev.columns)
moved_on dev a b s h k on = from (spot_cases s a) (spot_cases s b)
  where
    at : (t : Spot) → moved a b s ≡ t → (t.row < dev.rows) × (t.column < dev.columns) → ((moved a b s).row < dev.rows) × ((moved a b s).column < dev.columns)
    at t e o = subst (λ (u : Spot). (u.row < dev.rows) × (u.column < dev.columns)) (sym e) o

    from : (s ≡ a) ⊎ (is_same_spot s a ≡ false) → (s ≡ b) ⊎ (is_same_spot s b ≡ false) → ((moved a b s).row < dev.rows) × ((moved a b s).column < dev.columns)
    from (inl e) m = at b (ap (moved a b) e ∙ moved_first a b) (site_in dev b k)
    from (inr e) (inl m) = at a (ap (moved a b) m ∙ moved_second a b) (site_in dev a h)
    from (inr e) (inr m) = at s (moved_other a b s e m) on

exchange_on : (dev : Device) (a b : Spot) (spots : List Spot) → Contains (sites dev) a → Contains (sites dev) b → AreSites dev spots → AreSites dev (exchange a b spots)
exchange_on dev a b spots h k all = record {
  on_device = λ i d within. let low : i < length spots = omega (arith, within, length-map spots (moved a b)) in
      subst (λ (s : Spot). (s.row < dev.rows) × (s.column < dev.columns)) (sym (get_or-map (moved a b) spots i d d low)) (moved_on dev a b (get_or spots i d) h k (all.on_device i d low));
  apart = λ i j d less within e. let high : j < length spots = omega (arith, within, length-map spots (moved a b)) in let low : i < length spots = omega arith in
      all.apart i j d less high (one_of (get_or spots i d) (get_or spots j d) (sym (get_or-map (moved a b) spots i d d low) ∙ e ∙ get_or-map (moved a b) spots j d d high));
}
  where
    one_of : (s t : Spot) → moved a b s ≡ moved a b t → s ≡ t
    one_of s t e = sym (moved_twice a b s) ∙ ap (moved a b) e ∙ moved_twice a b t

pub left_is_stable_law : LeftIsStable
left_is_stable_law dev c start spots h =
    let less = passes_less dev c h.count start in (
      last_is_stable dev c spots h.last,
      omega (arith, less, ap (total dev c) h.after),
      passes_keep_length ∙ refl,
      λ all. subst (AreSites dev) (sym h.after) (passes_keep dev c (AreSites dev) (exchange_on dev) h.count start (pairs_in (sites dev)) all),
    )
  where
    passes_keep_length : length spots ≡ length start
    passes_keep_length = ap length h.after ∙ passes_keep dev c (λ s. length s ≡ length start) (λ a b s x y e. length-map s (moved a b) ∙ e) h.count start (pairs_in (sites dev)) refl

pub left_is_one_law : LeftIsOne
left_is_one_law dev c start one other h k = left_once dev c start one other h k

pub passes_end_law : PassesEnd
passes_end_law dev c spots changes = from (fold_cases dev c (pairs (sites dev)) spots)
  where
    from : (((p : Spot × Spot) → Contains (pairs (sites dev)) p → total dev c spots ≤ total dev c (exchange p.0 p.1 spots)) × (fold (step dev c) spots (pairs (sites dev)) ≡ spots)) ⊎ (total dev c (fold (step dev c) spots (pairs (sites dev))) < total dev c spots)
        → total dev c (pass dev c spots) < total dev c spots
    from (inl h) = absurd (changes h.1)
    from (inr h) = h
