-- The seeded start is spots of the device, all different.
use Rattle.std.proofs.Common.{ℕ, zero, suc, ◌≡◌, ◌≢◌, ◌⊎◌, ◌+◌, ◌*◌, ◌<◌, ◌≤◌, ◌%◌, List, [], ◌∷◌, ◌++◌, length, map, take, refl, sym, ap, subst, ◌∙◌, inl, inr, arith, slice_set, get_or, Contains}
use Rattle.std.specs.Prelude.{swap, flat_map}
use Rattle.std.proofs.lemmas.Bool.{cases_eq}
use Rattle.std.proofs.lemmas.List.{length-map, length-append, length-take, length-set, get_or-take, get_or-set_same, get_or-set_other, get_or_default}
use Rattle.std.proofs.lemmas.List.Elements.{Contains-get_or}
use Rattle.rand_pcg.specs.Lcg.{Lcg}
use Rattle.rand_pcg.specs.Pcg.{pcg32}
use Rattle.act1_device.specs.declared.device.Device.{Device}
use Rattle.act1_circuit.specs.declared.circuit.Spot.{Spot}
use Rattle.act1_base.specs.Lists.{numbers}
use Rattle.act1_base.proofs.Elements.{mapped}
use Rattle.act1_base.proofs.Distinct.{Differ, differ_numbers, differ_map, differ_flat}
use Rattle.act1_place.specs.Passes.{sites, sites_of}
use Rattle.act1_place.specs.Start.{generator, shuffled, seeded_start}
use Rattle.act1_place.specs.Laws.{StartsAreSites, PlacementsSettle, PlacementsAreOne}
use Rattle.act1_place.proofs.PassLaws.{site_in, left_is_stable_law, left_is_one_law}

-- no element stands at two places
abbrev pub IsOnce : {A : Type 0} → List A → Type 0
IsOnce {A} xs = (k l : ℕ) (d : A) → k < length xs → l < length xs → get_or xs k d ≡ get_or xs l d → k ≡ l

once_from : {A : Type 0} (xs : List A) → Differ xs → IsOnce xs
once_from [] h k l d low low' e = absurd (omega arith)
once_from (x ∷ xs) h zero zero d low low' e = refl
once_from (x ∷ xs) h zero (suc l) d low low' e = absurd (h.0 (subst (λ (y : _). Contains xs y) (sym e) (Contains-get_or xs l d (omega arith))))
once_from (x ∷ xs) h (suc k) zero d low low' e = absurd (h.0 (subst (λ (y : _). Contains xs y) e (Contains-get_or xs k d (omega arith))))
once_from (x ∷ xs) h (suc k) (suc l) d low low' e = ap suc (once_from xs h.1 k l d (omega arith) (omega arith) e)

module _ {A : Type 0} (xs : List A) (i j : ℕ) (low : i < length xs) (low' : j < length xs) where
  swap_is : (d : A) → swap xs i j ≡ slice_set (slice_set xs i (get_or xs j d)) j (get_or xs i d)
  swap_is d = from xs low low'
    where
      from : (xs : List A) → i < length xs → j < length xs → swap xs i j ≡ slice_set (slice_set xs i (get_or xs j d)) j (get_or xs i d)
      from [] a b = absurd (omega arith)
      from (y ∷ ys) a b =
          ap (λ (z : A). slice_set (slice_set (y ∷ ys) i z) j (get_or (y ∷ ys) i y)) (get_or_default (y ∷ ys) j y d b)
          ∙ ap (λ (z : A). slice_set (slice_set (y ∷ ys) i (get_or (y ∷ ys) j d)) j z) (get_or_default (y ∷ ys) i y d a)

  pub length_swap : (d : A) → length (swap xs i j) ≡ length xs
  length_swap d = ap length (swap_is d) ∙ length-set (slice_set xs i (get_or xs j d)) j (get_or xs i d) ∙ length-set xs i (get_or xs j d)

  at_j : (d : A) → get_or (swap xs i j) j d ≡ get_or xs i d
  at_j d = let inside : j < length (slice_set xs i (get_or xs j d)) = omega (arith, length-set xs i (get_or xs j d), low') in ap (λ (l : List A). get_or l j d) (swap_is d) ∙ get_or-set_same (slice_set xs i (get_or xs j d)) j (get_or xs i d) d inside

  at_i : (d : A) → get_or (swap xs i j) i d ≡ get_or xs j d
  at_i d = from (cases_eq i j)
    where
      from : (i ≡ j) ⊎ (i ≡ j → ⊥) → get_or (swap xs i j) i d ≡ get_or xs j d
      from (inl e) = ap (λ (k : ℕ). get_or (swap xs i j) k d) e ∙ at_j d ∙ ap (λ (k : ℕ). get_or xs k d) e
      from (inr n) = ap (λ (l : List A). get_or l i d) (swap_is d) ∙ get_or-set_other (slice_set xs i (get_or xs j d)) j i (get_or xs i d) d n ∙ get_or-set_same xs i (get_or xs j d) d low

  elsewhere : (k : ℕ) (d : A) → k ≢ i → k ≢ j → get_or (swap xs i j) k d ≡ get_or xs k d
  elsewhere k d n m = ap (λ (l : List A). get_or l k d) (swap_is d) ∙ get_or-set_other (slice_set xs i (get_or xs j d)) j k (get_or xs i d) d m ∙ get_or-set_other xs i k (get_or xs j d) d n

  -- each place of the swapped list has an element of a place of its own
  record Stood (k : ℕ) (d : A) : Type 0 where
    place : ℕ
    within : place < length xs
    is : get_or (swap xs i j) k d ≡ get_or xs place d
    own : ((k ≡ i) × (place ≡ j)) ⊎ (((k ≡ j) × (place ≡ i)) ⊎ ((k ≢ i) × (k ≢ j) × (place ≡ k)))

  stood : (k : ℕ) (d : A) → k < length xs → Stood k d
  stood k d inside = from (cases_eq k i) (cases_eq k j)
    where
      from : (k ≡ i) ⊎ (k ≡ i → ⊥) → (k ≡ j) ⊎ (k ≡ j → ⊥) → Stood k d
      from (inl e) h = record { place = j; within = low'; is = ap (λ (k : ℕ). get_or (swap xs i j) k d) e ∙ at_i d; own = inl (e, refl) }
      from (inr n) (inl e) = record { place = i; within = low; is = ap (λ (k : ℕ). get_or (swap xs i j) k d) e ∙ at_j d; own = inr (inl (e, refl)) }
      from (inr n) (inr m) = record { place = k; within = inside; is = elsewhere k d n m; own = inr (inr (n, m, refl)) }

  pub swap_once : IsOnce xs → IsOnce (swap xs i j)
  swap_once once k l d a b e =
      let inside : k < length xs = omega (arith, a, length_swap d) in
      let inside' : l < length xs = omega (arith, b, length_swap d) in
      let s = stood k d inside in
      let t = stood l d inside' in
      same s t (once s.place t.place d s.within t.within (sym s.is ∙ e ∙ t.is)) s.own t.own
    where
      same : (s : Stood k d) (t : Stood l d) → s.place ≡ t.place → ((k ≡ i) × (s.place ≡ j)) ⊎ (((k ≡ j) × (s.place ≡ i)) ⊎ ((k ≢ i) × (k ≢ j) × (s.place ≡ k)))
          → ((l ≡ i) × (t.place ≡ j)) ⊎ (((l ≡ j) × (t.place ≡ i)) ⊎ ((l ≢ i) × (l ≢ j) × (t.place ≡ l))) → k ≡ l
      same s t e (inl h) (inl g) = h.0 ∙ sym g.0
      same s t e (inl h) (inr (inl g)) = h.0 ∙ sym g.1 ∙ sym e ∙ h.1 ∙ sym g.0
      same s t e (inl h) (inr (inr g)) = absurd (g.1 (sym g.2 ∙ sym e ∙ h.1))
      same s t e (inr (inl h)) (inl g) = h.0 ∙ sym g.1 ∙ sym e ∙ h.1 ∙ sym g.0
      same s t e (inr (inl h)) (inr (inl g)) = h.0 ∙ sym g.0
      same s t e (inr (inl h)) (inr (inr g)) = absurd (g.0 (sym g.2 ∙ sym e ∙ h.1))
      same s t e (inr (inr h)) (inl g) = absurd (h.1 (sym h.2 ∙ e ∙ g.1))
      same s t e (inr (inr h)) (inr (inl g)) = absurd (h.0 (sym h.2 ∙ e ∙ g.1))
      same s t e (inr (inr h)) (inr (inr g)) = sym h.2 ∙ e ∙ g.2

-- spots of the device, none at two places of the list
abbrev AreEach : Device → List Spot → Type 0
AreEach dev xs = IsOnce xs × ((k : ℕ) (d : Spot) → k < length xs → (((get_or xs k d).row < dev.rows) × ((get_or xs k d).column < dev.columns)))

swap_each : (dev : Device) (xs : List Spot) (i j : ℕ) → i < length xs → j < length xs → AreEach dev xs → AreEach dev (swap xs i j)
swap_each dev xs i j low low' h = (swap_once xs i j low low' h.0, λ k d inside. at k d (let n = length_swap xs i j low low' d in omega arith))
  where
    at : (k : ℕ) (d : Spot) → k < length xs → ((get_or (swap xs i j) k d).row < dev.rows) × ((get_or (swap xs i j) k d).column < dev.columns)
    at k d inside = let s = stood xs i j low low' k d inside in subst (λ (t : Spot). (t.row < dev.rows) × (t.column < dev.columns)) (sym s.is) (h.1 s.place d s.within)

shuffled_each : (dev : Device) (left : ℕ) (g : Lcg) (xs : List Spot) → left ≤ length xs → AreEach dev xs → AreEach dev (shuffled left g xs) × (length (shuffled left g xs) ≡ length xs)
unfolding shuffled
shuffled_each dev zero g xs low h = (h, refl)
shuffled_each dev (suc zero) g xs low h = (h, refl)
shuffled_each dev (suc (suc i)) g xs low h =
    let first : i + 1 < length xs = omega arith in
    let second : (pcg32 g).0 % (i + 2) < length xs = omega arith in
    let d : Spot = record { row = 0; column = 0 } in
    let count = length_swap xs (i + 1) ((pcg32 g).0 % (i + 2)) first second d in
    let rest = shuffled_each dev (suc i) (pcg32 g).1 (swap xs (i + 1) ((pcg32 g).0 % (i + 2))) (omega (arith, count)) (swap_each dev xs (i + 1) ((pcg32 g).0 % (i + 2)) first second h) in
    (rest.0, rest.1 ∙ count)

length_numbers : (first count : ℕ) → length (numbers first count) ≡ count
length_numbers first zero = refl
length_numbers first (suc count) = ap suc (length_numbers (first + 1) count)

length_rows : (columns : ℕ) (rows : List ℕ) → length (flat_map (λ row. map (λ column. let s : Spot = record { row = row; column = column } in s) (numbers 0 columns)) rows) ≡ length rows * columns
length_rows columns [] = omega arith
length_rows columns (row ∷ rows) =
    let line = map (λ column. let s : Spot = record { row = row; column = column } in s) (numbers 0 columns) in
    let rest = flat_map (λ row. map (λ column. let s : Spot = record { row = row; column = column } in s) (numbers 0 columns)) rows in
    let count : length (line ++ rest) ≡ columns + length rows * columns =
    omega (arith, length-append line rest, length-map (numbers 0 columns) (λ column. let s : Spot = record { row = row; column = column } in s), length_numbers 0 columns, length_rows columns rows) in
    count ∙ next columns (length rows)
  where
    next : (a b : ℕ) → a + b * a ≡ suc b * a
    next a b = grind arith

pub site_count : (rows columns : ℕ) → length (sites_of rows columns) ≡ rows * columns
site_count rows columns = length_rows columns (numbers 0 rows) ∙ ap (λ (n : ℕ). n * columns) (length_numbers 0 rows)

pub how_many_sites : (dev : Device) → length (sites dev) ≡ dev.rows * dev.columns
how_many_sites dev = length_rows dev.columns (numbers 0 dev.rows) ∙ ap (λ (n : ℕ). n * dev.columns) (length_numbers 0 dev.rows)

sites_differ : (dev : Device) → Differ (sites dev)
sites_differ dev = differ_flat (λ row. map (λ column. let s : Spot = record { row = row; column = column } in s) (numbers 0 dev.columns)) (numbers 0 dev.rows) each one (differ_numbers 0 dev.rows)
  where
    each : (row : ℕ) → Differ (map (λ column. let s : Spot = record { row = row; column = column } in s) (numbers 0 dev.columns))
    each row = differ_map (λ column. let s : Spot = record { row = row; column = column } in s) (numbers 0 dev.columns) (λ a b e. ap (λ (s : Spot). s.column) e) (differ_numbers 0 dev.columns)

    one : (a b : ℕ) (s : Spot) → Contains (map (λ column. let s : Spot = record { row = a; column = column } in s) (numbers 0 dev.columns)) s → Contains (map (λ column. let s : Spot = record { row = b; column = column } in s) (numbers 0 dev.columns)) s → a ≡ b
    one a b s h k =
        let r = mapped (λ column. let s : Spot = record { row = a; column = column } in s) (numbers 0 dev.columns) s h in
        let q = mapped (λ column. let s : Spot = record { row = b; column = column } in s) (numbers 0 dev.columns) s k in
        ap (λ (s : Spot). s.row) (r.2 ∙ sym q.2)

pub starts_are_sites_law : StartsAreSites
starts_are_sites_law dev c seed enough =
    let all = sites dev in
    let whole : length all ≤ length all = omega arith in
    let each = shuffled_each dev (length all) (generator seed) all whole (once_from all (sites_differ dev), λ k d low. site_in dev (get_or all k d) (Contains-get_or all k d low)) in
    let mixed = shuffled (length all) (generator seed) all in
    let count : length (take (length c.modules) mixed) ≡ length c.modules = omega (arith, length-take (length c.modules) mixed, each.1, how_many_sites dev, enough) in (
      record {
        on_device = λ k d low. let inside : k < length c.modules = omega (arith, low, count) in let here_is : k < length mixed = omega (arith, low, length-take (length c.modules) mixed) in
            subst (λ (s : Spot). (s.row < dev.rows) × (s.column < dev.columns)) (sym (get_or-take (length c.modules) mixed k d inside)) (each.0.1 k d here_is);
        apart = λ i j d less low e.
            let inside : j < length c.modules = omega (arith, low, count) in
            let before : i < length c.modules = omega (arith, inside, less) in
            let first : i < length mixed = omega (arith, low, less, length-take (length c.modules) mixed) in
            let second : j < length mixed = omega (arith, low, length-take (length c.modules) mixed) in
            let same = each.0.0 i j d first second (sym (get_or-take (length c.modules) mixed i d before) ∙ e ∙ get_or-take (length c.modules) mixed j d inside) in
            omega (arith, same, less);
      },
      count,
    )

pub placements_settle_law : PlacementsSettle
placements_settle_law dev c seed spots enough h =
    let start = starts_are_sites_law dev c seed enough in
    let left = left_is_stable_law dev c (seeded_start dev c seed) spots h in
    record { one_each = left.2 ∙ start.1; sites = left.3 start.0; stable = left.0; less = left.1 }

pub placements_are_one_law : PlacementsAreOne
placements_are_one_law dev c seed one other h k = left_is_one_law dev c (seeded_start dev c seed) one other h k
