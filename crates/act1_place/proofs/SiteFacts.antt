-- Which module stands at a site, before and after an exchange.
use Rattle.std.proofs.Common.{ℕ, zero, suc, ◌≡◌, ◌≢◌, ◌⊎◌, ◌+◌, ◌*◌, ◌<◌, ◌≤◌, Bool, true, false, List, [], ◌∷◌, length, take, get_or, Option, Some, None, refl, sym, ap, subst, ◌∙◌, inl, inr, arith}
use Rattle.std.specs.Prelude.{slice_get, slice_set, All, AllPairs}
use Rattle.std.proofs.lemmas.Bool.{cases_order, cases_eq, cases_lt}
use Rattle.std.proofs.Math.Seq.{take-nil}
use Rattle.std.proofs.lemmas.List.{length-map, length-set, length-take, take_all}
use Rattle.std.proofs.lemmas.Option.{get_or_from_slice_get, slice_get-get_or}
use Rattle.act1_base.proofs.ListGets.{some_is, get_within, get_map, get_mapped}
use Rattle.act1_circuit.specs.declared.circuit.Spot.{Spot}
use Rattle.act1_place.specs.Gains.{IsInside, AreAt, AreNets, AreTouching, IsKept, put}
use Rattle.act1_place.specs.declared.net.Joins.{Joins}
use Rattle.act1_place.specs.Kept.{Occupies}
use Rattle.act1_place.specs.Passes.{is_same_spot, moved, exchange}
use Rattle.act1_place.proofs.KeptSums.{moves, place_once}
use Rattle.act1_place.proofs.PassLaws.{same_spot, spot_itself, spot_cases, moved_first, moved_second, moved_other, moved_twice, exchange_same, exchange_back}

-- the number of a site in rows of so many columns
abbrev pub site_number : ℕ → Spot → ℕ
site_number columns s = s.row * columns + s.column

rows_apart : (r q c k l : ℕ) → r < q → k < c → r * c + k < q * c + l
rows_apart r q c k l less low =
    let step : suc r * c ≤ q * c = mul_mono (suc r) q c (omega (arith, less)) in
    let one : suc r * c ≡ r * c + c = grind arith in
    omega (arith, step, one, low)
  where
    mul_mono : (a b c : ℕ) → a ≤ b → a * c ≤ b * c
    mul_mono a b c h = grind arith

pub number_once : (rows columns : ℕ) (s t : Spot) → IsInside rows columns s → IsInside rows columns t → site_number columns s ≡ site_number columns t → s ≡ t
number_once rows columns s t h k e = by (cases_order s.row t.row)
  where
    by : (s.row ≡ t.row) ⊎ ((s.row < t.row) ⊎ (t.row < s.row)) → s ≡ t
    by (inl same) =
        let rows_same : s.row * columns ≡ t.row * columns = ap (λ (r : ℕ). r * columns) same in
        let column : s.column ≡ t.column = omega (arith, e, rows_same) in
        λ i. record { row = same i; column = column i }
    by (inr (inl less)) = let low = rows_apart s.row t.row columns s.column t.column less h.1 in absurd (omega (arith, low, e))
    by (inr (inr less)) = let low = rows_apart t.row s.row columns t.column s.column less k.1 in absurd (omega (arith, low, e))

pub number_below : (rows columns : ℕ) (s : Spot) → IsInside rows columns s → site_number columns s < rows * columns
number_below rows columns s h = let low = rows_apart s.row rows columns s.column 0 h.0 h.1 in omega (arith, low)

-- what stands at a site stands at the other site after the exchange
pub occupies_moved : (spots : List Spot) (a b s : Spot) (x : Option ℕ) → Occupies spots s x → Occupies (exchange a b spots) (moved a b s) x
occupies_moved spots a b s (Some m) h = get_map (moved a b) spots m s h
occupies_moved spots a b s None h = λ k e.
    let t = get_mapped (moved a b) spots k (moved a b s) e in
    let same : t.0 ≡ s = sym (moved_twice a b t.0) ∙ ap (moved a b) t.2 ∙ moved_twice a b s in
    h k (t.1 ∙ ap (λ (u : Spot). Some u) same)

pub get_set : {A : Type 0} (xs : List A) (i : ℕ) (x : A) → i < length xs → slice_get (slice_set xs i x) i ≡ Some x
get_set [] i x h = absurd (omega (arith, h))
get_set (y ∷ xs) zero x h = refl
get_set (y ∷ xs) (suc i) x h = get_set xs i x (omega (arith, h))

pub get_unset : {A : Type 0} (xs : List A) (i j : ℕ) (x : A) → i ≢ j → slice_get (slice_set xs i x) j ≡ slice_get xs j
get_unset [] i j x h = refl
get_unset (y ∷ xs) zero zero x h = absurd (h refl)
get_unset (y ∷ xs) zero (suc j) x h = refl
get_unset (y ∷ xs) (suc i) zero x h = refl
get_unset (y ∷ xs) (suc i) (suc j) x h = get_unset xs i j x (λ e. h (ap suc e))

abbrev Found : Type 0
Found = Option ℕ

module _ (rows columns : ℕ) (spots : List Spot) (at : List Found) (are : AreAt rows columns spots at) (a b : Spot) (in_a : IsInside rows columns a) (in_b : IsInside rows columns b) (m o : Found) (at_a : Occupies spots a m) (at_b : Occupies spots b o) where
  abbrev after : List Found
  after = slice_set (slice_set at (site_number columns a) o) (site_number columns b) m

  count : length after ≡ rows * columns
  count = length-set (slice_set at (site_number columns a) o) (site_number columns b) m ∙ length-set at (site_number columns a) o ∙ are.count

  low_a : site_number columns a < length at
  low_a = let low = number_below rows columns a in_a in omega (arith, low, are.count)

  low_b : site_number columns b < length (slice_set at (site_number columns a) o)
  low_b = let low = number_below rows columns b in_b in omega (arith, low, are.count, length-set at (site_number columns a) o)

  inside_moved : (s : Spot) → IsInside rows columns s → IsInside rows columns (moved a b s)
  inside_moved s h = by (spot_cases s a) (spot_cases s b)
    where
      to : (t : Spot) → moved a b s ≡ t → IsInside rows columns t → IsInside rows columns (moved a b s)
      to t e k = subst (IsInside rows columns) (sym e) k

      by : (s ≡ a) ⊎ (is_same_spot s a ≡ false) → (s ≡ b) ⊎ (is_same_spot s b ≡ false) → IsInside rows columns (moved a b s)
      by (inl e) k = to b (ap (moved a b) e ∙ moved_first a b) in_b
      by (inr e) (inl k) = to a (ap (moved a b) k ∙ moved_second a b) in_a
      by (inr e) (inr k) = to s (moved_other a b s e k) h

  -- the site that is found after the exchange
  found : (s : Spot) (x : Found) → IsInside rows columns s → slice_get after (site_number columns s) ≡ Some x → Occupies (exchange a b spots) s x
  found s x h e = by (cases_eq (site_number columns b) (site_number columns s)) (cases_eq (site_number columns a) (site_number columns s))
    where
      to : (t : Spot) (y : Found) → moved a b t ≡ s → y ≡ x → Occupies spots t y → Occupies (exchange a b spots) s x
      to t y t_is y_is k = subst (λ (z : Found). Occupies (exchange a b spots) s z) y_is (subst (λ (u : Spot). Occupies (exchange a b spots) u y) t_is (occupies_moved spots a b t y k))

      other : (t : Spot) → IsInside rows columns t → site_number columns t ≢ site_number columns s → is_same_spot s t ≡ false
      other t k n = from (is_same_spot s t) refl
        where
          from : (c : Bool) → is_same_spot s t ≡ c → c ≡ false
          from true same = absurd (n (ap (site_number columns) (sym (same_spot s t same))))
          from false same = refl

      by : (site_number columns b ≡ site_number columns s) ⊎ (site_number columns b ≢ site_number columns s) → (site_number columns a ≡ site_number columns s) ⊎ (site_number columns a ≢ site_number columns s) → Occupies (exchange a b spots) s x
      by (inl same) k =
          let is : b ≡ s = number_once rows columns b s in_b h same in
          let y_is : m ≡ x = some_is m x (sym (get_set (slice_set at (site_number columns a) o) (site_number columns b) m low_b) ∙ ap (slice_get after) same ∙ e) in
          to a m (moved_first a b ∙ is) y_is at_a
      by (inr n) (inl same) =
          let is : a ≡ s = number_once rows columns a s in_a h same in
          let y_is : o ≡ x = some_is o x (sym (get_set at (site_number columns a) o low_a) ∙ ap (slice_get (slice_set at (site_number columns a) o)) same ∙ sym (get_unset (slice_set at (site_number columns a) o) (site_number columns b) (site_number columns s) m n) ∙ e) in
          to b o (moved_second a b ∙ is) y_is at_b
      by (inr n) (inr k) =
          let old : slice_get at (site_number columns s) ≡ Some x = sym (get_unset at (site_number columns a) (site_number columns s) o k) ∙ sym (get_unset (slice_set at (site_number columns a) o) (site_number columns b) (site_number columns s) m n) ∙ e in
          to s x (moved_other a b s (other a in_a k) (other b in_b n)) refl (are.each s x h old)

  one_of : (s t : Spot) → moved a b s ≡ moved a b t → s ≡ t
  one_of s t e = sym (moved_twice a b s) ∙ ap (moved a b) e ∙ moved_twice a b t

  -- the sites after the exchange
  pub at_exchanged : AreAt rows columns (exchange a b spots) after
  at_exchanged = record {
    few_rows = are.few_rows;
    few_columns = are.few_columns;
    inside = λ k d low.
        let low' : k < length spots = omega (arith, low, length-map spots (moved a b)) in
        let t = get_mapped (moved a b) spots k (get_or (exchange a b spots) k d) (slice_get-get_or (exchange a b spots) k d low) in
        let old : IsInside rows columns t.0 = subst (IsInside rows columns) (get_or_from_slice_get spots k t.0 t.0 t.1) (are.inside k t.0 low') in
        subst (IsInside rows columns) t.2 (inside_moved t.0 old);
    apart = λ i j d less low e.
        let high : j < length spots = omega (arith, low, length-map spots (moved a b)) in
        let low_i : i < length (exchange a b spots) = omega (arith, low, less) in
        let s = get_mapped (moved a b) spots i (get_or (exchange a b spots) i d) (slice_get-get_or (exchange a b spots) i d low_i) in
        let t = get_mapped (moved a b) spots j (get_or (exchange a b spots) j d) (slice_get-get_or (exchange a b spots) j d low) in
        let same : s.0 ≡ t.0 = one_of s.0 t.0 (s.2 ∙ e ∙ sym t.2) in
        are.apart i j t.0 less high (get_or_from_slice_get spots i s.0 t.0 s.1 ∙ same ∙ sym (get_or_from_slice_get spots j t.0 t.0 t.1));
    count = count;
    each = found;
  }

-- the writes to the list of spots are the exchange

set_same : (spots : List Spot) (m : ℕ) (s t : Spot) → slice_get spots m ≡ Some s → slice_set (slice_set spots m t) m s ≡ spots
set_same [] m s t e = cc
set_same (x ∷ spots) zero s t e = ap (λ (y : Spot). y ∷ spots) (sym (some_is x s e))
set_same (x ∷ spots) (suc m) s t e = ap (λ (ys : List Spot). x ∷ ys) (set_same spots m s t e)

pub puts_are : (spots : List Spot) (a b : Spot) (m o : Found) → AllPairs (λ (s t : Spot). s ≢ t) spots → Occupies spots a m → Occupies spots b o → put o a (put m b spots) ≡ exchange a b spots
puts_are spots a b None None apart at_a at_b = sym ((moves spots apart a b).none (λ k s e. (λ same. at_a k (e ∙ ap (λ (u : Spot). Some u) same), λ same. at_b k (e ∙ ap (λ (u : Spot). Some u) same))))
puts_are spots a b (Some m) None apart at_a at_b = sym ((moves spots apart a b).one m at_a at_b)
puts_are spots a b None (Some o) apart at_a at_b = sym (sym (exchange_back a b spots) ∙ (moves spots apart b a).one o at_b at_a)
puts_are spots a b (Some m) (Some o) apart at_a at_b = by (spot_cases a b)
  where
    other : is_same_spot a b ≡ false → a ≢ b
    other n e = let t : is_same_spot a b ≡ true = ap (is_same_spot a) (sym e) ∙ spot_itself a in cc

    by : (a ≡ b) ⊎ (is_same_spot a b ≡ false) → slice_set (slice_set spots m b) o a ≡ exchange a b spots
    by (inl same) =
        let one : o ≡ m = place_once_here o m (at_b ∙ ap (λ (u : Spot). Some u) (sym same)) at_a in
        ap (λ (k : ℕ). slice_set (slice_set spots m b) k a) one ∙ set_same spots m a b at_a ∙ sym (exchange_same a spots) ∙ ap (λ (t : Spot). exchange a t spots) same
      where
        place_once_here : (i j : ℕ) → slice_get spots i ≡ Some a → slice_get spots j ≡ Some a → i ≡ j
        place_once_here i j e f = place_once spots apart i j a e f
    by (inr n) = sym ((moves spots apart a b).two m o at_a at_b (other n))

-- the sites, with the first so many modules

pub record AreAtSoFar (rows columns : ℕ) (spots : List Spot) (n : ℕ) (at : List Found) : Type 0 where
  pub count : length at ≡ rows * columns
  pub each : (s : Spot) (found : Found) → IsInside rows columns s → slice_get at (site_number columns s) ≡ Some found → Occupies (take n spots) s found

pub at_none : (rows columns : ℕ) (spots : List Spot) (at : List Found) → length at ≡ rows * columns → ((i : ℕ) (found : Found) → slice_get at i ≡ Some found → found ≡ None) → AreAtSoFar rows columns spots 0 at
at_none rows columns spots at count none = record {
  count = count;
  each = λ s found h e. subst (Occupies [] s) (sym (none (site_number columns s) found e)) (λ k f. cc);
}

pub at_all : (rows columns : ℕ) (spots : List Spot) (n : ℕ) (at : List Found) → rows ≤ 32 → columns ≤ 64 → All (IsInside rows columns) spots → AllPairs (λ (s t : Spot). s ≢ t) spots → length spots ≤ n → AreAtSoFar rows columns spots n at → AreAt rows columns spots at
at_all rows columns spots n at low_rows low_columns inside apart all h = record {
  few_rows = low_rows;
  few_columns = low_columns;
  inside = inside;
  apart = apart;
  count = h.count;
  each = λ s found i e. subst (λ (ss : List Spot). Occupies ss s found) (take_all n spots all) (h.each s found i e);
}

get_take : (xs : List Spot) (n i : ℕ) → i < n → slice_get (take n xs) i ≡ slice_get xs i
get_take [] n i h = ap (λ (ys : List Spot). slice_get ys i) (take-nil n)
get_take (x ∷ xs) zero i h = absurd (omega (arith, h))
get_take (x ∷ xs) (suc n) zero h = refl
get_take (x ∷ xs) (suc n) (suc i) h = get_take xs n i (omega (arith, h))

module _ (rows columns : ℕ) (spots : List Spot) (n : ℕ) (at : List Found) (s : Spot) (s_is : slice_get spots n ≡ Some s) (in_s : IsInside rows columns s) (h : AreAtSoFar rows columns spots n at) where
  low_s : site_number columns s < length at
  low_s = let low = number_below rows columns s in_s in omega (arith, low, h.count)

  took : (m k : ℕ) (t : Spot) → slice_get (take m spots) k ≡ Some t → (k < m) × (slice_get spots k ≡ Some t)
  took m k t e =
      let low = get_within (take m spots) k t e in
      let few : k < m = omega (arith, low, length-take m spots) in
      (few, sym (get_take spots m k few) ∙ e)

  still : (t : Spot) (found : Found) → s ≢ t → Occupies (take n spots) t found → Occupies (take (n + 1) spots) t found
  still t (Some k) other e = let r = took n k t e in let low = r.0 in get_take spots (n + 1) k (omega (arith, low)) ∙ r.1
  still t None other e = λ k f. by k (took (n + 1) k t f) (cases_lt k n)
    where
      by : (k : ℕ) → (k < n + 1) × (slice_get spots k ≡ Some t) → (k < n) ⊎ (n ≤ k) → ⊥
      by k r (inl low) = e k (get_take spots n k low ∙ r.1)
      by k r (inr high) = let low = r.0 in let same : k ≡ n = omega (arith, low, high) in other (some_is s t (sym s_is ∙ ap (slice_get spots) (sym same) ∙ r.1))

  found_at : (t : Spot) (found : Found) → IsInside rows columns t → slice_get (slice_set at (site_number columns s) (Some n)) (site_number columns t) ≡ Some found → Occupies (take (n + 1) spots) t found
  found_at t found inside e = by (cases_eq (site_number columns s) (site_number columns t))
    where
      by : (site_number columns s ≡ site_number columns t) ⊎ (site_number columns s ≢ site_number columns t) → Occupies (take (n + 1) spots) t found
      by (inl same) =
          let is : s ≡ t = number_once rows columns s t in_s inside same in
          let x : Found = Some n in
          let found_is : x ≡ found = some_is x found (sym (get_set at (site_number columns s) (Some n) low_s) ∙ ap (slice_get (slice_set at (site_number columns s) (Some n))) same ∙ e) in
          let here : Occupies (take (n + 1) spots) t x = get_take spots (n + 1) n (omega arith) ∙ s_is ∙ ap (λ (u : Spot). Some u) is in
          subst (Occupies (take (n + 1) spots) t) found_is here
      by (inr other) =
          still t found (λ same. other (ap (site_number columns) same)) (h.each t found inside (sym (get_unset at (site_number columns s) (site_number columns t) (Some n) other) ∙ e))

  -- one module more
  pub at_more : AreAtSoFar rows columns spots (n + 1) (slice_set at (site_number columns s) (Some n))
  at_more = record { count = length-set at (site_number columns s) (Some n) ∙ h.count; each = found_at }

-- what is kept after an exchange
pub kept_exchanged : (rows columns : ℕ) (nets : List Joins) (touching : List (List ℕ)) (spots : List Spot) (at : List Found) → IsKept rows columns nets touching spots at → (a b : Spot) → IsInside rows columns a → IsInside rows columns b
    → (m o : Found) → Occupies spots a m → Occupies spots b o → (first second : List Spot) (one two : List Found) → first ≡ put m b spots → second ≡ put o a first → one ≡ slice_set at (site_number columns a) o → two ≡ slice_set one (site_number columns b) m
    → IsKept rows columns nets touching second two × (second ≡ exchange a b spots)
kept_exchanged rows columns nets touching spots at kept a b in_a in_b m o at_a at_b first second one two f s p q =
    let is : second ≡ exchange a b spots = s ∙ ap (put o a) f ∙ puts_are spots a b m o kept.at_are.apart at_a at_b in
    let at_is : two ≡ slice_set (slice_set at (site_number columns a) o) (site_number columns b) m = q ∙ ap (λ (xs : List Found). slice_set xs (site_number columns b) m) p in
    let count : length spots ≡ length second = sym (ap length is ∙ length-map spots (moved a b)) in
    let moved_at = at_exchanged rows columns spots at kept.at_are a b in_a in_b m o at_a at_b in (
      record {
        few = subst (λ (n : ℕ). n ≤ 65535) count kept.few;
        nets_are = subst (λ (n : ℕ). AreNets n nets) count kept.nets_are;
        touched = subst (λ (n : ℕ). AreTouching n nets touching) count kept.touched;
        at_are = subst (λ (ss : List Spot). AreAt rows columns ss two) (sym is) (subst (AreAt rows columns (exchange a b spots)) (sym at_is) moved_at);
      },
      is,
    )
