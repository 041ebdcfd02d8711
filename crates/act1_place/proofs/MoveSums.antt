-- What moving one module would change, by columns and by rows.
use Rattle.std.proofs.Common.{ℕ, zero, suc, ◌≡◌, ◌≢◌, ◌+◌, ◌*◌, ◌<◌, ◌==◌, ◌||◌, Bool, true, false, cond, List, [], ◌∷◌, ◌++◌, length, map, Contains, refl, sym, ap, subst, ◌∙◌, arith}
use Rattle.std.specs.Prelude.{filter, sum_by, slice_set, slice_get, Some, None}
use Rattle.std.proofs.lemmas.Option.{get_or_from_slice_get}
use Rattle.act1_base.proofs.ListGets.{some_is, get_within}
use Rattle.std.specs.List.{list_any}
use Rattle.std.proofs.lemmas.Bool.{eqb-true, eq-eqb, false≢true}
use Rattle.std.proofs.lemmas.List.{map-append, length-set, get_or-set_same, get_or-set_other}
use Rattle.std.proofs.lemmas.List.Sums.{sum_by-cons}
use Rattle.act1_circuit.specs.declared.circuit.Spot.{Spot}
use Rattle.act1_place.specs.declared.net.Place.{Place}
use Rattle.act1_place.specs.declared.net.Joins.{Joins}
use Rattle.act1_place.specs.Kept.{spot_of, places, net_sum, kept_total, joins, Occupies}
use Rattle.act1_place.specs.Moves.{columns_with, heights_with, sums_with, MoveIsBySums, MovesAreBySums, ExchangeIsBySums, SumsStay}
use Rattle.act1_place.specs.Perimeter.{place_of, spread}
use Rattle.act1_base.proofs.Elements.{filtered}
use Rattle.act1_place.proofs.KeptSums.{sum_agree, move_is_local_law, moves}
use Rattle.act1_place.proofs.PassLaws.{exchange_back}

-- one number of each module, where one has another
module _ (f : Spot → ℕ) (spots : List Spot) (m : ℕ) (to : Spot) (low : m < length spots) where
  one_set : (k : ℕ) (b : Bool) → (k == m) ≡ b → f (spot_of (slice_set spots m to) k) ≡ cond b (f to) (f (spot_of spots k))
  one_set k true e = let same = eqb-true k m e in ap f (ap (λ (i : ℕ). spot_of (slice_set spots m to) i) same ∙ get_or-set_same spots m to (record { row = 0; column = 0 }) low)
  one_set k false e = ap f (get_or-set_other spots m k to (record { row = 0; column = 0 }) (λ same. false≢true (sym e ∙ eq-eqb k m same)))

  all_set : (ms : List ℕ) → map (λ k. f (spot_of (slice_set spots m to) k)) ms ≡ map (λ k. cond (k == m) (f to) (f (spot_of spots k))) ms
  all_set [] = refl
  all_set (k ∷ ms) = λ i. one_set k (k == m) refl i ∷ all_set ms i

map_twice : {X Y Z : Type 0} (g : Y → Z) (f : X → Y) (xs : List X) → map g (map f xs) ≡ map (λ x. g (f x)) xs
map_twice g f [] = refl
map_twice {X} {Y} {Z} g f (x ∷ xs) = ap (λ (zs : List Z). g (f x) ∷ zs) (map_twice g f xs)

module _ (spots : List Spot) (m : ℕ) (to : Spot) (low : m < length spots) (n : Joins) where
  columns_are : map (λ (p : Place). p.x) (places (slice_set spots m to) n) ≡ columns_with spots m to.column n
  columns_are =
      let moved = slice_set spots m to in
      map-append (λ (p : Place). p.x) (map (λ k. place_of (spot_of moved k)) n.modules) n.pads
      ∙ ap (λ (xs : List ℕ). xs ++ map (λ (p : Place). p.x) n.pads) (map_twice (λ (p : Place). p.x) (λ k. place_of (spot_of moved k)) n.modules ∙ all_set (λ (s : Spot). s.column) spots m to low n.modules)

  heights_are : map (λ (p : Place). p.y) (places (slice_set spots m to) n) ≡ heights_with spots m to.row n
  heights_are =
      let moved = slice_set spots m to in
      map-append (λ (p : Place). p.y) (map (λ k. place_of (spot_of moved k)) n.modules) n.pads
      ∙ ap (λ (xs : List ℕ). xs ++ map (λ (p : Place). p.y) n.pads) (map_twice (λ (p : Place). p.y) (λ k. place_of (spot_of moved k)) n.modules ∙ all_set (λ (s : Spot). 2 * s.row + 1) spots m to low n.modules)

  pub net_set : net_sum (slice_set spots m to) n ≡ spread (columns_with spots m to.column n) + spread (heights_with spots m to.row n)
  net_set = λ i. spread (columns_are i) + spread (heights_are i)

set_itself : (spots : List Spot) (m : ℕ) → slice_set spots m (spot_of spots m) ≡ spots
set_itself [] m = refl
set_itself (s ∷ spots) zero = refl
set_itself (s ∷ spots) (suc m) = ap (λ (ss : List Spot). s ∷ ss) (set_itself spots m)

sum_both : {X : Type 0} (f g : X → ℕ) (xs : List X) → sum_by (λ x. f x + g x) xs ≡ sum_by f xs + sum_by g xs
sum_both f g [] = refl
sum_both f g (x ∷ xs) = omega (arith, sum_by-cons (λ x. f x + g x) x xs, sum_by-cons f x xs, sum_by-cons g x xs, sum_both f g xs)

module _ (nets : List Joins) (spots : List Spot) (m : ℕ) (low : m < length spots) where
  sums_set : (to : Spot) → sum_by (net_sum (slice_set spots m to)) (filter (joins m) nets) ≡ sums_with nets spots m to
  sums_set to =
      sum_agree (net_sum (slice_set spots m to)) (λ n. spread (columns_with spots m to.column n) + spread (heights_with spots m to.row n)) (filter (joins m) nets) (λ n h. net_set spots m to low n)
      ∙ sum_both (λ n. spread (columns_with spots m to.column n)) (λ n. spread (heights_with spots m to.row n)) (filter (joins m) nets)

  sums_here : sum_by (net_sum spots) (filter (joins m) nets) ≡ sums_with nets spots m (spot_of spots m)
  sums_here = ap (λ (ss : List Spot). sum_by (net_sum ss) (filter (joins m) nets)) (sym (set_itself spots m)) ∙ sums_set (spot_of spots m)

pub move_is_by_sums_law : MoveIsBySums
move_is_by_sums_law nets spots m to low = omega (arith, move_is_local_law nets spots m to, sums_set nets spots m low to, sums_here nets spots m low)

-- nets that don't join the module that moved
module _ (spots : List Spot) (m o : ℕ) (b : Spot) where
  others_stay : (f : Spot → ℕ) (c : ℕ) (ms : List ℕ) → list_any (λ k. k == m) ms ≡ false
      → map (λ k. cond (k == o) c (f (spot_of (slice_set spots m b) k))) ms ≡ map (λ k. cond (k == o) c (f (spot_of spots k))) ms
  others_stay f c [] e = refl
  others_stay f c (k ∷ ms) e = from (λ r. others_stay f c ms r) (k == m) refl e
    where
      from : (list_any (λ k. k == m) ms ≡ false → map (λ k. cond (k == o) c (f (spot_of (slice_set spots m b) k))) ms ≡ map (λ k. cond (k == o) c (f (spot_of spots k))) ms)
          → (t : Bool) → (k == m) ≡ t → (t || list_any (λ k. k == m) ms) ≡ false
          → map (λ k. cond (k == o) c (f (spot_of (slice_set spots m b) k))) (k ∷ ms) ≡ map (λ k. cond (k == o) c (f (spot_of spots k))) (k ∷ ms)
      from more true q r = absurd (false≢true (sym r))
      from more false q r =
          let stays : spot_of (slice_set spots m b) k ≡ spot_of spots k = get_or-set_other spots m k b (record { row = 0; column = 0 }) (λ same. false≢true (sym q ∙ eq-eqb k m same)) in
          let rest = more r in
          λ i. cond (k == o) c (f (stays i)) ∷ rest i

module _ (nets : List Joins) (spots : List Spot) (m o : ℕ) (b : Spot) (none : (n : Joins) → Contains nets n → joins o n ≡ true → joins m n ≡ false) where
  sums_stay : (s : Spot) → sums_with nets (slice_set spots m b) o s ≡ sums_with nets spots o s
  sums_stay s =
      let moved = slice_set spots m b in
      let apart : (n : Joins) → Contains (filter (joins o) nets) n → joins m n ≡ false = λ n h. let k = filtered (joins o) nets n h in none n k.0 k.1 in
      let one = sum_agree (λ n. spread (columns_with moved o s.column n)) (λ n. spread (columns_with spots o s.column n)) (filter (joins o) nets)
      (λ n h. ap (λ (xs : List ℕ). spread (xs ++ map (λ (p : Place). p.x) n.pads)) (others_stay spots m o b (λ (t : Spot). t.column) s.column n.modules (apart n h))) in
      let two = sum_agree (λ n. spread (heights_with moved o s.row n)) (λ n. spread (heights_with spots o s.row n)) (filter (joins o) nets)
      (λ n h. ap (λ (ys : List ℕ). spread (ys ++ map (λ (p : Place). p.y) n.pads)) (others_stay spots m o b (λ (t : Spot). 2 * t.row + 1) (2 * s.row + 1) n.modules (apart n h))) in
      λ i. one i + two i

pub moves_are_by_sums_law : MovesAreBySums
moves_are_by_sums_law nets spots m o b a low_m low_o other none =
    let moved = slice_set spots m b in
    let low : o < length moved = omega (arith, low_o, length-set spots m b) in
    let here : spot_of moved o ≡ spot_of spots o = get_or-set_other spots m o b (record { row = 0; column = 0 }) (λ same. other (sym same)) in
    let first = move_is_by_sums_law nets spots m b low_m in
    let second = move_is_by_sums_law nets moved o a low in
    let now = ap (λ (s : Spot). sums_with nets moved o s) here ∙ sums_stay nets spots m o b none (spot_of spots o) in
    let then_there = sums_stay nets spots m o b none a in
    omega (arith, first, second, now, then_there)

-- exchanges of what shares no net
pub spot_is : (spots : List Spot) (m : ℕ) (a : Spot) → slice_get spots m ≡ Some a → spot_of spots m ≡ a
spot_is spots m a e = get_or_from_slice_get spots m a (record { row = 0; column = 0 }) e

absent : (spots : List Spot) (a b : Spot) → Occupies spots a None → Occupies spots b None → (k : ℕ) (s : Spot) → slice_get spots k ≡ Some s → (s ≢ a) × (s ≢ b)
absent spots a b at_a at_b k s e = (λ same. at_a k (e ∙ ap (λ (t : Spot). Some t) same), λ same. at_b k (e ∙ ap (λ (t : Spot). Some t) same))

one_moves : (nets : List Joins) (spots : List Spot) (m : ℕ) (a b : Spot) → slice_get spots m ≡ Some a → kept_total nets (slice_set spots m b) + sums_with nets spots m a ≡ kept_total nets spots + sums_with nets spots m b
one_moves nets spots m a b at = subst (λ (s : Spot). kept_total nets (slice_set spots m b) + sums_with nets spots m s ≡ kept_total nets spots + sums_with nets spots m b) (spot_is spots m a at) (move_is_by_sums_law nets spots m b (get_within spots m a at))

pub exchange_is_by_sums_law : ExchangeIsBySums
exchange_is_by_sums_law nets spots a b None None apart at_a at_b n none = omega (arith, ap (kept_total nets) ((moves spots apart a b).none (absent spots a b at_a at_b)))
exchange_is_by_sums_law nets spots a b (Some m) None apart at_a at_b n none = omega (arith, one_moves nets spots m a b at_a, ap (kept_total nets) ((moves spots apart a b).one m at_a at_b))
exchange_is_by_sums_law nets spots a b None (Some o) apart at_a at_b n none = omega (arith, one_moves nets spots o b a at_b, ap (kept_total nets) (sym (exchange_back a b spots) ∙ (moves spots apart b a).one o at_b at_a))
exchange_is_by_sums_law nets spots a b (Some m) (Some o) apart at_a at_b n none =
    let other : m ≢ o = λ same. n (some_is a b (sym at_a ∙ ap (slice_get spots) same ∙ at_b)) in
    let both = moves_are_by_sums_law nets spots m o b a (get_within spots m a at_a) (get_within spots o b at_b) other none in
    let here = ap (sums_with nets spots m) (spot_is spots m a at_a) in
    let there = ap (sums_with nets spots o) (spot_is spots o b at_b) in
    omega (arith, both, here, there, ap (kept_total nets) ((moves spots apart a b).two m o at_a at_b n))

pub sums_stay_law : SumsStay
sums_stay_law nets spots a b None None k s apart at_a at_b n not_m not_o = ap (λ (ss : List Spot). sums_with nets ss k s) ((moves spots apart a b).none (absent spots a b at_a at_b))
sums_stay_law nets spots a b (Some m) None k s apart at_a at_b n not_m not_o = ap (λ (ss : List Spot). sums_with nets ss k s) ((moves spots apart a b).one m at_a at_b) ∙ sums_stay nets spots m k b not_m s
sums_stay_law nets spots a b None (Some o) k s apart at_a at_b n not_m not_o = ap (λ (ss : List Spot). sums_with nets ss k s) (sym (exchange_back a b spots) ∙ (moves spots apart b a).one o at_b at_a) ∙ sums_stay nets spots o k a not_o s
sums_stay_law nets spots a b (Some m) (Some o) k s apart at_a at_b n not_m not_o =
    ap (λ (ss : List Spot). sums_with nets ss k s) ((moves spots apart a b).two m o at_a at_b n) ∙ sums_stay nets (slice_set spots m b) o k a not_o s ∙ sums_stay nets spots m k b not_m s
