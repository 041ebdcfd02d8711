-- How far the elements of a net reach, as they are seen one after the other.
use Rattle.std.proofs.Common.{ℕ, ◌≡◌, ◌+◌, ◌-◌, ◌*◌, ◌<◌, ◌≤◌, ◌==◌, ◌||◌, Bool, true, false, cond, min, List, [], ◌∷◌, ◌++◌, length, map, take, get_or, refl, sym, ap, subst, ◌∙◌, arith, append_assoc, append-nil}
use Rattle.std.proofs.lemmas.List.{take_more, map_push}
use Rattle.std.proofs.lemmas.Bool.{eqb-true}
use Rattle.std.specs.List.{list_any}
use Rattle.act1_circuit.specs.declared.circuit.Spot.{Spot}
use Rattle.act1_base.specs.Lists.{least_number, greatest_number}
use Rattle.act1_place.specs.declared.ends.Reach.{Reach}
use Rattle.act1_place.specs.declared.ends.Ends.{Ends}
use Rattle.act1_place.specs.declared.net.Joins.{Joins}
use Rattle.act1_place.specs.declared.net.Place.{Place}
use Rattle.act1_place.specs.Ends.{Element, module_elements, pad_elements, least_without, IsSeen, AreSmall, AreSeen, IsReachWith, AreEndsWith, span_with, AreEnds}
use Rattle.act1_place.specs.Kept.{spot_of, net_sum}
use Rattle.act1_place.specs.Perimeter.{place_of, spread}

abbrev pub element : ℕ → Place → Element
element m p = record { owner = m; place = p }

without_push : (f : Place → ℕ) (k : ℕ) (es : List Element) (m : ℕ) (p : Place) → f p ≤ 255 → least_without f k (es ++ element m p ∷ []) ≡ cond (m == k) (least_without f k es) (min (least_without f k es) (f p))
without_push f k [] m p small = by (m == k)
  where
    by : (b : Bool) → cond b 255 (min (f p) 255) ≡ cond b 255 (min 255 (f p))
    by true = refl
    by false = omega arith
without_push f k (e ∷ es) m p small = by (e.owner == k) (m == k) (without_push f k es m p small)
  where
    by : (c b : Bool) → least_without f k (es ++ element m p ∷ []) ≡ cond b (least_without f k es) (min (least_without f k es) (f p))
        → cond c (least_without f k (es ++ element m p ∷ [])) (min (f e.place) (least_without f k (es ++ element m p ∷ [])))
        ≡ cond b (cond c (least_without f k es) (min (f e.place) (least_without f k es))) (min (cond c (least_without f k es) (min (f e.place) (least_without f k es))) (f p))
    by true b h = h
    by false true h = ap (min (f e.place)) h
    by false false h = omega (arith, h)

seen_push : (f : Place → ℕ) (es : List Element) (m : ℕ) (p : Place) (r s : Reach) → f p ≤ 255 → IsSeen f es r → IsReachWith r m (f p) s → IsSeen f (es ++ element m p ∷ []) s
seen_push f es m p r s small h w = record {
  order = w.order h.order;
  without = λ k. w.without h.order k ∙ (λ i. cond (m == k) (h.without k i) (min (h.without k i) (f p))) ∙ sym (without_push f k es m p small);
}

small_push : (es : List Element) (m : ℕ) (p : Place) → (p.x ≤ 255) × (p.y ≤ 255) → AreSmall es → AreSmall (es ++ element m p ∷ [])
small_push [] m p small h = (small.0, small.1, tt)
small_push (e ∷ es) m p small h = (h.0, h.1, small_push es m p small h.2)

pub all_push : (es : List Element) (m : ℕ) (p : Place) (before after : Ends) → AreSeen es before → AreEndsWith before m p after → AreSeen (es ++ element m p ∷ []) after
all_push es m p before after h w =
    let x = w.small.0 in
    let y = w.small.1 in
    let x_back : 255 - p.x ≤ 255 = omega arith in
    let y_back : 255 - p.y ≤ 255 = omega arith in
    record {
      left = seen_push (λ (p : Place). p.x) es m p before.left after.left x h.left w.left;
      right = seen_push (λ (p : Place). 255 - p.x) es m p before.right after.right x_back h.right w.right;
      low = seen_push (λ (p : Place). p.y) es m p before.low after.low y h.low w.low;
      high = seen_push (λ (p : Place). 255 - p.y) es m p before.high after.high y_back h.high w.high;
      small = small_push es m p w.small h.small;
    }

-- modules and pads so far
pub modules_more : (spots : List Spot) (seen : List Element) (ms : List ℕ) (n m : ℕ) (p : Place) (before after : Ends) → n < length ms → m ≡ get_or ms n m → p ≡ place_of (spot_of spots m)
    → AreSeen (seen ++ module_elements spots (take n ms)) before → AreEndsWith before m p after → AreSeen (seen ++ module_elements spots (take (n + 1) ms)) after
modules_more spots seen ms n m p before after low is place h w =
    let f : ℕ → Element = λ m. element m (place_of (spot_of spots m)) in
    let more : take (n + 1) ms ≡ take n ms ++ m ∷ [] = take_more ms n m low ∙ ap (λ (k : ℕ). take n ms ++ k ∷ []) (sym is) in
    let all : module_elements spots (take (n + 1) ms) ≡ module_elements spots (take n ms) ++ element m p ∷ [] = ap (module_elements spots) more ∙ map_push f (take n ms) m ∙ ap (λ (q : Place). module_elements spots (take n ms) ++ element m q ∷ []) (sym place) in
    subst (λ (es : List Element). AreSeen es after) (append_assoc seen (module_elements spots (take n ms)) (element m p ∷ []) ∙ ap (λ (es : List Element). seen ++ es) (sym all))
    (all_push (seen ++ module_elements spots (take n ms)) m p before after h w)

pub pads_more : (seen : List Element) (ps : List Place) (n : ℕ) (p : Place) (before after : Ends) → n < length ps → p ≡ get_or ps n p
    → AreSeen (seen ++ pad_elements (take n ps)) before → AreEndsWith before 65535 p after → AreSeen (seen ++ pad_elements (take (n + 1) ps)) after
pads_more seen ps n p before after low is h w =
    let f : Place → Element = λ p. element 65535 p in
    let more : take (n + 1) ps ≡ take n ps ++ p ∷ [] = take_more ps n p low ∙ ap (λ (k : Place). take n ps ++ k ∷ []) (sym is) in
    let all : pad_elements (take (n + 1) ps) ≡ pad_elements (take n ps) ++ element 65535 p ∷ [] = ap pad_elements more ∙ map_push f (take n ps) p in
    subst (λ (es : List Element). AreSeen es after) (append_assoc seen (pad_elements (take n ps)) (element 65535 p ∷ []) ∙ ap (λ (es : List Element). seen ++ es) (sym all))
    (all_push (seen ++ pad_elements (take n ps)) 65535 p before after h w)

pub none_more : (e : Ends) (seen : List Element) → AreSeen seen e → AreSeen (seen ++ []) e
none_more e seen h = subst (λ (es : List Element). AreSeen es e) (sym (append-nil seen)) h

-- the least of numbers, at most 255
abbrev low : List ℕ → ℕ
low [] = 255
low (n ∷ ns) = min n (low ns)

abbrev AreLow : List ℕ → Type 0
AreLow [] = Unit {0}
AreLow (n ∷ ns) = (n ≤ 255) × AreLow ns

abbrev back : List ℕ → List ℕ
back ns = map (λ n. 255 - n) ns

least_low : (n : ℕ) (ns : List ℕ) → AreLow (n ∷ ns) → least_number (n ∷ ns) ≡ low (n ∷ ns)
least_low n [] h = let a = h.0 in omega arith
least_low n (m ∷ ns) h = ap (min n) (least_low m ns h.1)

greatest_low : (ns : List ℕ) → AreLow ns → greatest_number ns ≡ 255 - low (back ns)
greatest_low [] h = refl
greatest_low (n ∷ ns) h = let a = h.0 in let rest = greatest_low ns h.1 in omega (arith, rest)

spread_low : (ns : List ℕ) → AreLow ns → spread ns ≡ 255 - low (back ns) - low ns
spread_low [] h = refl
spread_low (n ∷ ns) h = λ i. greatest_low (n ∷ ns) h i - least_low n ns h i

-- the numbers of a net with one module at another number
module _ (pick : Place → ℕ) (spots : List Spot) (m c : ℕ) (apart : (65535 == m) ≡ false) where
  abbrev moved : List ℕ → List Place → List ℕ
  moved ms ps = map (λ k. cond (k == m) c (pick (place_of (spot_of spots k)))) ms ++ map pick ps

  module _ (g : ℕ → ℕ) where
    low_pads : (ps : List Place) → low (map g (map pick ps)) ≡ least_without (λ p. g (pick p)) m (pad_elements ps)
    low_pads [] = refl
    low_pads (p ∷ ps) = ap (min (g (pick p))) (low_pads ps) ∙ ap (λ (b : Bool). cond b (least_without (λ p. g (pick p)) m (pad_elements ps)) (min (g (pick p)) (least_without (λ p. g (pick p)) m (pad_elements ps)))) (sym apart)

    abbrev elsewhere : List ℕ → List Place → ℕ
    elsewhere ms ps = least_without (λ p. g (pick p)) m (module_elements spots ms ++ pad_elements ps)

    low_moved : (ms : List ℕ) (ps : List Place) → low (map g (moved ms ps)) ≡ cond (list_any (λ k. k == m) ms) (min (g c) (elsewhere ms ps)) (elsewhere ms ps)
    low_moved [] ps = low_pads ps
    low_moved (k ∷ ms) ps = by (k == m) (list_any (λ k. k == m) ms) (low_moved ms ps)
      where
        here : ℕ
        here = g (pick (place_of (spot_of spots k)))

        by : (b t : Bool) → low (map g (moved ms ps)) ≡ cond t (min (g c) (elsewhere ms ps)) (elsewhere ms ps)
            → min (g (cond b c (pick (place_of (spot_of spots k))))) (low (map g (moved ms ps)))
            ≡ cond (b || t) (min (g c) (cond b (elsewhere ms ps) (min (g (pick (place_of (spot_of spots k)))) (elsewhere ms ps)))) (cond b (elsewhere ms ps) (min (g (pick (place_of (spot_of spots k)))) (elsewhere ms ps)))
        by true true h = omega (arith, h)
        by true false h = ap (min (g c)) h
        by false true h = omega (arith, h)
        by false false h = ap (min (g (pick (place_of (spot_of spots k))))) h

  low_pads_all : ((p : Place) → (p.x ≤ 255) × (p.y ≤ 255) → pick p ≤ 255) → (ps : List Place) → AreSmall (pad_elements ps) → AreLow (map pick ps)
  low_pads_all pick_low [] h = tt
  low_pads_all pick_low (p ∷ ps) h = (pick_low p (h.0, h.1), low_pads_all pick_low ps h.2)

  low_all : c ≤ 255 → ((p : Place) → (p.x ≤ 255) × (p.y ≤ 255) → pick p ≤ 255) → (ms : List ℕ) (ps : List Place) → AreSmall (module_elements spots ms ++ pad_elements ps) → AreLow (moved ms ps)
  low_all c_low pick_low [] ps h = low_pads_all pick_low ps h
  low_all c_low pick_low (k ∷ ms) ps h = (by (k == m), low_all c_low pick_low ms ps h.2)
    where
      by : (b : Bool) → cond b c (pick (place_of (spot_of spots k))) ≤ 255
      by true = c_low
      by false = pick_low (place_of (spot_of spots k)) (h.0, h.1)

  map_itself : (ns : List ℕ) → map (λ n. n) ns ≡ ns
  map_itself [] = refl
  map_itself (n ∷ ns) = ap (λ (ks : List ℕ). n ∷ ks) (map_itself ns)

  pub span_is : c ≤ 255 → ((p : Place) → (p.x ≤ 255) × (p.y ≤ 255) → pick p ≤ 255) → (ms : List ℕ) (ps : List Place) (r s : Reach) → AreSmall (module_elements spots ms ++ pad_elements ps) → list_any (λ k. k == m) ms ≡ true
      → IsSeen pick (module_elements spots ms ++ pad_elements ps) r → IsSeen (λ p. 255 - pick p) (module_elements spots ms ++ pad_elements ps) s
      → span_with r s m c ≡ spread (moved ms ps)
  span_is c_low pick_low ms ps r s small joined one other =
      let least : low (moved ms ps) ≡ min c (elsewhere (λ n. n) ms ps) = ap low (sym (map_itself (moved ms ps))) ∙ low_moved (λ n. n) ms ps ∙ ap (λ (b : Bool). cond b (min c (elsewhere (λ n. n) ms ps)) (elsewhere (λ n. n) ms ps)) joined in
      let most : low (back (moved ms ps)) ≡ min (255 - c) (elsewhere (λ n. 255 - n) ms ps) = low_moved (λ n. 255 - n) ms ps ∙ ap (λ (b : Bool). cond b (min (255 - c) (elsewhere (λ n. 255 - n) ms ps)) (elsewhere (λ n. 255 - n) ms ps)) joined in
      let all = spread_low (moved ms ps) (low_all c_low pick_low ms ps small) in
      let a = one.without m in
      let b = other.without m in
      omega (arith, all, least, most, a, b, c_low)

apart_is : (m : ℕ) → m < 65535 → (65535 == m) ≡ false
apart_is m low = by (65535 == m) refl
  where
    by : (b : Bool) → (65535 == m) ≡ b → (65535 == m) ≡ false
    by true e = let same = eqb-true 65535 m e in absurd (omega (arith, same, low))
    by false e = e

pub ends_are : (spots : List Spot) (n : Joins) (e : Ends) → e.sum ≡ net_sum spots n → AreSeen (module_elements spots n.modules ++ pad_elements n.pads) e → AreEnds spots n e
ends_are spots n e sum h = record {
  sum = sum;
  width = λ m column low small joined. span_is (λ (p : Place). p.x) spots m column (apart_is m low) small (λ p k. k.0) n.modules n.pads e.left e.right h.small joined h.left h.right;
  height = λ m row low small joined. let most : 2 * row + 1 ≤ 255 = omega (arith, small) in span_is (λ (p : Place). p.y) spots m (2 * row + 1) (apart_is m low) most (λ p k. k.1) n.modules n.pads e.low e.high h.small joined h.low h.high;
}

pub none_seen : (e : Ends) → e.left.least ≡ 255 → e.left.rest ≡ 255 → e.right.least ≡ 255 → e.right.rest ≡ 255 → e.low.least ≡ 255 → e.low.rest ≡ 255 → e.high.least ≡ 255 → e.high.rest ≡ 255 → AreSeen [] e
none_seen e a b c d p q r s = record {
  left = one (λ (p : Place). p.x) e.left a b;
  right = one (λ (p : Place). 255 - p.x) e.right c d;
  low = one (λ (p : Place). p.y) e.low p q;
  high = one (λ (p : Place). 255 - p.y) e.high r s;
  small = tt;
}
  where
    one : (f : Place → ℕ) (r : Reach) → r.least ≡ 255 → r.rest ≡ 255 → IsSeen f [] r
    one f r least rest = record { order = omega (arith, least, rest); without = λ k. by k (k == r.module) }
      where
        by : (k : ℕ) (b : Bool) → cond b r.rest r.least ≡ 255
        by k true = rest
        by k false = least

pub ends_seen : (spots : List Spot) (n : Joins) (ms : List ℕ) (ps : List Place) (e : Ends) (sum : ℕ) → ms ≡ n.modules → ps ≡ n.pads → sum ≡ net_sum spots n → AreSeen (module_elements spots ms ++ pad_elements ps) e
    → AreEnds spots n (record { left = e.left; right = e.right; low = e.low; high = e.high; sum = sum })
ends_seen spots n ms ps e sum ms_are ps_are sum_is h =
    let all = subst (λ (ks : List ℕ). AreSeen (module_elements spots ks ++ pad_elements n.pads) e) ms_are (subst (λ (qs : List Place). AreSeen (module_elements spots ms ++ pad_elements qs) e) ps_are h) in
    ends_are spots n (record { left = e.left; right = e.right; low = e.low; high = e.high; sum = sum }) sum_is (record { left = all.left; right = all.right; low = all.low; high = all.high; small = all.small })
