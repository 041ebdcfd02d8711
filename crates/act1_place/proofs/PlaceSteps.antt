-- Steps of trying pairs, of passes and of the placement.
use Rattle.std.proofs.Common.{ℕ, suc, ◌≡◌, ◌+◌, ◌<◌, ◌≤◌, Bool, true, false, ◌||◌, cond, List, [], ◌∷◌, ◌++◌, length, take, drop, get_or, refl, sym, ap, subst, ◌∙◌, arith, All}
use Rattle.std.proofs.lemmas.List.{take_more, take_all, map_push}
use Rattle.std.proofs.lemmas.List.Elements.{Contains-get_or}
use Rattle.act1_device.specs.declared.device.Device.{Device}
use Rattle.act1_circuit.specs.declared.circuit.Circuit.{Circuit}
use Rattle.act1_circuit.specs.declared.circuit.Spot.{Spot}
use Rattle.act1_place.specs.declared.net.Joins.{Joins}
use Rattle.act1_place.specs.Gains.{Kept, IsInside, pairs_with, Tries, Settles}
use Rattle.act1_place.specs.Kept.{kept_total, all_joins}
use Rattle.act1_place.specs.Passes.{exchange, pairs, pass_by, passes_by, sites, Leaves}
use Rattle.act1_place.specs.Perimeter.{total}
use Rattle.act1_place.proofs.KeptSums.{kept_is_total_here}
use Rattle.act1_place.proofs.PassLaws.{site_in}
use Rattle.act1_place.proofs.PassSteps.{at_spots, tries_more, tries_exchange, tries_keep, first_pairs, first_more, first_all, Passed, pass_agree, passes_agree, passes_count}

-- the sites are still inside
pub still_inside : (before now : Kept) (changed : Bool) (ps : List (Spot × Spot)) → Tries before now changed ps → (s : Spot) → IsInside before.rows before.columns s → IsInside now.rows now.columns s
still_inside before now changed ps h s low = subst (λ (k : Kept). IsInside k.rows k.columns s) (sym h.is) low

pub all_still : (before now : Kept) (changed : Bool) (ps : List (Spot × Spot)) → Tries before now changed ps → (xs : List Spot) → All (IsInside before.rows before.columns) xs → All (IsInside now.rows now.columns) xs
all_still before now changed ps h xs low = subst (λ (k : Kept). All (IsInside k.rows k.columns) xs) (sym h.is) low

-- one pair more
pub pair_next : (a b : Spot) (later : List Spot) (n : ℕ) → n < length later → b ≡ get_or later n b → pairs_with a (take n later) ++ (a, b) ∷ [] ≡ pairs_with a (take (n + 1) later)
pair_next a b later n low is =
    let f : Spot → Spot × Spot = λ t. (a, t) in
    sym (ap (pairs_with a) (take_more later n b low ∙ ap (λ (s : Spot). take n later ++ s ∷ []) (sym is)) ∙ map_push f (take n later) b)

or_true : (b : Bool) → (b || true) ≡ true
or_true true = refl
or_true false = refl

or_false : (b : Bool) → (b || false) ≡ b
or_false true = refl
or_false false = refl

module _ (before mid : Kept) (changed : Bool) (a b : Spot) (later : List Spot) (n : ℕ) (low : n < length later) (is : b ≡ get_or later n b) (h : Tries before mid changed (pairs_with a (take n later))) where
  one_more : (after : Kept) (now : Bool) → Tries mid after now ((a, b) ∷ []) → Tries before after (changed || now) (pairs_with a (take (n + 1) later))
  one_more after now t = subst (Tries before after (changed || now)) (pair_next a b later n low is) (tries_more before mid after changed now (pairs_with a (take n later)) ((a, b) ∷ []) h t)

  pub tries_made : (after : Kept) → kept_total mid.nets (exchange a b mid.spots) < kept_total mid.nets mid.spots → after ≡ at_spots mid (exchange a b mid.spots) → Tries before after true (pairs_with a (take (n + 1) later))
  tries_made after less e =
      subst (λ (k : Kept). Tries before k true (pairs_with a (take (n + 1) later))) (sym e)
      (subst (λ (t : Bool). Tries before (at_spots mid (exchange a b mid.spots)) t (pairs_with a (take (n + 1) later))) (or_true changed)
      (one_more (at_spots mid (exchange a b mid.spots)) true (tries_exchange mid a b less)))

  pub tries_left : kept_total mid.nets mid.spots ≤ kept_total mid.nets (exchange a b mid.spots) → Tries before mid changed (pairs_with a (take (n + 1) later))
  tries_left more = subst (λ (t : Bool). Tries before mid t (pairs_with a (take (n + 1) later))) (or_false changed) (one_more mid false (tries_keep mid a b more))

pub tries_all : (before after : Kept) (changed : Bool) (a : Spot) (later : List Spot) (n : ℕ) → length later ≤ n → Tries before after changed (pairs_with a (take n later)) → Tries before after changed (pairs_with a later)
tries_all before after changed a later n whole h = subst (λ (xs : List Spot). Tries before after changed (pairs_with a xs)) (take_all n later whole) h

-- one site more
pub pass_next : (before mid after : Kept) (changed now : Bool) (all : List Spot) (n : ℕ) (a : Spot) (rest : List Spot) → n < length all → a ≡ get_or all n a → rest ≡ drop (n + 1) all
    → Tries before mid changed (first_pairs n all) → Tries mid after now (pairs_with a rest) → Tries before after (changed || now) (first_pairs (n + 1) all)
pass_next before mid after changed now all n a rest low is rest_is h t =
    let t_here = subst (λ (xs : List Spot). Tries mid after now (pairs_with a xs)) rest_is t in
    subst (Tries before after (changed || now)) (first_more n all a low is) (tries_more before mid after changed now (first_pairs n all) (pairs_with a (drop (n + 1) all)) h t_here)

pub pass_whole : (before after : Kept) (changed : Bool) (all : List Spot) (n : ℕ) → n ≡ length all → Tries before after changed (first_pairs n all) → Tries before after changed (pairs all)
pass_whole before after changed all n e h = subst (Tries before after changed) (ap (λ (k : ℕ). first_pairs k all) e ∙ first_all all) h

-- one pass more
pub passed_first : (k : Kept) (all : List Spot) → Passed k k all true
passed_first k all = record { count = 0; is = refl; last = λ e. cc }

pub passed_next : (before mid after : Kept) (all : List Spot) (changed now : Bool) → Passed before mid all changed → Tries mid after now (pairs all) → Passed before after all now
passed_next before mid after all changed now h t = record {
  count = suc h.count;
  is = t.is ∙ ap (λ (k : Kept). at_spots k (pass_by (kept_total k.nets) all k.spots)) h.is;
  last = λ e.
      ap (pass_by (kept_total before.nets) all) (t.none e)
      ∙ ap (λ (ns : List Joins). pass_by (kept_total ns) all mid.spots) (sym (ap (λ (k : Kept). k.nets) h.is))
      ∙ sym (ap (λ (k : Kept). k.spots) t.is);
}

pub pass_lessens : (mid after : Kept) (all : List Spot) (now : Bool) → Tries mid after now (pairs all) → kept_total after.nets after.spots + cond now 1 0 < kept_total mid.nets mid.spots + 1
pass_lessens mid after all now t = by now t.none t.some
  where
    same : kept_total after.nets after.spots ≡ kept_total mid.nets after.spots
    same = ap (λ (k : Kept). kept_total k.nets after.spots) t.is

    by : (b : Bool) → (b ≡ false → after.spots ≡ mid.spots) → (b ≡ true → kept_total mid.nets after.spots < kept_total mid.nets mid.spots) → kept_total after.nets after.spots + cond b 1 0 < kept_total mid.nets mid.spots + 1
    by true none some = let less = some refl in omega (arith, same, less)
    by false none some = let still = ap (kept_total mid.nets) (none refl) in omega (arith, same, still)

pub settles_is : (before after : Kept) (all : List Spot) → Passed before after all false → Settles before after all
settles_is before after all h = record { count = h.count; is = h.is; last = h.last refl }

-- what is left is the placement
module _ (dev : Device) (c : Circuit) (start : List Spot) (one_each : length start ≡ length c.modules) where
  abbrev first : Kept
  first = record { rows = dev.rows; columns = dev.columns; nets = all_joins dev c; spots = start }

  agree : (spots : List Spot) → length spots ≡ length c.modules → kept_total (all_joins dev c) spots ≡ total dev c spots
  agree spots e = kept_is_total_here dev c spots e

  left_here : (after : Kept) → Settles first after (sites dev) → Leaves dev c start after.spots
  left_here after h = record {
    count = h.count;
    after = spots_are ∙ passes_agree (kept_total (all_joins dev c)) (total dev c) (length c.modules) agree (sites dev) h.count start one_each;
    last = sym (pass_agree (kept_total (all_joins dev c)) (total dev c) (length c.modules) agree (sites dev) after.spots count) ∙ h.last;
  }
    where
      spots_are : after.spots ≡ passes_by (kept_total (all_joins dev c)) (sites dev) h.count start
      spots_are = ap (λ (k : Kept). k.spots) h.is

      count : length after.spots ≡ length c.modules
      count = ap length spots_are ∙ passes_count (kept_total (all_joins dev c)) (total dev c) (length c.modules) agree (sites dev) h.count start one_each

  pub sites_inside : (g : Kept) (all : List Spot) → g ≡ first → all ≡ sites dev → All (IsInside g.rows g.columns) all
  sites_inside g all e f =
      subst (λ (k : Kept). All (IsInside k.rows k.columns) all) (sym e)
      (subst (All (IsInside dev.rows dev.columns)) (sym f) (λ k d low. site_in dev (get_or (sites dev) k d) (Contains-get_or (sites dev) k d low)))

  pub left_is : (g after : Kept) (all : List Spot) → g ≡ first → all ≡ sites dev → Settles g after all → Leaves dev c start after.spots
  left_is g after all e f h = left_here after (subst (λ (k : Kept). Settles k after (sites dev)) e (subst (Settles g after) f h))
