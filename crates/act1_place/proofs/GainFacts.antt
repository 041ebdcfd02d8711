-- What gains keep from the start, and what they need of it.
use Rattle.std.proofs.Common.{ℕ, zero, suc, ◌≡◌, ◌+◌, ◌*◌, ◌<◌, ◌≤◌, List, [], ◌∷◌, length, get_or, Option, Some, None, refl, sym, ap, subst, ◌∙◌, arith, replicate}
use Rattle.std.specs.Prelude.{filter, slice_get, slice_set, All, IfSome}
use Rattle.std.proofs.lemmas.Bool.{false≢true}
use Rattle.std.proofs.lemmas.List.Elements.{All-nil}
use Rattle.std.proofs.lemmas.Option.{slice_get-get_or}
use Rattle.act1_base.proofs.ListGets.{some_is, get_within}
use Rattle.act1_device.specs.declared.device.Device.{Device}
use Rattle.act1_circuit.specs.declared.circuit.Circuit.{Circuit}
use Rattle.act1_circuit.specs.declared.circuit.Spot.{Spot}
use Rattle.act1_circuit.specs.Range.{InRange}
use Rattle.act1_place.specs.declared.net.Joins.{Joins}
use Rattle.act1_place.specs.Gains.{IsInside, AreNets, AreTouching, AreAt, AreItsNets, IsKept, listed_at}
use Rattle.act1_place.specs.Ends.{AreAllEnds, AreRenewed}
use Rattle.act1_place.specs.Kept.{all_joins, touches, Occupies}
use Rattle.act1_place.specs.Passes.{exchange}
use Rattle.act1_place.specs.declared.ends.Ends.{Ends}
use Rattle.act1_place.proofs.ChangeSums.{ends_exchanged}
use Rattle.act1_place.proofs.NetFinds.{nets_fit}
use Rattle.act1_place.proofs.SiteFacts.{number_below, AreAtSoFar, at_more, at_none}

-- a list of one thing has nothing else
get_replicate : {A : Type 0} (n i : ℕ) (x y : A) → slice_get (replicate n x) i ≡ Some y → y ≡ x
get_replicate zero i x y e = cc
get_replicate (suc n) zero x y e = sym (some_is x y e)
get_replicate (suc n) (suc i) x y e = get_replicate n i x y e

length_replicate : {A : Type 0} (n : ℕ) (x : A) → length (replicate n x) ≡ n
length_replicate zero x = refl
length_replicate (suc n) x = ap suc (length_replicate n x)

pub no_modules : (rows columns sites : ℕ) (spots : List Spot) (at : List (Option ℕ)) → sites ≡ rows * columns → at ≡ replicate sites None → AreAtSoFar rows columns spots 0 at
no_modules rows columns sites spots at count is =
    at_none rows columns spots at (ap length is ∙ length_replicate sites None ∙ count)
    (λ i found e. get_replicate sites i None found (sym (ap (λ (xs : List (Option ℕ)). slice_get xs i) is) ∙ e))

-- one module more, where its spot is read
pub next_module : (rows columns : ℕ) (spots : List Spot) (n : ℕ) (at : List (Option ℕ)) (s : Spot) → n < length spots → s ≡ get_or spots n s → All (IsInside rows columns) spots → AreAtSoFar rows columns spots n at
    → AreAtSoFar rows columns spots (n + 1) (slice_set at (s.row * columns + s.column) (Some n))
next_module rows columns spots n at s low is inside h =
    at_more rows columns spots n at s (slice_get-get_or spots n s low ∙ ap (λ (t : Spot). Some t) (sym is)) (subst (IsInside rows columns) (sym is) (inside n s low)) h

pub module_fits : (rows columns : ℕ) (spots : List Spot) (n : ℕ) (at : List (Option ℕ)) (s : Spot) → n < length spots → s ≡ get_or spots n s → All (IsInside rows columns) spots → AreAtSoFar rows columns spots n at
    → s.row * columns + s.column < length at
module_fits rows columns spots n at s low is inside h =
    let below = number_below rows columns s (subst (IsInside rows columns) (sym is) (inside n s low)) in
    omega (arith, below, h.count)

-- what is kept of a circuit
module _ (dev : Device) (c : Circuit) (range : InRange c) (spots : List Spot) (each : length spots ≡ length c.modules) (nets : List Joins) (nets_are : nets ≡ all_joins dev c) where
  pub few_nets : length nets ≤ 131070
  few_nets = let few = (nets_fit dev c range (length spots) each).few in omega (arith, few, ap length nets_are)

  pub new_keeps : (touching : List (List ℕ)) (at : List (Option ℕ)) (count : ℕ) (kept : List Spot) → count ≡ length spots → AreTouching count nets touching → AreAt dev.rows dev.columns spots at → kept ≡ spots
      → IsKept dev.rows dev.columns nets touching kept at
  new_keeps touching at count kept count_is touched at_are kept_is = record {
    few = let most = range.few_modules in omega (arith, most, each, ap length kept_is);
    nets_are = subst (AreNets (length kept)) (sym nets_are) (nets_fit dev c range (length kept) (ap length kept_is ∙ each));
    touched = subst (λ (n : ℕ). AreTouching n nets touching) (count_is ∙ sym (ap length kept_is)) touched;
    at_are = subst (λ (ss : List Spot). AreAt dev.rows dev.columns ss at) (sym kept_is) at_are;
  }

-- no module joins no net
none_touched : (nets : List Joins) → [] ≡ filter (touches None) nets
none_touched [] = refl
none_touched (n ∷ ns) = none_touched ns

-- what is found at a site
module _ (rows columns : ℕ) (nets : List Joins) (touching : List (List ℕ)) (spots : List Spot) (at : List (Option ℕ)) (kept : IsKept rows columns nets touching spots at) where
  pub site_fits : (s : Spot) (number : ℕ) → IsInside rows columns s → number ≡ s.row * columns + s.column → number < length at
  site_fits s number inside e = let below = number_below rows columns s inside in omega (arith, below, e, kept.at_are.count)

  pub found_there : (s : Spot) (found : Option ℕ) → Occupies spots s found → IfSome found (λ m. m < length spots)
  found_there s None h = tt
  found_there s (Some m) h = get_within spots m s h

  pub low_row : (k : ℕ) (d : Spot) → k < length spots → (get_or spots k d).row ≤ 31
  low_row k d low = let r = (kept.at_are.inside k d low).0 in let few = kept.at_are.few_rows in omega (arith, r, few)

  pub low_site : (s : Spot) → IsInside rows columns s → s.row ≤ 31
  low_site s h = let r = h.0 in let few = kept.at_are.few_rows in omega (arith, r, few)

  -- the module that is found at a site is one
  pub kept_found : (s : Spot) (number : ℕ) → IsInside rows columns s → number ≡ s.row * columns + s.column → IfSome (get_or at number None) (λ m. m < length spots)
  kept_found s number inside e =
      let there : slice_get at (s.row * columns + s.column) ≡ Some (get_or at number None) = ap (slice_get at) (sym e) ∙ slice_get-get_or at number None (site_fits s number inside e) in
      found_there s (get_or at number None) (kept.at_are.each s (get_or at number None) inside there)

  -- the numbers of a module's nets
  pub its_nets : (m : Option ℕ) → IfSome m (λ m. m < length spots) → AreItsNets nets (listed_at touching m) m × (length (listed_at touching m) ≤ 131070)
  its_nets None low = (record { touched = none_touched nets; listed = All-nil (λ i. i < length nets); all = λ i within e. absurd (false≢true e) }, omega arith)
  its_nets (Some m) low =
      let each = kept.touched.each in
      let h = kept.touched.numbers m (listed_at touching (Some m)) (slice_get-get_or touching m [] (omega (arith, low, each))) in
      let short = h.short in
      let few = kept.nets_are.few in
      (record { touched = h.touched; listed = h.listed; all = h.all }, omega (arith, short, few))

-- what is kept after an exchange, the ends too
pub all_exchanged : (rows columns : ℕ) (nets : List Joins) (touching : List (List ℕ)) (spots : List Spot) (at : List (Option ℕ)) (ends : List Ends) → IsKept rows columns nets touching spots at → AreAllEnds nets spots ends → (a b : Spot) (m o : Option ℕ) → Occupies spots a m → Occupies spots b o
    → (after : List Spot) → after ≡ exchange a b spots → (mid new : List Ends) → AreRenewed nets after (listed_at touching m) ends mid → AreRenewed nets after (listed_at touching o) mid new → AreAllEnds nets after new
all_exchanged rows columns nets touching spots at ends kept are a b m o at_a at_b after is mid new one two =
    subst (λ (ss : List Spot). AreAllEnds nets ss new) (sym is)
    (ends_exchanged rows columns nets touching spots at ends kept are a b m o at_a at_b (listed_at touching m) (listed_at touching o)
    (its_nets rows columns nets touching spots at kept m (found_there rows columns nets touching spots at kept a m at_a)).0
    (its_nets rows columns nets touching spots at kept o (found_there rows columns nets touching spots at kept b o at_b)).0
    mid new (subst (λ (ss : List Spot). AreRenewed nets ss (listed_at touching m) ends mid) is one) (subst (λ (ss : List Spot). AreRenewed nets ss (listed_at touching o) mid new) is two))
