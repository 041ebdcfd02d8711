-- Two modules whose spots stand in the other order: the circuit and its plan.
use Rattle.std.proofs.Common.{ℕ, suc, zero, ◌≡◌, ◌≢◌, List, [], ◌∷◌, Some, None, refl, ap, inl, arith, slice_get, map, Option, AllPairs}
use Rattle.std.specs.Prelude.{codes}
use Rattle.act1_circuit.specs.declared.circuit.Circuit.{Circuit}
use Rattle.act1_circuit.specs.declared.circuit.Placed.{Placed}
use Rattle.act1_circuit.specs.declared.circuit.Source.{Source}
use Rattle.act1_circuit.specs.declared.circuit.Source.TheVariants.{Zero, One, Input, Module}
use Rattle.act1_circuit.specs.declared.circuit.Spot.{Spot}
use Rattle.act1_plan.specs.Order.{IsInSiteOrder, named, site_number}
use Rattle.act1_planned.specs.Placed.{IsPlacedAt}

-- the first takes the second, which takes the input; each has a start
abbrev pub circuit : Circuit
circuit = record {
  clock = None;
  inputs = codes "a" ∷ [];
  modules = (One ∷ Zero ∷ Zero ∷ Zero ∷ Zero ∷ Zero ∷ Module 1 ∷ Zero ∷ []) ∷ (One ∷ Zero ∷ Zero ∷ Zero ∷ Zero ∷ Zero ∷ Input 0 ∷ Zero ∷ []) ∷ [];
  outputs = record { name = codes "y"; source = Module 0 } ∷ [];
  starts = (record { «module» = 0; init = 1; name = codes "p" }) ∷ (record { «module» = 1; init = 0; name = codes "q" }) ∷ [];
}

abbrev pub spots : List Spot
spots = (record { row = 1; column = 0 }) ∷ (record { row = 0; column = 3 }) ∷ []

-- the second module comes first, and its start too
abbrev pub in_order : Placed
in_order = record {
  circuit = record {
    clock = None;
    inputs = codes "a" ∷ [];
    modules = (One ∷ Zero ∷ Zero ∷ Zero ∷ Zero ∷ Zero ∷ Input 0 ∷ Zero ∷ []) ∷ (One ∷ Zero ∷ Zero ∷ Zero ∷ Zero ∷ Zero ∷ Module 0 ∷ Zero ∷ []) ∷ [];
    outputs = record { name = codes "y"; source = Module 1 } ∷ [];
    starts = (record { «module» = 0; init = 0; name = codes "q" }) ∷ (record { «module» = 1; init = 1; name = codes "p" }) ∷ [];
  };
  spots = (record { row = 0; column = 3 }) ∷ (record { row = 1; column = 0 }) ∷ [];
}

some_of : {X : Type 0} (x y : X) → Some x ≡ Some y → x ≡ y
some_of x y e = cc

in_site_order : IsInSiteOrder circuit spots in_order
in_site_order = record {
  rise = (inl (omega arith), tt);
  count = refl;
  modules_count = refl;
  spots_are = spots_are;
  modules = modules_are;
  clock = refl;
  inputs = refl;
  outputs = refl;
  starts = refl;
}
  where
    spots_are : (m : ℕ) (s : Spot) → slice_get spots m ≡ Some s → slice_get in_order.spots (site_number spots m) ≡ Some s
    spots_are zero s e = e
    spots_are (suc zero) s e = e
    spots_are (suc (suc m)) s e = cc

    modules_are : (m : ℕ) (pins : List Source) → slice_get circuit.modules m ≡ Some pins → slice_get in_order.circuit.modules (site_number spots m) ≡ Some (map (named (site_number spots)) pins)
    modules_are zero pins e = ap (λ (ss : List Source). let r : Option (List Source) = Some (map (named (site_number spots)) ss) in r) (some_of _ pins e)
    modules_are (suc zero) pins e = ap (λ (ss : List Source). let r : Option (List Source) = Some (map (named (site_number spots)) ss) in r) (some_of _ pins e)
    modules_are (suc (suc m)) pins e = cc

placed_at : IsPlacedAt circuit spots in_order
placed_at = record { each = refl; apart = apart; order = in_site_order }
  where
    apart : AllPairs (λ (s t : Spot). s ≢ t) spots
    apart zero (suc zero) d less low e = absurd (omega (arith, ap (λ (s : Spot). s.row) e))
    apart zero zero d less low e = absurd (omega arith)
    apart (suc i) (suc zero) d less low e = absurd (omega arith)
    apart i (suc (suc j)) d less low e = absurd (omega arith)
    apart (suc i) zero d less low e = absurd (omega arith)
