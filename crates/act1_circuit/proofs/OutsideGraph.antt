-- The graph of the modules without the clock on a pin: what they read of one another.
use Rattle.std.proofs.Common.{ℕ, zero, suc, ◌≡◌, ◌⊎◌, ◌<◌, ◌≤◌, Bool, true, false, List, [], ◌∷◌, length, Option, Some, None, refl, sym, ap, subst, ◌∙◌, inl, inr, arith}
use Rattle.std.specs.Prelude.{Contains, slice_index_or, if◌then◌else◌}
use Rattle.std.specs.List.{filter_map, cons_option}
use Rattle.std.proofs.lemmas.List.{get_or_past, get_or-map, length-map}
use Rattle.std.proofs.lemmas.Bool.{cases_lt}
use Rattle.act1_circuit.specs.declared.circuit.Circuit.{Circuit}
use Rattle.act1_circuit.specs.declared.circuit.Source.{Source}
use Rattle.act1_circuit.specs.declared.circuit.Source.TheVariants.{Zero, One, Clock, Input, Module}
use Rattle.act1_circuit.specs.Range.{InRange}
use Rattle.act1_order.specs.Order.{AreReads, Reads}
use Rattle.act1_circuit.specs.PairForm.{pins_of, pin_of, has_clock, outside_module, outside_reads, outside_reads_of}
use Rattle.act1_circuit.proofs.PairFacts.{source_within}

in_filtered : (c : Circuit) (ss : List Source) (pin k : ℕ) → slice_index_or ss pin Zero ≡ Module k → has_clock c k ≡ false → Contains (filter_map (outside_module c) ss) k
in_filtered c [] pin k e none = cc
in_filtered c (s ∷ ss) zero k e none = by (outside_module c s) (ap (outside_module c) e ∙ ap (λ (b : Bool). if b then None else Some k) none)
  where
    by : (o : Option ℕ) → o ≡ Some k → Contains (cons_option o (filter_map (outside_module c) ss)) k
    by None f = cc
    by (Some j) f = let same : j ≡ k = cc in (0, omega arith, same)
in_filtered c (s ∷ ss) (suc pin) k e none = by (outside_module c s) (in_filtered c ss pin k e none)
  where
    by : (o : Option ℕ) → Contains (filter_map (outside_module c) ss) k → Contains (cons_option o (filter_map (outside_module c) ss)) k
    by None h = h
    by (Some j) (i, low, f) = (suc i, omega arith, f)

-- a module that some pin has, and that has no clock
record IsOutsidePin (c : Circuit) (ss : List Source) (k : ℕ) : Type 0 where
  pin : ℕ
  is : slice_index_or ss pin Zero ≡ Module k
  none : has_clock c k ≡ false

from_filtered : (c : Circuit) (ss : List Source) (k : ℕ) → Contains (filter_map (outside_module c) ss) k → IsOutsidePin c ss k
from_filtered c [] k (i, low, e) = absurd (omega arith)
from_filtered c (s ∷ ss) k h = by (outside_module c s) refl h (from_filtered c ss k)
  where
    later : IsOutsidePin c ss k → IsOutsidePin c (s ∷ ss) k
    later h = record { pin = suc h.pin; is = h.is; none = h.none }

    chosen : (j i : ℕ) (b : Bool) → (if b then None else Some j) ≡ Some i → (j ≡ i) × (b ≡ false)
    chosen j i true e = cc
    chosen j i false e = (cc, refl)

    is : (t : Source) (j : ℕ) → outside_module c t ≡ Some j → (t ≡ Module j) × (has_clock c j ≡ false)
    is (Module i) j e = let by = chosen i j (has_clock c i) e in (ap Module by.0, ap (has_clock c) (sym by.0) ∙ by.1)
    is Zero j e = cc
    is One j e = cc
    is Clock j e = cc
    is (Input i) j e = cc

    by : (o : Option ℕ) → outside_module c s ≡ o → Contains (cons_option o (filter_map (outside_module c) ss)) k → (Contains (filter_map (outside_module c) ss) k → IsOutsidePin c ss k) → IsOutsidePin c (s ∷ ss) k
    by None f h r = later (r h)
    by (Some j) f (zero, low, e) r = let at = is s j f in record { pin = 0; is = at.0 ∙ ap Module e; none = ap (has_clock c) (sym e) ∙ at.1 }
    by (Some j) f (suc i, low, e) r = later (r (i, omega arith, e))

module _ (c : Circuit) where
  row : (m : ℕ) → m < length c.modules → slice_index_or (outside_reads c) m [] ≡ (if has_clock c m then [] else filter_map (outside_module c) (pins_of c m))
  row m low = get_or-map (outside_reads_of c) c.modules m [] [] low

  pub graph_long : length (outside_reads c) ≡ length c.modules
  graph_long = length-map c.modules (outside_reads_of c)

  -- a module without the clock reads those that it has on its pins
  pub reads_outside : (m k pin : ℕ) → m < length c.modules → has_clock c m ≡ false → has_clock c k ≡ false → pin_of c m pin ≡ Module k → Reads (outside_reads c) m k
  reads_outside m k pin low none out e =
      subst (λ (ks : List ℕ). Contains ks k) (sym (row m low ∙ ap (λ (b : Bool). if b then [] else filter_map (outside_module c) (pins_of c m)) none)) (in_filtered c (pins_of c m) pin k e out)

  -- and no others
  reads_pin : (m k : ℕ) → Reads (outside_reads c) m k → IsOutsidePin c (pins_of c m) k
  reads_pin m k h = by (cases_lt m (length c.modules))
    where
      one : (b : Bool) → Contains (if b then [] else filter_map (outside_module c) (pins_of c m)) k → IsOutsidePin c (pins_of c m) k
      one true (i, low, e) = absurd (omega arith)
      one false g = from_filtered c (pins_of c m) k g

      by : (m < length c.modules) ⊎ (length c.modules ≤ m) → IsOutsidePin c (pins_of c m) k
      by (inl low) = one (has_clock c m) (subst (λ (ks : List ℕ). Contains ks k) (row m low) h)
      by (inr high) =
          let long = graph_long in
          let none = get_or_past (outside_reads c) m [] (omega arith) in
          let g = subst (λ (ks : List ℕ). Contains ks k) none h in
          absurd (omega (arith, g.1))

  pub reads_unclocked : (m k : ℕ) → Reads (outside_reads c) m k → has_clock c k ≡ false
  reads_unclocked m k h = (reads_pin m k h).none

  pub reads_within : InRange c → AreReads (outside_reads c)
  reads_within range m k h = let f = reads_pin m k h in let low = source_within c range m f.pin k f.is in let long = graph_long in omega arith
