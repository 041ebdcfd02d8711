-- The form of a circuit, or its first fault, from what was found of its parts.
use Rattle.std.proofs.Common.{ℕ, zero, suc, ◌≡◌, ◌⊎◌, ◌<◌, Bool, true, false, List, [], ◌∷◌, length, Some, None, Ok, Err, refl, sym, ap, subst, ◌∙◌, inl, inr, arith}
use Rattle.std.specs.Prelude.{slice_get, slice_index_or}
use Rattle.std.proofs.lemmas.Bool.{cases_eq}
use Rattle.std.proofs.lemmas.Option.{slice_get-get_or}
use Rattle.act1_order.specs.Order.{OnRing}
use Rattle.act1_circuit.specs.declared.circuit.Circuit.{Circuit}
use Rattle.act1_circuit.specs.declared.circuit.Source.{Source}
use Rattle.act1_circuit.specs.declared.circuit.Start.{Start}
use Rattle.act1_circuit.specs.declared.pairs.FormFault.{FormFault}
use Rattle.act1_circuit.specs.declared.pairs.FormFault.TheVariants as fault
use Rattle.act1_circuit.specs.declared.pairs.Pair.{Pair}
use Rattle.act1_circuit.specs.FormFaults.{ArePairs, FormGives, HasFault, IsBefore, IsFirstFault, IsFormOf}
use Rattle.act1_circuit.specs.PairForm.{Edge, rising, has_clock, start_module, outside_reads, HasStart, InPair, IsPair, IsPairForm, IsStartModule}
use Rattle.act1_circuit.proofs.FormLemmas.{slave_low}
use Rattle.act1_circuit.specs.PairFormSteps.{AreStarted, IsClockFault, IsLeastWith, OrderGives, PairsGive}

-- a pair with this number, or none
searched : (f : Pair → ℕ) (ps : List Pair) (m : ℕ) → ((j : ℕ) × (p : Pair) × (slice_get ps j ≡ Some p) × (f p ≡ m)) ⊎ ((j : ℕ) (p : Pair) → slice_get ps j ≡ Some p → f p ≡ m → ⊥)
searched f [] m = inr (λ j p e. cc)
searched f (q ∷ ps) m = by (cases_eq (f q) m) (searched f ps m)
  where
    by : (f q ≡ m) ⊎ (f q ≡ m → ⊥) → ((j : ℕ) × (p : Pair) × (slice_get ps j ≡ Some p) × (f p ≡ m)) ⊎ ((j : ℕ) (p : Pair) → slice_get ps j ≡ Some p → f p ≡ m → ⊥)
        → ((j : ℕ) × (p : Pair) × (slice_get (q ∷ ps) j ≡ Some p) × (f p ≡ m)) ⊎ ((j : ℕ) (p : Pair) → slice_get (q ∷ ps) j ≡ Some p → f p ≡ m → ⊥)
    by (inl e) r = inl (0, q, refl, e)
    by (inr n) (inl (j, p, at, e)) = inl (suc j, p, at, e)
    by (inr n) (inr none) = inr each
      where
        some : (x y : Pair) → Some x ≡ Some y → x ≡ y
        some x y e = cc

        each : (j : ℕ) (p : Pair) → slice_get (q ∷ ps) j ≡ Some p → f p ≡ m → ⊥
        each zero p at e = n (ap f (some q p at) ∙ e)
        each (suc j) p at e = none j p at e

pub first_gives : (c : Circuit) (f : FormFault) → IsFirstFault c f → FormGives c (Err f)
first_gives c (fault.Clocked m) h = h
first_gives c (fault.ClockOut o) h = h
first_gives c (fault.Ring m) h = h
first_gives c (fault.Start m) h = h
first_gives c fault.Memory h = tt

-- a ring is the first fault where the clock has none
first_ring : (c : Circuit) (m : ℕ) → IsClockFault c None → OnRing (outside_reads c) m → ((k : ℕ) → k < m → OnRing (outside_reads c) k → ⊥) → IsFirstFault c (fault.Ring m)
first_ring c m clock ring least = record { has = ring; first = first }
  where
    first : (other : FormFault) → HasFault c other → IsBefore other (fault.Ring m) → ⊥
    first (fault.Clocked k) h e = clock.0 k h
    first (fault.ClockOut k) h e = clock.1 k h
    first (fault.Ring k) h (inl e) = omega arith
    first (fault.Ring k) h (inr e) = least k e.1 h
    first (fault.Start k) h (inl e) = omega arith
    first (fault.Start k) h (inr e) = let kind = e.0 in omega arith
    first fault.Memory h e = h

pub order_gives : (c : Circuit) (f : FormFault) → IsClockFault c None → OrderGives c (Err f) → FormGives c (Err f)
order_gives c (fault.Clocked m) clock h = absurd h
order_gives c (fault.ClockOut o) clock h = absurd h
order_gives c (fault.Ring m) clock h = first_ring c m clock h.ring h.first
order_gives c (fault.Start m) clock h = absurd h
order_gives c fault.Memory clock h = tt

-- a start is the first fault where the clock has none and no module depends on itself
first_start : (c : Circuit) (m : ℕ) → IsClockFault c None → ((k : ℕ) → OnRing (outside_reads c) k → ⊥) → IsLeastWith (λ k. HasFault c (fault.Start k)) (Some m) → IsFirstFault c (fault.Start m)
first_start c m clock rings least = record { has = least.0; first = first }
  where
    first : (other : FormFault) → HasFault c other → IsBefore other (fault.Start m) → ⊥
    first (fault.Clocked k) h e = clock.0 k h
    first (fault.ClockOut k) h e = clock.1 k h
    first (fault.Ring k) h e = rings k h
    first (fault.Start k) h (inl e) = omega arith
    first (fault.Start k) h (inr e) = least.1 k e.1 h
    first fault.Memory h e = h

module _ (c : Circuit) (pairs : List Pair) (are : ArePairs c pairs) where
  -- whether a module is a slave
  slave_or_none : (m : ℕ) → IsStartModule c m ⊎ (IsStartModule c m → ⊥)
  slave_or_none m = by (searched (λ (p : Pair). p.slave) pairs m)
    where
      by : ((j : ℕ) × (p : Pair) × (slice_get pairs j ≡ Some p) × (p.slave ≡ m)) ⊎ ((j : ℕ) (p : Pair) → slice_get pairs j ≡ Some p → p.slave ≡ m → ⊥) → IsStartModule c m ⊎ (IsStartModule c m → ⊥)
      by (inl (j, p, at, e)) = let each = are.each j p at in inl (record { edge = rising; takes = each.0; master = p.master; slave = p.slave; pair = each.1; here = e })
      by (inr none) = inr (λ h. each h.edge h.takes h.master h.slave h.pair h.here)
        where
          each : (edge : Edge) (takes : Source) (k s : ℕ) → IsPair c edge takes k s → start_module edge k s ≡ m → ⊥
          each rising takes k s p e = let found = are.all rising takes k s p in none found.0 found.1 found.2 (found.4 ∙ e)

  -- whether it is in a pair
  pair_or_none : (m : ℕ) → InPair c m ⊎ (InPair c m → ⊥)
  pair_or_none m = by (searched (λ (p : Pair). p.slave) pairs m) (searched (λ (p : Pair). p.master) pairs m)
    where
      by : ((j : ℕ) × (p : Pair) × (slice_get pairs j ≡ Some p) × (p.slave ≡ m)) ⊎ ((j : ℕ) (p : Pair) → slice_get pairs j ≡ Some p → p.slave ≡ m → ⊥)
          → ((j : ℕ) × (p : Pair) × (slice_get pairs j ≡ Some p) × (p.master ≡ m)) ⊎ ((j : ℕ) (p : Pair) → slice_get pairs j ≡ Some p → p.master ≡ m → ⊥) → InPair c m ⊎ (InPair c m → ⊥)
      by (inl (j, p, at, e)) q = let each = are.each j p at in inl (record { edge = rising; takes = each.0; other = p.master; is = inr (subst (λ (i : ℕ). IsPair c rising each.0 p.master i) e each.1) })
      by (inr none) (inl (j, p, at, e)) = let each = are.each j p at in inl (record { edge = rising; takes = each.0; other = p.slave; is = inl (subst (λ (i : ℕ). IsPair c rising each.0 i p.slave) e each.1) })
      by (inr none) (inr no_master) = inr (λ h. each h.edge h.takes h.other h.is)
        where
          each : (edge : Edge) (takes : Source) (o : ℕ) → IsPair c edge takes m o ⊎ IsPair c edge takes o m → ⊥
          each edge takes o (inl p) = let found = are.all edge takes m o p in no_master found.0 found.1 found.2 found.3
          each edge takes o (inr p) = let found = are.all edge takes o m p in none found.0 found.1 found.2 found.4

  -- where no module has a fault of starts, they stand where those of pairs do
  pub starts_stand : (started : List Bool) → AreStarted c started → IsLeastWith (λ k. HasFault c (fault.Start k)) None → PairsGive c (Ok pairs)
  starts_stand started are_started none = (are, λ k is. has_start k is (start_or_none k (slave_low c k is)), λ j start at. is_start j start at (slave_or_none start.module))
    where
      start_or_none : (m : ℕ) → m < length c.modules → HasStart c m ⊎ (HasStart c m → ⊥)
      start_or_none m low = by (slice_index_or started m false) refl
        where
          true_not : false ≡ true → ⊥
          true_not e = cc

          by : (b : Bool) → slice_index_or started m false ≡ b → HasStart c m ⊎ (HasStart c m → ⊥)
          by true e = inl ((are_started.each m low).0 e)
          by false e = inr (λ h. true_not (sym e ∙ (are_started.each m low).1 h))

      has_start : (k : ℕ) → IsStartModule c k → HasStart c k ⊎ (HasStart c k → ⊥) → HasStart c k
      has_start k is (inl h) = h
      has_start k is (inr h) = absurd (none k (inl (is, h)))

      is_start : (j : ℕ) (start : Start) → slice_get c.starts j ≡ Some start → IsStartModule c start.module ⊎ (IsStartModule c start.module → ⊥) → IsStartModule c start.module
      is_start j start at (inl h) = h
      is_start j start at (inr h) = absurd (none start.module (inr ((j, start, at, refl), h)))

pub pairs_give : (c : Circuit) (order : List ℕ) (f : FormFault) → IsClockFault c None → OrderGives c (Ok order) → PairsGive c (Err f) → FormGives c (Err f)
pairs_give c order (fault.Clocked m) clock rings h = absurd h
pairs_give c order (fault.ClockOut o) clock rings h = absurd h
pairs_give c order (fault.Ring m) clock rings h = absurd h
pairs_give c order (fault.Start m) clock rings h = first_start c m clock rings.1 h
pairs_give c order fault.Memory clock rings h = tt

pub is_form : (c : Circuit) (pairs : List Pair) (order : List ℕ) → IsClockFault c None → OrderGives c (Ok order) → PairsGive c (Ok pairs) → IsFormOf c (record { pairs = pairs; order = order })
is_form c pairs order clock ordered started = record { is = form; «pairs» = started.0; «order» = ordered.0 }
  where
    in_pair : (m : ℕ) → m < length c.modules → has_clock c m ≡ true → InPair c m ⊎ (InPair c m → ⊥) → InPair c m
    in_pair m low e (inl h) = h
    in_pair m low e (inr h) = absurd (clock.0 m (low, e, h))

    form : IsPairForm c
    form = record {
      clocked = λ m low e. in_pair m low e (pair_or_none c pairs started.0 m);
      outputs = λ j d low e. clock.1 j (slice_index_or c.outputs j d, slice_get-get_or c.outputs j d low, e);
      rings = ordered.1;
      starts = started.1;
      pairs = started.2;
    }
