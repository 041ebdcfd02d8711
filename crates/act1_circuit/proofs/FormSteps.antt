-- What is found of a circuit's starts and pairs, one by one, and of its form from all parts.
use Rattle.std.proofs.Common.{ℕ, zero, suc, ◌≡◌, ◌⊎◌, ◌+◌, ◌<◌, ◌≤◌, ◌++◌, ◌↔◌, Bool, true, false, List, [], ◌∷◌, length, Option, Some, None, IsTrue, option_to_list, replicate, refl, sym, ap, subst, ◌∙◌, inl, inr, arith}
use Rattle.std.specs.Prelude.{slice_get, slice_index_or, slice_set}
use Rattle.std.proofs.lemmas.Bool.{cases_eq}
use Rattle.std.proofs.lemmas.List.{length-set, get_or-set_same, get_or-set_other, length-replicate}
use Rattle.std.proofs.lemmas.Option.{slice_get_within}
use Rattle.act1_base.specs.Rising.{Rises}
use Rattle.act1_base.proofs.ListGets.{get_cases, get_last, get_more, get_within, one_at}
use Rattle.act1_circuit.specs.declared.circuit.Circuit.{Circuit}
use Rattle.act1_circuit.specs.declared.circuit.Source.{Source}
use Rattle.act1_circuit.specs.declared.circuit.Start.{Start}
use Rattle.act1_circuit.specs.declared.pairs.Pair.{Pair}
use Rattle.act1_circuit.specs.FormFaults.{ArePairs}
use Rattle.act1_circuit.specs.PairForm.{Edge, rising, slave_pins, HasStart, IsPair}
use Rattle.act1_circuit.specs.PairFormSteps.{ArePairsBelow, AreStarted, AreStartedBelow, IsPairAt}
use Rattle.act1_circuit.proofs.PairDecisions.{same_master}

module _ (c : Circuit) where
  -- one of the first k starts stands at the module
  abbrev StartBelow : ℕ → ℕ → Type 0
  StartBelow k m = (j : ℕ) × (start : Start) × (j < k) × (slice_get c.starts j ≡ Some start) × (start.module ≡ m)

  none_at : (n m : ℕ) → slice_index_or (replicate n false) m false ≡ false
  none_at zero m = refl
  none_at (suc n) zero = refl
  none_at (suc n) (suc m) = none_at n m

  pub none_started : AreStartedBelow c 0 (replicate (length c.modules) false)
  none_started = record { all = length-replicate (length c.modules) false; each = λ m low. (λ t. absurd (true_not (sym (none_at (length c.modules) m) ∙ t)), λ h. absurd (no h.0 h.2)) }
    where
      true_not : false ≡ true → ⊥
      true_not e = cc

      no : (j : ℕ) → j < 0 → ⊥
      no j low = omega arith

  pub more_started : (k : ℕ) (start : Start) (started : List Bool) → slice_get c.starts k ≡ Some start → start.module < length c.modules → AreStartedBelow c k started → AreStartedBelow c (k + 1) (slice_set started start.module true)
  more_started k start started at low below = record { all = length-set started start.module true ∙ below.all; each = λ m within. by m within (cases_eq m start.module) }
    where
      by : (m : ℕ) → m < length c.modules → (m ≡ start.module) ⊎ (m ≡ start.module → ⊥) → IsTrue (slice_index_or (slice_set started start.module true) m false) ↔ StartBelow (k + 1) m
      by m within (inl same) = (λ t. (k, start, omega arith, at, sym same), λ h. ap (λ (i : ℕ). slice_index_or (slice_set started start.module true) i false) same ∙ get_or-set_same started start.module true false (let all = below.all in omega arith))
      by m within (inr other) =
          let unset = get_or-set_other started start.module m true false other in
          (λ t. to ((below.each m within).0 (sym unset ∙ t)), λ h. unset ∙ (below.each m within).1 (from h))
        where
          to : StartBelow k m → StartBelow (k + 1) m
          to (j, s, l, e, f) = (j, s, omega arith, e, f)

          from : StartBelow (k + 1) m → StartBelow k m
          from (j, s, l, e, f) = at_j (cases_eq j k)
            where
              at_j : (j ≡ k) ⊎ (j ≡ k → ⊥) → StartBelow k m
              at_j (inl same) = absurd (other (sym f ∙ ap (λ (t : Start). t.module) (one_at c.starts k s start (subst (λ (i : ℕ). slice_get c.starts i ≡ Some s) same e) at)))
              at_j (inr apart) = (j, s, omega arith, e, f)

  pub all_started : (k : ℕ) (started : List Bool) → length c.starts ≤ k → AreStartedBelow c k started → AreStarted c started
  all_started k started high below = record { all = below.all; each = λ m low. (λ t. to m ((below.each m low).0 t), λ h. (below.each m low).1 (from m h)) }
    where
      to : (m : ℕ) → StartBelow k m → HasStart c m
      to m (j, s, l, e, f) = (j, s, e, f)

      from : (m : ℕ) → HasStart c m → StartBelow k m
      from m (j, s, e, f) = let within = get_within c.starts j s e in (j, s, omega arith, e, f)

  -- no pairs yet
  pub no_pairs : ArePairsBelow c 0 []
  no_pairs = record { each = λ j p e. cc; all = λ edge takes m s is low. absurd (none s low); rise = tt }
    where
      none : (s : ℕ) → s < 0 → ⊥
      none s low = omega arith

  abbrev IsBefore : Pair → Pair → Type 0
  IsBefore p q = p.slave < q.slave

  rises_on : (ps : List Pair) (q : Pair) → Rises IsBefore ps → ((j : ℕ) (p : Pair) → slice_get ps j ≡ Some p → p.slave < q.slave) → Rises IsBefore (ps ++ q ∷ [])
  rises_on [] q h below = tt
  rises_on (p ∷ []) q h below = (below 0 p refl, tt)
  rises_on (p ∷ r ∷ ps) q h below = (h.0, rises_on (r ∷ ps) q h.1 (λ j t e. below (suc j) t e))

  pub more_pairs : (k : ℕ) (pair : Option Pair) (pairs : List Pair) → IsPairAt c k pair → ArePairsBelow c k pairs → ArePairsBelow c (k + 1) (pairs ++ option_to_list pair)
  more_pairs k None pairs none below = subst (λ (ps : List Pair). ArePairsBelow c (k + 1) ps) (sym (no_more pairs)) (record { each = each; all = all; rise = below.rise })
    where
      no_more : (ps : List Pair) → ps ++ [] ≡ ps
      no_more [] = refl
      no_more (p ∷ ps) = ap (λ (qs : List Pair). p ∷ qs) (no_more ps)

      each : (j : ℕ) (p : Pair) → slice_get pairs j ≡ Some p → (p.slave < k + 1) × ((takes : Source) × IsPair c rising takes p.master p.slave)
      each j p e = let h = below.each j p e in let low = h.0 in (omega arith, h.1)

      all : (edge : Edge) (takes : Source) (m s : ℕ) → IsPair c edge takes m s → s < k + 1 → (j : ℕ) × (p : Pair) × (slice_get pairs j ≡ Some p) × (p.master ≡ m) × (p.slave ≡ s)
      all edge takes m s is low = by (cases_eq s k)
        where
          by : (s ≡ k) ⊎ (s ≡ k → ⊥) → (j : ℕ) × (p : Pair) × (slice_get pairs j ≡ Some p) × (p.master ≡ m) × (p.slave ≡ s)
          by (inl same) = absurd (none edge takes m (subst (λ (i : ℕ). IsPair c edge takes m i) same is))
          by (inr apart) = below.all edge takes m s is (omega arith)
  more_pairs k (Some pair) pairs here below = record { each = each; all = all; rise = rises_on pairs pair below.rise (λ j p e. let low = (below.each j p e).0 in let same = here.0 in omega arith) }
    where
      each : (j : ℕ) (p : Pair) → slice_get (pairs ++ pair ∷ []) j ≡ Some p → (p.slave < k + 1) × ((takes : Source) × IsPair c rising takes p.master p.slave)
      each j p e = by (get_cases pairs pair p j e)
        where
          by : (slice_get pairs j ≡ Some p) ⊎ ((j ≡ length pairs) × (pair ≡ p)) → (p.slave < k + 1) × ((takes : Source) × IsPair c rising takes p.master p.slave)
          by (inl f) = let h = below.each j p f in let low = h.0 in (omega arith, h.1)
          by (inr f) =
              let same = ap (λ (q : Pair). q.slave) (sym f.1) ∙ here.0 in
              (omega arith, (here.1.0, subst (λ (q : Pair). IsPair c rising here.1.0 q.master q.slave) f.1 (subst (λ (i : ℕ). IsPair c rising here.1.0 pair.master i) (sym here.0) here.1.1)))

      all : (edge : Edge) (takes : Source) (m s : ℕ) → IsPair c edge takes m s → s < k + 1 → (j : ℕ) × (p : Pair) × (slice_get (pairs ++ pair ∷ []) j ≡ Some p) × (p.master ≡ m) × (p.slave ≡ s)
      all edge takes m s is low = by (cases_eq s k)
        where
          by : (s ≡ k) ⊎ (s ≡ k → ⊥) → (j : ℕ) × (p : Pair) × (slice_get (pairs ++ pair ∷ []) j ≡ Some p) × (p.master ≡ m) × (p.slave ≡ s)
          by (inl same) = (length pairs, pair, get_last pairs pair (length pairs) refl, sym (same_master c pair.master s (subst (λ (i : ℕ). slice_get c.modules i ≡ Some (slave_pins rising pair.master i)) (sym same) here.1.1.slave) edge takes m is), here.0 ∙ sym same)
          by (inr apart) = earlier (below.all edge takes m s is (omega arith))
            where
              earlier : ((j : ℕ) × (p : Pair) × (slice_get pairs j ≡ Some p) × (p.master ≡ m) × (p.slave ≡ s)) → (j : ℕ) × (p : Pair) × (slice_get (pairs ++ pair ∷ []) j ≡ Some p) × (p.master ≡ m) × (p.slave ≡ s)
              earlier (j, p, e, f, g) = (j, p, get_more pairs pair p j e, f, g)

  pub all_pairs : (k : ℕ) (pairs : List Pair) → length c.modules ≤ k → ArePairsBelow c k pairs → ArePairs c pairs
  all_pairs k pairs high below = record { each = λ j p e. (below.each j p e).1; all = all; rise = below.rise }
    where
      low_slave : (edge : Edge) (takes : Source) (m s : ℕ) → IsPair c edge takes m s → s < length c.modules
      low_slave edge takes m s is = slice_get_within c.modules s (slave_pins edge m s) is.slave

      all : (edge : Edge) (takes : Source) (m s : ℕ) → IsPair c edge takes m s → (j : ℕ) × (p : Pair) × (slice_get pairs j ≡ Some p) × (p.master ≡ m) × (p.slave ≡ s)
      all edge takes m s is = let within = low_slave edge takes m s is in below.all edge takes m s is (omega arith)
