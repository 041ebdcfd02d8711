-- The signals of modules and sources, as they are found.
use Rattle.std.proofs.Common.{ℕ, suc, zero, ◌≡◌, ◌<◌, ◌≤◌, ◌+◌, ◌⊎◌, Bool, true, false, List, [], ◌∷◌, ◌++◌, length, map, Some, refl, sym, ap, subst, ◌∙◌, inl, inr, arith}
use Rattle.std.specs.Prelude.{slice_get, slice_index_or, if◌then◌else◌}
use Rattle.std.specs.List.{AllByRecursion}
use Rattle.std.proofs.lemmas.Bool.{cases_lt, false≢true}
use Rattle.std.proofs.lemmas.List.{get_or_past, length-append}
use Rattle.std.proofs.lemmas.Option.{get_or_from_slice_get}
use Rattle.act1_base.proofs.ListGets.{get_last, get_more}
use Rattle.act1_circuit.specs.declared.circuit.Circuit.{Circuit}
use Rattle.act1_circuit.specs.declared.circuit.Source.{Source}
use Rattle.act1_circuit.specs.declared.circuit.Source.TheVariants.{Zero, One, Clock, Input, Module}
use Rattle.act1_circuit.specs.PairForm.{has_clock, pin_of, pins_of}
use Rattle.act1_circuit.specs.Range.{HasSource, InRange}
use Rattle.act1_meaning.specs.Extracted.{count_below, different, first_node, is_constant, is_outside, is_slave, signal_of}
use Rattle.act1_meaning.proofs.SourceLists.{all_different, each_pin}
use Rattle.act1_extract.specs.Layout.{found_signal}
use Rattle.act1_extract.specs.Parts.{module_signals}

module _ (c : Circuit) where
  signals_long : (n : ℕ) → length (module_signals c n) ≡ n
  signals_long zero = refl
  signals_long (suc n) = let h = signals_long n in omega (arith, length-append (module_signals c n) (signal_of c (Module n) ∷ []))

  signals_get : (n m : ℕ) → m < n → slice_get (module_signals c n) m ≡ Some (signal_of c (Module m))
  signals_get zero m low = absurd (omega arith)
  signals_get (suc n) m low = by (λ small. signals_get n m small) (cases_lt m n)
    where
      by : (m < n → slice_get (module_signals c n) m ≡ Some (signal_of c (Module m))) → (m < n) ⊎ (n ≤ m) → slice_get (module_signals c n ++ signal_of c (Module n) ∷ []) m ≡ Some (signal_of c (Module m))
      by again (inl small) = get_more (module_signals c n) (signal_of c (Module n)) (signal_of c (Module m)) m (again small)
      by again (inr high) =
          let long = signals_long n in
          let is : n ≡ m = omega arith in
          get_last (module_signals c n) (signal_of c (Module n)) m (omega arith) ∙ ap (λ (k : ℕ). Some (signal_of c (Module k))) is

  pub found_is : (s : Source) → HasSource c s → found_signal (module_signals c (length c.modules)) s ≡ signal_of c s
  found_is Zero h = refl
  found_is One h = refl
  found_is Clock h = refl
  found_is (Input i) h = refl
  found_is (Module m) h = get_or_from_slice_get (module_signals c (length c.modules)) m (signal_of c (Module m)) 0 (signals_get (length c.modules) m h)

  pub pin_source : InRange c → (m pin : ℕ) → m < length c.modules → HasSource c (pin_of c m pin)
  pin_source range m pin low = by (cases_lt pin (length (pins_of c m)))
    where
      by : (pin < length (pins_of c m)) ⊎ (length (pins_of c m) ≤ pin) → HasSource c (pin_of c m pin)
      by (inl short) = (range.pins m [] low).1 pin Zero short
      by (inr high) = subst (λ (s : Source). HasSource c s) (sym (get_or_past (pins_of c m) pin Zero high)) tt

  same_map : (f g : Source → ℕ) (ss : List Source) → AllByRecursion (λ s. f s ≡ g s) ss → map f ss ≡ map g ss
  same_map f g [] h = refl
  same_map f g (s ∷ ss) h = rw (h.0, same_map f g ss h.1) refl

  pub found_inputs : InRange c → (m : ℕ) → m < length c.modules → map (found_signal (module_signals c (length c.modules))) (different (pins_of c m)) ≡ map (signal_of c) (different (pins_of c m))
  found_inputs range m low =
      same_map (found_signal (module_signals c (length c.modules))) (signal_of c) (different (pins_of c m))
      (all_different (λ s. found_signal (module_signals c (length c.modules)) s ≡ signal_of c s) (pins_of c m)
      (each_pin (λ s. is_constant s ≡ false → found_signal (module_signals c (length c.modules)) s ≡ signal_of c s) (pins_of c m)
      (λ pin none. found_is (pin_of c m pin) (pin_source range m pin low))))

  pub clocked_signal : (m : ℕ) → has_clock c m ≡ true → signal_of c (Module m) ≡ length c.inputs + count_below (is_slave c) m
  clocked_signal m e = ap (λ (b : Bool). if b then length c.inputs + count_below (is_slave c) m else first_node c + count_below (is_outside c) m) e

  pub outside_signal : (m : ℕ) → has_clock c m ≡ false → signal_of c (Module m) ≡ first_node c + count_below (is_outside c) m
  outside_signal m e = ap (λ (b : Bool). if b then length c.inputs + count_below (is_slave c) m else first_node c + count_below (is_outside c) m) e
