-- A circuit does the same under another numbering of its modules.
use Rattle.std.proofs.Common.{ℕ, zero, suc, ◌≡◌, ◌≢◌, ◌⊎◌, ◌+◌, ◌<◌, Bool, true, false, List, [], ◌∷◌, ◌++◌, length, map, Some, refl, sym, ap, subst, ◌∙◌, inl, inr, arith, slice_get, Contains, All}
use Rattle.std.specs.Prelude.{slice_index_or}
use Rattle.std.proofs.lemmas.Bool.{cases_eq}
use Rattle.std.proofs.lemmas.List.{length-map, length-set, map-append}
use Rattle.std.proofs.lemmas.List.Elements.{All-append, All-cons, All-contains, All-head, All-nil, All-tail}
use Rattle.std.proofs.lemmas.Option.{get_or_from_slice_get, slice_get-get_or}
use Rattle.act1_base.proofs.ListGets.{get_in, get_map, get_unwritten, get_written, same_gets}
use Rattle.act1_circuit.specs.declared.circuit.Circuit.{Circuit}
use Rattle.act1_circuit.specs.declared.circuit.Output.{Output}
use Rattle.act1_circuit.specs.declared.circuit.Source.{Source}
use Rattle.act1_circuit.specs.declared.circuit.Source.TheVariants.{Zero, One, Clock, Input, Module}
use Rattle.act1_circuit.specs.Firing.{AreRounds, IsAtRest, IsRound, IsWave, RestsAlong, Waves, fire, fire_all, fired, high_bits, low_bits, run, shown, source_value}
use Rattle.act1_circuit.specs.Range.{HasSource, InRange}
use Rattle.act1_logic.specs.Module.{module_of}
use Rattle.act1_base.specs.Lists.{numbers}
use Rattle.act1_plan.specs.Order.{named, renumbered_output}
use Rattle.act1_base.proofs.Elements.{mapped, numbers_get}
use Rattle.act1_planned.proofs.Numbered.{IsNumbered, fits}

length_numbers : (first count : ℕ) → length (numbers first count) ≡ count
length_numbers first zero = refl
length_numbers first (suc count) = ap suc (length_numbers (first + 1) count)

module _ (number : ℕ → ℕ) (c d : Circuit) (range : InRange c) (is : IsNumbered number c d) where
  -- each module has the same bit
  pub record SameBits (old new : List Bool) : Type 0 where
    pub old_count : length old ≡ length c.modules
    pub new_count : length new ≡ length c.modules
    pub bits : (m : ℕ) → m < length c.modules → slice_get old m ≡ slice_get new (number m)

  -- the bits that the modules have, by their first numbers
  pub old_bits : List Bool → List Bool
  old_bits new = map (λ m. slice_index_or new (number m) false) (numbers 0 (length c.modules))

  pub same_bits : (new : List Bool) → length new ≡ length c.modules → SameBits (old_bits new) new
  unfolding old_bits
  same_bits new count = record {
    old_count = length-map (numbers 0 (length c.modules)) bit_of ∙ length_numbers 0 (length c.modules);
    new_count = count;
    bits = λ m low. let from : 0 + m ≡ m = omega arith in
        get_map bit_of (numbers 0 (length c.modules)) m m (numbers_get 0 (length c.modules) m low ∙ ap (λ (n : ℕ). Some n) from)
        ∙ sym (slice_get-get_or new (number m) false (omega (arith, is.below m low, count)));
  }
    where
      bit_of : ℕ → Bool
      bit_of m = slice_index_or new (number m) false

  module _ (clock : Bool) (x : List Bool) where
    value_same : (old new : List Bool) → SameBits old new → (s : Source) → HasSource c s → source_value clock x old s ≡ source_value clock x new (named number s)
    value_same old new h Zero there = refl
    value_same old new h One there = refl
    value_same old new h Clock there = refl
    value_same old new h (Input i) there = refl
    value_same old new h (Module m) there =
        let b = get_in old m (omega (arith, there, h.old_count)) in
        get_or_from_slice_get old m b.0 false b.1 ∙ sym (get_or_from_slice_get new (number m) b.0 false (sym (h.bits m there) ∙ b.1))

    pin_named : (pins : List Source) (pin : ℕ) → slice_index_or (map (named number) pins) pin Zero ≡ named number (slice_index_or pins pin Zero)
    pin_named [] pin = refl
    pin_named (s ∷ pins) zero = refl
    pin_named (s ∷ pins) (suc pin) = pin_named pins pin

    pin_there : (pins : List Source) → All (HasSource c) pins → (pin : ℕ) → HasSource c (slice_index_or pins pin Zero)
    pin_there [] h pin = tt
    pin_there (s ∷ pins) h zero = All-head (HasSource c) s pins h
    pin_there (s ∷ pins) h (suc pin) = pin_there pins (All-tail (HasSource c) s pins h) pin

    fired_same : (old new : List Bool) → SameBits old new → (m : ℕ) → m < length c.modules → fired c clock x old m ≡ fired d clock x new (number m)
    fired_same old new h m low =
        let pins = get_in c.modules m low in
        let were : slice_index_or c.modules m [] ≡ pins.0 = get_or_from_slice_get c.modules m pins.0 [] pins.1 in
        let now : slice_index_or d.modules (number m) [] ≡ map (named number) pins.0 = get_or_from_slice_get d.modules (number m) (map (named number) pins.0) [] (is.modules m pins.0 pins.1) in
        let by_pin : (pin : ℕ) → source_value clock x old (slice_index_or pins.0 pin Zero) ≡ source_value clock x new (slice_index_or (map (named number) pins.0) pin Zero) =
        λ pin. value_same old new h (slice_index_or pins.0 pin Zero) (pin_there pins.0 (fits number c d range is m pins.0 pins.1).1 pin) ∙ ap (source_value clock x new) (sym (pin_named pins.0 pin)) in
        ap (λ (ss : List Source). module_of (λ pin. source_value clock x old (slice_index_or ss pin Zero))) were
        ∙ (λ i. module_of (λ pin. by_pin pin i))
        ∙ ap (λ (ss : List Source). module_of (λ pin. source_value clock x new (slice_index_or ss pin Zero))) (sym now)

    -- one firing
    fire_same : (old new : List Bool) → SameBits old new → (m : ℕ) → m < length c.modules → SameBits (fire c clock x old m) (fire d clock x new (number m))
    fire_same old new h m low = record {
      old_count = length-set old m (fired c clock x old m) ∙ h.old_count;
      new_count = length-set new (number m) (fired d clock x new (number m)) ∙ h.new_count;
      bits = λ k inside. by k inside (cases_eq k m);
    }
      where
        by : (k : ℕ) → k < length c.modules → (k ≡ m) ⊎ (k ≢ m) → slice_get (fire c clock x old m) k ≡ slice_get (fire d clock x new (number m)) (number k)
        by k inside (inl same) =
            ap (slice_get (fire c clock x old m)) same
            ∙ get_written old m (fired c clock x old m) (omega (arith, low, h.old_count))
            ∙ ap (λ (b : Bool). Some b) (fired_same old new h m low)
            ∙ sym (get_written new (number m) (fired d clock x new (number m)) (omega (arith, is.below m low, h.new_count)))
            ∙ ap (λ (j : ℕ). slice_get (fire d clock x new (number m)) (number j)) (sym same)
        by k inside (inr other) =
            get_unwritten old m k (fired c clock x old m) other ∙ h.bits k inside
            ∙ sym (get_unwritten new (number m) (number k) (fired d clock x new (number m)) (λ e. other (is.once k m inside low e)))

    -- firings one after the other
    fires_same : (ms : List ℕ) → All (λ m. m < length c.modules) ms → (old new : List Bool) → SameBits old new → SameBits (fire_all c clock x old ms) (fire_all d clock x new (map number ms))
    fires_same [] all old new h = h
    fires_same (m ∷ ms) all old new h =
        fires_same ms (All-tail (λ k. k < length c.modules) m ms all) (fire c clock x old m) (fire d clock x new (number m))
        (fire_same old new h m (All-head (λ k. k < length c.modules) m ms all))

    -- bits that no firing changes
    rest_same : (old new : List Bool) → SameBits old new → IsAtRest c clock x old → IsAtRest d clock x new
    rest_same old new h rests k low =
        let m = is.each k (omega (arith, low, is.count)) in
        subst (λ (j : ℕ). fire d clock x new j ≡ new) m.2 (same_gets (fire d clock x new (number m.0)) new (λ j. by m.0 m.1 j (cases_eq j (number m.0))))
      where
        by : (m : ℕ) → m < length c.modules → (j : ℕ) → (j ≡ number m) ⊎ (j ≢ number m) → slice_get (fire d clock x new (number m)) j ≡ slice_get new j
        by m inside j (inl same) =
            ap (slice_get (fire d clock x new (number m))) same
            ∙ get_written new (number m) (fired d clock x new (number m)) (omega (arith, is.below m inside, h.new_count))
            ∙ ap (λ (b : Bool). Some b) (sym (fired_same old new h m inside))
            ∙ sym (get_written old m (fired c clock x old m) (omega (arith, inside, h.old_count)))
            ∙ ap (λ (bs : List Bool). slice_get bs m) (rests m inside)
            ∙ h.bits m inside ∙ ap (slice_get new) (sym same)
        by m inside j (inr other) = get_unwritten new (number m) j (fired d clock x new (number m)) other

  abbrev HasOutput : Output → Type 0
  HasOutput o = HasSource c o.source

  outputs_same : (x old new : List Bool) → SameBits old new → (os : List Output) → All HasOutput os
      → map (λ (o : Output). source_value false x old o.source) os ≡ map (λ (o : Output). source_value false x new o.source) (map (renumbered_output number) os)
  outputs_same x old new h [] all = refl
  outputs_same x old new h (o ∷ os) all =
      λ i. value_same false x old new h o.source (All-head HasOutput o os all) i ∷ outputs_same x old new h os (All-tail HasOutput o os all) i

  shown_same : (x old new : List Bool) → SameBits old new → shown c x old ≡ shown d x new
  shown_same x old new h = outputs_same x old new h c.outputs range.outputs ∙ ap (map (λ (o : Output). source_value false x new o.source)) (sym is.outputs)

  -- waves

  pub renumbered : Waves → Waves
  renumbered w = record { low = map number w.low; high = map number w.high }

  abbrev pub AreBelow : Waves → Type 0
  AreBelow w = All (λ m. m < length c.modules) w.low × All (λ m. m < length c.modules) w.high

  low_same : (x : List Bool) (w : Waves) → AreBelow w → (old new : List Bool) → SameBits old new → SameBits (low_bits c old x w) (low_bits d new x (renumbered w))
  unfolding renumbered
  low_same x w all old new h = fires_same false x w.low all.0 old new h

  high_same : (x : List Bool) (w : Waves) → AreBelow w → (old new : List Bool) → SameBits old new → SameBits (high_bits c old x w) (high_bits d new x (renumbered w))
  unfolding renumbered
  high_same x w all old new h = fires_same true x w.high all.1 (low_bits c old x w) (low_bits d new x (renumbered w)) (low_same x w all old new h)

  -- what is shown, cycle by cycle
  pub run_same : (xs : List (List Bool)) (ws : List Waves) → All AreBelow ws → (old new : List Bool) → SameBits old new → run c old xs ws ≡ run d new xs (map renumbered ws)
  run_same [] ws all old new h = refl
  run_same (x ∷ xs) [] all old new h = refl
  run_same (x ∷ xs) (w ∷ ws) all old new h =
      let below = All-head AreBelow w ws all in
      λ i. shown_same x (low_bits c old x w) (low_bits d new x (renumbered w)) (low_same x w below old new h) i
      ∷ run_same xs ws (All-tail AreBelow w ws all) (high_bits c old x w) (high_bits d new x (renumbered w)) (high_same x w below old new h) i

  pub rests_same : (xs : List (List Bool)) (ws : List Waves) → All AreBelow ws → (old new : List Bool) → SameBits old new → RestsAlong c old xs ws → RestsAlong d new xs (map renumbered ws)
  rests_same [] ws all old new h rests = tt
  rests_same (x ∷ xs) [] all old new h rests = tt
  rests_same (x ∷ xs) (w ∷ ws) all old new h rests =
      let below = All-head AreBelow w ws all in (
        rest_same false x (low_bits c old x w) (low_bits d new x (renumbered w)) (low_same x w below old new h) rests.0,
        rest_same true x (high_bits c old x w) (high_bits d new x (renumbered w)) (high_same x w below old new h) rests.1,
        rests_same xs ws (All-tail AreBelow w ws all) (high_bits c old x w) (high_bits d new x (renumbered w)) (high_same x w below old new h) rests.2,
      )

  -- the waves that the new ones are

  listed_back : (ks : List ℕ) → All (λ k. k < length c.modules) ks → (ms : List ℕ) × All (λ m. m < length c.modules) ms × (map number ms ≡ ks)
  listed_back [] all = ([], All-nil (λ m. m < length c.modules), refl)
  listed_back (k ∷ ks) all = more (is.each k (All-head (λ m. m < length c.modules) k ks all)) (listed_back ks (All-tail (λ m. m < length c.modules) k ks all))
    where
      more : (m : ℕ) × (m < length c.modules) × (number m ≡ k) → (ms : List ℕ) × All (λ m. m < length c.modules) ms × (map number ms ≡ ks) → (ms : List ℕ) × All (λ m. m < length c.modules) ms × (map number ms ≡ k ∷ ks)
      more m ms = (m.0 ∷ ms.0, All-cons (λ k. k < length c.modules) m.0 ms.0 m.1 ms.1, λ i. m.2 i ∷ ms.2 i)

  round_back : (ks : List ℕ) → IsRound (length c.modules) ks → (ms : List ℕ) × IsRound (length c.modules) ms × (map number ms ≡ ks)
  round_back ks h =
      let ms = listed_back ks h.modules in
      (ms.0, record { modules = ms.1; each = λ m low. has ms.0 ms.1 m low (mapped number ms.0 (number m) (subst (λ (ns : List ℕ). Contains ns (number m)) (sym ms.2) (h.each (number m) (is.below m low)))) }, ms.2)
    where
      has : (ms : List ℕ) → All (λ m. m < length c.modules) ms → (m : ℕ) → m < length c.modules → (k : ℕ) × Contains ms k × (number k ≡ number m) → Contains ms m
      has ms all m low (k, inside, e) = subst (λ (j : ℕ). Contains ms j) (is.once k m (All-contains (λ j. j < length c.modules) ms k all inside) low e) inside

  rounds_back : (n : ℕ) (ks : List ℕ) → AreRounds (length c.modules) n ks → (ms : List ℕ) × AreRounds (length c.modules) n ms × (map number ms ≡ ks)
  rounds_back zero ks h = ([], refl, sym h)
  rounds_back (suc n) ks (round, rest, one, more, e) = both (round_back round one) (rounds_back n rest more)
    where
      both : (ms : List ℕ) × IsRound (length c.modules) ms × (map number ms ≡ round) → (ms : List ℕ) × AreRounds (length c.modules) n ms × (map number ms ≡ rest) → (ms : List ℕ) × AreRounds (length c.modules) (suc n) ms × (map number ms ≡ ks)
      both (first, is_round, a) (others, are_rounds, b) = (first ++ others, (first, others, is_round, are_rounds, refl), map-append number first others ∙ (λ i. a i ++ b i) ∙ sym e)

  rounds_below : (n : ℕ) (ms : List ℕ) → AreRounds (length c.modules) n ms → All (λ m. m < length c.modules) ms
  rounds_below zero ms h = subst (λ (ns : List ℕ). All (λ m. m < length c.modules) ns) (sym h) (All-nil (λ m. m < length c.modules))
  rounds_below (suc n) ms (round, rest, one, more, e) =
      subst (λ (ns : List ℕ). All (λ m. m < length c.modules) ns) (sym e) (All-append (λ m. m < length c.modules) round rest one.modules (rounds_below n rest more))

  abbrev pub BothAreWaves : Waves → Type 0
  BothAreWaves w = IsWave (length c.modules) w.low × IsWave (length c.modules) w.high

  pub waves_below : (w : Waves) → BothAreWaves w → AreBelow w
  waves_below w h = (rounds_below (length c.modules) w.low h.0, rounds_below (length c.modules) w.high h.1)

  pub waves_back : (ws : List Waves) → All BothAreWaves ws → (vs : List Waves) × All BothAreWaves vs × (map renumbered vs ≡ ws)
  unfolding renumbered
  waves_back [] all = ([], All-nil BothAreWaves, refl)
  waves_back (w ∷ ws) all =
      let h = All-head BothAreWaves w ws all in
      more (rounds_back (length c.modules) w.low h.0) (rounds_back (length c.modules) w.high h.1) (waves_back ws (All-tail BothAreWaves w ws all))
    where
      more : (ms : List ℕ) × IsWave (length c.modules) ms × (map number ms ≡ w.low) → (ms : List ℕ) × IsWave (length c.modules) ms × (map number ms ≡ w.high)
          → (vs : List Waves) × All BothAreWaves vs × (map renumbered vs ≡ ws) → (vs : List Waves) × All BothAreWaves vs × (map renumbered vs ≡ w ∷ ws)
      more low high vs =
          let v : Waves = record { low = low.0; high = high.0 } in
          (v ∷ vs.0, All-cons BothAreWaves v vs.0 (low.1, high.1) vs.1, λ i. (record { low = low.2 i; high = high.2 i }) ∷ vs.2 i)
