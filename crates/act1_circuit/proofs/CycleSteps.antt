-- What a cycle does in a circuit in pair form.
use Rattle.std.proofs.Common.{ℕ, zero, suc, ◌≡◌, ◌⊎◌, ◌<◌, ◌≤◌, Bool, true, false, List, [], ◌∷◌, length, map, refl, sym, ap, subst, ◌∙◌, inl, inr, arith}
use Rattle.std.specs.Prelude.{slice_index_or}
use Rattle.std.specs.List.{AllByRecursion}
use Rattle.std.proofs.lemmas.List.{get_or_past}
use Rattle.std.proofs.lemmas.Bool.{cases_lt, false≢true}
use Rattle.std.proofs.lemmas.Option.{slice_get_within}
use Rattle.std.proofs.lemmas.List.Elements.{recursion_from_All}
use Rattle.std.proofs.lemmas.List.Folds.{list_any_at}
use Rattle.act1_order.specs.Laws.{AreLevels, LevelsWithoutRing}
use Rattle.act1_circuit.specs.declared.circuit.Circuit.{Circuit}
use Rattle.act1_circuit.specs.declared.circuit.Output.{Output}
use Rattle.act1_circuit.specs.declared.circuit.Source.{Source}
use Rattle.act1_circuit.specs.declared.circuit.Source.TheVariants.{Zero, Module}
use Rattle.act1_circuit.specs.Cycles.{bit, taken_from, IsSteady, SameSlaves, SameTaken, IsCycle}
use Rattle.act1_circuit.specs.Firing.{fired, source_value, fire_all, IsAtRest, IsWave, Waves, low_bits, high_bits, shown}
use Rattle.act1_circuit.specs.Laws.{EachCycle, SlavesDecide}
use Rattle.act1_circuit.specs.PairForm.{Edge, rising, pins_of, pin_of, is_clock, has_clock, start_module, IsPair, IsPairForm, outside_reads}
use Rattle.act1_circuit.specs.Range.{HasSource, InRange}
use Rattle.act1_circuit.proofs.EveryOrder.{outside_levels}
use Rattle.act1_circuit.proofs.PairFacts.{module_same, source_same, master_fires, slave_fires, takes_no_master, outside_no_master, source_within, takes_within}
use Rattle.act1_circuit.proofs.PairLevels.{Role, outside, master, slave, role, level_in, held_slave, held_master, leveled, outside_above}
use Rattle.act1_circuit.proofs.Settles.{wave_final, final_rests, final_gives, final_held, length_final}

map_same : {X Y : Type 0} (f g : X → Y) (xs : List X) → AllByRecursion (λ x. f x ≡ g x) xs → map f xs ≡ map g xs
map_same f g [] h = refl
map_same f g (x ∷ xs) h = rw (h.0, map_same f g xs h.1) refl

module _ (c : Circuit) (range : InRange c) (form : IsPairForm c) (level : ℕ → ℕ) (above : AreLevels (outside_reads c) level) where
  abbrev n : ℕ
  n = length c.modules

  -- what a half of a cycle leaves of the bits that it began with
  record IsSettled (clock : Bool) (x start bits : List Bool) : Type 0 where
    long : length bits ≡ n
    rests : IsAtRest c clock x bits
    gives : (m : ℕ) → m < n → fired c clock x bits m ≡ bit bits m
    held : (m : ℕ) → m < n → level_in c range form level above clock m ≡ 0 → bit bits m ≡ bit start m

  settled : (clock : Bool) (x start : List Bool) → length start ≡ n → (ms : List ℕ) → IsWave n ms → IsSettled clock x start (fire_all c clock x start ms)
  settled clock x start long ms wave =
      let l = leveled c range form level above clock x in
      let at = level_in c range form level above clock in
      let here = wave_final c clock x at start l long ms wave in
      subst (λ (bits : List Bool). IsSettled clock x start bits) (sym here) (record {
        long = length_final c clock x at start l long;
        rests = final_rests c clock x at start l long;
        gives = final_gives c clock x at start l long;
        held = final_held c clock x at start l long;
      })

  module _ (x start low high : List Bool) (first : IsSettled false x start low) (second : IsSettled true x low high) where
    held : (f : Edge) (t : Source) (m s : ℕ) → IsPair c f t m s → bit low s ≡ bit start (start_module f m s)
    held rising t m s p = first.held s (slice_get_within c.modules s _ p.slave) (held_slave c range form level above rising t m s p)

    taken : (f : Edge) (t : Source) (m s : ℕ) → IsPair c f t m s → bit high (start_module f m s) ≡ source_value false x (taken_from f low high) t
    taken rising t m s p =
        sym (second.gives s (slice_get_within c.modules s _ p.slave))
        ∙ slave_fires c true x high rising t m s p
        ∙ second.held m (slice_get_within c.modules m _ p.master) (held_master c range form level above rising t m s p)
        ∙ sym (first.gives m (slice_get_within c.modules m _ p.master))
        ∙ master_fires c false x low rising t m s p

    cycle : IsCycle c x start low high
    cycle = record {
      one_each = second.long;
      low_rests = first.rests;
      high_rests = second.rests;
      steady = λ m within none. first.gives m within;
      held = held;
      taken = taken;
    }

  pub in_cycle : (x start : List Bool) → length start ≡ n → (w : Waves) → IsWave n w.low → IsWave n w.high → IsCycle c x start (low_bits c start x w) (high_bits c start x w)
  in_cycle x start long w low high =
      let first = settled false x start long w.low low in
      cycle x start (low_bits c start x w) (high_bits c start x w) first (settled true x (low_bits c start x w) first.long w.high high)

  module _ (x p q : List Bool) (sp : IsSteady c x p) (sq : IsSteady c x q) (slaves : SameSlaves c p q) where
    -- settled bits with the same bits at the slaves are the same outside pairs
    same_outside : (l m : ℕ) → m < n → has_clock c m ≡ false → level m < l → bit p m ≡ bit q m
    same_outside zero m within none low = absurd (omega arith)
    same_outside (suc l) m within none low =
        sym (sp m within none)
        ∙ module_same (λ pin. source_value false x p (pin_of c m pin)) (λ pin. source_value false x q (pin_of c m pin))
        (λ pin. source_same false x p q (pin_of c m pin) (λ k e. at pin k e (λ low2 none2. same_outside l k (source_within c range m pin k e) none2 low2) (role c range form k)))
        ∙ sq m within none
      where
        at : (pin k : ℕ) → pin_of c m pin ≡ Module k → (level k < l → has_clock c k ≡ false → bit p k ≡ bit q k) → Role c k → bit p k ≡ bit q k
        at pin k e before (outside h) = let a = outside_above c range form level above m k pin within none h e in before (omega arith) h
        at pin k e before (master f t s h) = absurd (outside_no_master c f t m pin k s none e h)
        at pin k e before (slave f t j h) = slaves f t j k h

    -- and so at each source that is no master
    same_source : (s : Source) → ((k : ℕ) → s ≡ Module k → k < n) → ((f : Edge) (t : Source) (k r : ℕ) → s ≡ Module k → IsPair c f t k r → ⊥) → source_value false x p s ≡ source_value false x q s
    same_source s within no_master = source_same false x p q s (λ k e. at k e (role c range form k))
      where
        at : (k : ℕ) → s ≡ Module k → Role c k → bit p k ≡ bit q k
        at k e (outside h) = same_outside (suc (level k)) k (within k e) h (omega arith)
        at k e (master f t r h) = absurd (no_master f t k r e h)
        at k e (slave f t j h) = slaves f t j k h

    pub same_shown : shown c x p ≡ shown c x q
    same_shown =
        map_same (λ (o : Output). source_value false x p o.source) (λ (o : Output). source_value false x q o.source) c.outputs
        (recursion_from_All (λ (o : Output). source_value false x p o.source ≡ source_value false x q o.source) c.outputs
        (λ k d low. same_source (slice_index_or c.outputs k d).source
        (λ j e. subst (λ (s : Source). HasSource c s) e (range.outputs k d low))
        (λ f t j r e h. h.outputs k d low e)))

    pub same_taken : SameTaken c x p q
    same_taken f t m s h = same_source t (λ k e. takes_within c range f t m s k h e) (λ g u k r e w. takes_no_master c f g t u m s k r h e w)

pub each_cycle : LevelsWithoutRing → EachCycle
each_cycle levels c range form x start long w low high =
    let o = outside_levels levels c range form in
    in_cycle c range form o.0 o.1 x start long w low high

pub slaves_decide : LevelsWithoutRing → SlavesDecide
slaves_decide levels c range form x p q sp sq slaves =
    let o = outside_levels levels c range form in
    (same_shown c range form o.0 o.1 x p q sp sq slaves, same_taken c range form o.0 o.1 x p q sp sq slaves)
