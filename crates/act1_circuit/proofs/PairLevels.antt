-- In a circuit in pair form the modules depend on one another by levels, in each half of the clock.
use Rattle.std.proofs.Common.{ℕ, ◌≡◌, ◌⊎◌, ◌+◌, ◌<◌, ◌≤◌, Bool, true, false, List, [], length, refl, sym, ap, subst, ◌∙◌, inl, inr, arith}
use Rattle.std.specs.List.{list_any}
use Rattle.std.proofs.lemmas.List.{get_or_past}
use Rattle.std.proofs.lemmas.Bool.{cases_lt, false≢true}
use Rattle.std.proofs.lemmas.Option.{slice_get_within}
use Rattle.act1_circuit.specs.declared.circuit.Circuit.{Circuit}
use Rattle.act1_circuit.specs.declared.circuit.Source.{Source}
use Rattle.act1_circuit.specs.declared.circuit.Source.TheVariants.{Zero, One, Clock, Input, Module}
use Rattle.act1_circuit.specs.Firing.{fired, source_value}
use Rattle.act1_circuit.specs.Range.{InRange}
use Rattle.act1_order.specs.Laws.{AreLevels}
use Rattle.act1_circuit.specs.Cycles.{bit}
use Rattle.act1_circuit.specs.PairForm.{Edge, rising, pin_of, is_clock, has_clock, IsPair, InPair, IsPairForm, outside_reads}
use Rattle.act1_circuit.proofs.PairFacts.{module_same, source_same, master_gives, slave_gives, master_fires, slave_fires, master_clock, slave_clock, same_edge, not_both, takes_no_master, outside_no_master, source_within, takes_within}
use Rattle.act1_circuit.proofs.OutsideGraph.{reads_outside}
use Rattle.act1_circuit.proofs.Settles.{IsLeveled}

-- what a module of a circuit in pair form is
pub data Role (c : Circuit) (m : ℕ) : Type 0 where
  outside : has_clock c m ≡ false → Role c m
  master : (edge : Edge) (takes : Source) (s : ℕ) → IsPair c edge takes m s → Role c m
  slave : (edge : Edge) (takes : Source) (k : ℕ) → IsPair c edge takes k m → Role c m

module _ (c : Circuit) (range : InRange c) (form : IsPairForm c) where
  abbrev n : ℕ
  n = length c.modules

  pub role : (m : ℕ) → Role c m
  role m = by (has_clock c m) refl (cases_lt m n)
    where
      pair : InPair c m → Role c m
      pair p = each p.edge p.takes p.other p.is
        where
          each : (f : Edge) (t : Source) (o : ℕ) → IsPair c f t m o ⊎ IsPair c f t o m → Role c m
          each f t o (inl h) = master f t o h
          each f t o (inr h) = slave f t o h

      by : (b : Bool) → has_clock c m ≡ b → (m < n) ⊎ (n ≤ m) → Role c m
      by false e q = outside e
      by true e (inl low) = pair (form.clocked m low e)
      by true e (inr high) = absurd (false≢true (ap (list_any is_clock) (sym (get_or_past c.modules m [] high)) ∙ e))

  module _ (level : ℕ → ℕ) (above : AreLevels (outside_reads c) level) where
    pub outside_above : (m k pin : ℕ) → m < n → has_clock c m ≡ false → has_clock c k ≡ false → pin_of c m pin ≡ Module k → level k < level m
    outside_above m k pin low none out e = above m k (reads_outside c m k pin low none out e)

    -- the level of a source
    source_level : Source → ℕ
    source_level (Module k) = level k
    source_level Zero = 0
    source_level One = 0
    source_level Clock = 0
    source_level (Input i) = 0

    -- the levels of masters and slaves: 0 where they hold their bits
    master_level : Edge → Bool → ℕ → ℕ
    master_level rising false l = 3 + l
    master_level rising true l = 0

    slave_level : Edge → Bool → ℕ
    slave_level rising false = 0
    slave_level rising true = 1

    role_level : (clock : Bool) (m : ℕ) → Role c m → ℕ
    role_level clock m (outside e) = 2 + level m
    role_level clock m (master f t s p) = master_level f clock (source_level t)
    role_level clock m (slave f t k p) = slave_level f clock

    pub level_in : Bool → ℕ → ℕ
    level_in clock m = role_level clock m (role m)

    slave_low : (f : Edge) (clock : Bool) → slave_level f clock < 2
    unfolding slave_level
    slave_low rising false = omega arith
    slave_low rising true = omega arith

    -- a source that isn't a master has the same value in bits that agree on lower levels
    below_outside : (clock : Bool) (m pin k : ℕ) → m < n → has_clock c m ≡ false → pin_of c m pin ≡ Module k → (r : Role c k) → role_level clock k r < 2 + level m
    unfolding role_level
    below_outside clock m pin k low none e (outside h) = let a = outside_above m k pin low none h e in omega arith
    below_outside clock m pin k low none e (master f t s p) = absurd (outside_no_master c f t m pin k s none e p)
    below_outside clock m pin k low none e (slave f t j p) = let a = slave_low f clock in omega arith

    below_takes : (clock : Bool) (f : Edge) (t : Source) (m s k : ℕ) → IsPair c f t m s → t ≡ Module k → (r : Role c k) → role_level clock k r < 3 + source_level t
    unfolding role_level source_level
    below_takes clock f t m s k p e (outside h) = let same = ap source_level e in omega arith
    below_takes clock f t m s k p e (master g u r q) = absurd (takes_no_master c f g t u m s k r p e q)
    below_takes clock f t m s k p e (slave g u j q) = let a = slave_low g clock in omega arith

    takes_same : (clock : Bool) (x a b : List Bool) (f : Edge) (t : Source) (m s l : ℕ) → IsPair c f t m s → 3 + source_level t ≤ l
        → ((k : ℕ) → k < n → level_in clock k < l → bit a k ≡ bit b k) → source_value clock x a t ≡ source_value clock x b t
    unfolding level_in
    takes_same clock x a b f t m s l p le agree = source_same clock x a b t (λ k e. let low = below_takes clock f t m s k p e (role k) in agree k (takes_within c range f t m s k p e) (omega arith))

    -- a slave's master holds its bit where the slave follows it
    master_low : (clock : Bool) (f : Edge) (t : Source) (k s : ℕ) → IsPair c f t k s → slave_level f clock ≡ 1 → (r : Role c k) → role_level clock k r ≡ 0
    unfolding role_level slave_level master_level
    master_low clock f t k s p e (outside h) = absurd (false≢true (sym h ∙ master_clock c f t k s p))
    master_low clock f t k s p e (slave g u j q) = absurd (not_both c f g t u k s j p q)
    master_low clock f t k s p e (master g u r q) = by g clock (subst (λ (b : Edge). slave_level b clock ≡ 1) (same_edge f g) e)
      where
        by : (g : Edge) (clock : Bool) → slave_level g clock ≡ 1 → master_level g clock (source_level u) ≡ 0
        by rising false e = absurd (omega arith)
        by rising true e = refl

    holds_by : (clock : Bool) (x bits : List Bool) (m : ℕ) (r : Role c m) → role_level clock m r ≡ 0 → fired c clock x bits m ≡ bit bits m
    unfolding role_level slave_level master_level
    holds_by clock x bits m (outside e) z = absurd (omega arith)
    holds_by clock x bits m (master f t s p) z = master_fires c clock x bits f t m s p ∙ by f clock (source_level t) z
      where
        by : (f : Edge) (clock : Bool) (l : ℕ) → master_level f clock l ≡ 0 → master_gives f clock (source_value clock x bits t) (bit bits m) ≡ bit bits m
        by rising false l e = absurd (omega arith)
        by rising true l e = refl
    holds_by clock x bits m (slave f t k p) z = slave_fires c clock x bits f t k m p ∙ by f clock z
      where
        by : (f : Edge) (clock : Bool) → slave_level f clock ≡ 0 → slave_gives f clock (bit bits k) (bit bits m) ≡ bit bits m
        by rising false e = refl
        by rising true e = absurd (omega arith)

    depends_by : (clock : Bool) (x a b : List Bool) (m : ℕ) → m < n → (r : Role c m) → 0 < role_level clock m r → ((k : ℕ) → k < n → level_in clock k < role_level clock m r → bit a k ≡ bit b k)
        → fired c clock x a m ≡ fired c clock x b m
    unfolding role_level slave_level master_level level_in
    depends_by clock x a b m within (outside none) some agree =
        module_same (λ pin. source_value clock x a (pin_of c m pin)) (λ pin. source_value clock x b (pin_of c m pin))
        (λ pin. source_same clock x a b (pin_of c m pin) (λ k e. agree k (source_within c range m pin k e) (below_outside clock m pin k within none e (role k))))
    depends_by clock x a b m within (master f t s p) some agree = master_fires c clock x a f t m s p ∙ by f clock refl some agree ∙ sym (master_fires c clock x b f t m s p)
      where
        by : (g : Edge) (h : Bool) → clock ≡ h → 0 < master_level g h (source_level t) → ((k : ℕ) → k < n → level_in clock k < master_level g h (source_level t) → bit a k ≡ bit b k)
            → master_gives g h (source_value clock x a t) (bit a m) ≡ master_gives g h (source_value clock x b t) (bit b m)
        by rising false e some agree = takes_same clock x a b f t m s (3 + source_level t) p (omega arith) agree
        by rising true e some agree = absurd (omega arith)
    depends_by clock x a b m within (slave f t k p) some agree = slave_fires c clock x a f t k m p ∙ by f clock refl refl some agree ∙ sym (slave_fires c clock x b f t k m p)
      where
        held : (g : Edge) (h : Bool) → f ≡ g → clock ≡ h → slave_level g h ≡ 1 → level_in clock k ≡ 0
        held g h e i one = master_low clock f t k m p (subst (λ (b : Edge). slave_level b clock ≡ 1) (sym e) (subst (λ (b : Bool). slave_level g b ≡ 1) (sym i) one)) (role k)

        by : (g : Edge) (h : Bool) → f ≡ g → clock ≡ h → 0 < slave_level g h → ((k : ℕ) → k < n → level_in clock k < slave_level g h → bit a k ≡ bit b k)
            → slave_gives g h (bit a k) (bit a m) ≡ slave_gives g h (bit b k) (bit b m)
        by rising false e i some agree = absurd (omega arith)
        by rising true e i some agree = let z = held rising true e i refl in agree k (slice_get_within c.modules k _ p.master) (omega arith)

    pub leveled : (clock : Bool) (x : List Bool) → IsLeveled c clock x (level_in clock)
    unfolding level_in
    leveled clock x = record {
      holds = λ bits m within z. holds_by clock x bits m (role m) z;
      depends = λ a b m within some agree. depends_by clock x a b m within (role m) some agree;
    }

    -- a slave holds its bit while the clock is 0
    slave_by : (clock : Bool) (f : Edge) (t : Source) (k s : ℕ) → IsPair c f t k s → (r : Role c s) → role_level clock s r ≡ slave_level f clock
    unfolding role_level
    slave_by clock f t k s p (outside h) = absurd (false≢true (sym h ∙ slave_clock c f t k s p))
    slave_by clock f t k s p (master g u r q) = absurd (not_both c g f u t s r k q p)
    slave_by clock f t k s p (slave g u j q) = ap (λ (b : Edge). slave_level b clock) (same_edge g f)

    pub held_slave : (f : Edge) (t : Source) (k s : ℕ) → IsPair c f t k s → level_in false s ≡ 0
    unfolding level_in slave_level
    held_slave rising t k s p = slave_by false rising t k s p (role s)

    -- and a master while it is 1
    pub held_master : (f : Edge) (t : Source) (k s : ℕ) → IsPair c f t k s → level_in true k ≡ 0
    unfolding level_in slave_level
    held_master rising t k s p = master_low true rising t k s p refl (role k)
