-- A circuit in pair form is so under another numbering of its modules.
use Rattle.std.proofs.Common.{ℕ, zero, suc, ◌≡◌, ◌≢◌, ◌<◌, ◌≤◌, ◌⊎◌, Bool, true, false, List, [], ◌∷◌, length, map, Some, None, refl, sym, ap, subst, ◌∙◌, inl, inr, arith, get_or, slice_get, Contains}
use Rattle.std.specs.Prelude.{slice_index_or, if◌then◌else◌}
use Rattle.std.specs.List.{AllByRecursion, filter_map, cons_option, list_any}
use Rattle.std.proofs.lemmas.Bool.{cases_lt}
use Rattle.std.proofs.lemmas.List.{get_or-map, get_or_past}
use Rattle.std.proofs.lemmas.List.Elements.{All-contains, recursion_from_All}
use Rattle.std.proofs.lemmas.Option.{get_or_from_slice_get, slice_get-get_or}
use Rattle.act1_base.proofs.ListGets.{contains_at, get_within, place_of, some_is}
use Rattle.act1_circuit.specs.declared.circuit.Circuit.{Circuit}
use Rattle.act1_circuit.specs.declared.circuit.Output.{Output}
use Rattle.act1_circuit.specs.declared.circuit.Source.{Source}
use Rattle.act1_circuit.specs.declared.circuit.Source.TheVariants.{Zero, One, Clock, Input, Module}
use Rattle.act1_circuit.specs.declared.circuit.Start.{Start}
use Rattle.act1_circuit.specs.PairForm.{Edge, rising, pins_of, pin_of, is_clock, has_clock, master_pins, slave_pins, IsPair, InPair, outside_module, outside_reads_of, outside_reads, start_module, IsStartModule, HasStart, IsPairForm}
use Rattle.act1_circuit.specs.Range.{HasSource, InRange}
use Rattle.act1_circuit.proofs.OutsideGraph.{reads_within, graph_long}
use Rattle.act1_circuit.proofs.PairFacts.{source_within, takes_has}
use Rattle.act1_order.specs.Order.{LeadsTo, OnRing, Reads}
use Rattle.act1_plan.specs.Order.{named, renumbered_output, renumbered_start, site_number}
use Rattle.act1_base.proofs.Elements.{in_map, mapped}
use Rattle.act1_planned.specs.Laws.{OrderKeepsForm}
use Rattle.act1_planned.proofs.Numbered.{IsNumbered, all_outputs, fits, numbered, start_back, start_on}
use Rattle.act1_planned.proofs.Pairs.{all_of}

-- the source that got this name
abbrev Was : (ℕ → ℕ) → Source → Source → Type 0
Was number s (Module k) = (m : ℕ) × (s ≡ Module m) × (number m ≡ k)
Was number s Zero = s ≡ Zero
Was number s One = s ≡ One
Was number s Clock = s ≡ Clock
Was number s (Input i) = s ≡ Input i

source_was : (number : ℕ → ℕ) (s r : Source) → named number s ≡ r → Was number s r
source_was number s r e = subst (λ (t : Source). Was number s t) e (own s)
  where
    own : (t : Source) → Was number t (named number t)
    own Zero = refl
    own One = refl
    own Clock = refl
    own (Input i) = refl
    own (Module m) = (m, refl, refl)

pin_named : (number : ℕ → ℕ) (ss : List Source) (pin : ℕ) → slice_index_or (map (named number) ss) pin Zero ≡ named number (slice_index_or ss pin Zero)
pin_named number [] pin = refl
pin_named number (s ∷ ss) zero = refl
pin_named number (s ∷ ss) (suc pin) = pin_named number ss pin

clock_named : (number : ℕ → ℕ) (ss : List Source) → list_any is_clock (map (named number) ss) ≡ list_any is_clock ss
clock_named number [] = refl
clock_named number (s ∷ ss) = by s (clock_named number ss)
  where
    by : (t : Source) → list_any is_clock (map (named number) ss) ≡ list_any is_clock ss → list_any is_clock (map (named number) (t ∷ ss)) ≡ list_any is_clock (t ∷ ss)
    by Zero h = h
    by One h = h
    by Clock h = refl
    by (Input i) h = h
    by (Module m) h = h

-- the pins of pairs under other numbers
master_named : (number : ℕ → ℕ) (edge : Edge) (takes : Source) (m : ℕ) → map (named number) (master_pins edge takes m) ≡ master_pins edge (named number takes) (number m)
master_named number rising takes m = refl

slave_named : (number : ℕ → ℕ) (edge : Edge) (m s : ℕ) → map (named number) (slave_pins edge m s) ≡ slave_pins edge (number m) (number s)
slave_named number rising m s = refl

start_named : (number : ℕ → ℕ) (edge : Edge) (m s : ℕ) → start_module edge (number m) (number s) ≡ number (start_module edge m s)
start_named number rising m s = refl

-- a master's first pin
first_pin : (edge : Edge) (takes : Source) (m : ℕ) → (pin : ℕ) × (slice_index_or (master_pins edge takes m) pin Zero ≡ takes)
first_pin rising takes m = (0, refl)

module _ (number : ℕ → ℕ) (c d : Circuit) (range : InRange c) (is : IsNumbered number c d) where
  is_below : (s : Source) → HasSource c s → (k : ℕ) → s ≡ Module k → k < length c.modules
  is_below s h k e = subst (HasSource c) e h

  -- sources of one name are one
  module_once : (s : Source) (m : ℕ) → ((k : ℕ) → s ≡ Module k → k < length c.modules) → m < length c.modules → named number s ≡ Module (number m) → s ≡ Module m
  module_once s m below low e = let r = source_was number s (Module (number m)) e in r.1 ∙ ap Module (is.once r.0 m (below r.0 r.1) low r.2)

  source_once : (s t : Source) → HasSource c s → HasSource c t → named number s ≡ named number t → s ≡ t
  source_once s (Module m) h k e = module_once s m (is_below s h) k e
  source_once s Zero h k e = source_was number s Zero e
  source_once s One h k e = source_was number s One e
  source_once s Clock h k e = source_was number s Clock e
  source_once s (Input i) h k e = source_was number s (Input i) e

  sources_once : (ss ts : List Source) → AllByRecursion (HasSource c) ss → AllByRecursion (HasSource c) ts → map (named number) ss ≡ map (named number) ts → ss ≡ ts
  sources_once [] [] h k e = refl
  sources_once [] (t ∷ ts) h k e = cc
  sources_once (s ∷ ss) [] h k e = cc
  sources_once (s ∷ ss) (t ∷ ts) h k e =
      let first : named number s ≡ named number t = cc in
      let rest : map (named number) ss ≡ map (named number) ts = cc in
      let a = source_once s t h.0 k.0 first in
      let b = sources_once ss ts h.1 k.1 rest in
      cc

  -- the module that has this number
  before : (k : ℕ) → k < length d.modules → (m : ℕ) × (m < length c.modules) × (number m ≡ k)
  before k low = is.each k (omega (arith, low, is.count))

  there : (m : ℕ) → m < length c.modules → slice_get c.modules m ≡ Some (pins_of c m)
  there m low = slice_get-get_or c.modules m [] low

  there_now : (m : ℕ) → m < length c.modules → slice_get d.modules (number m) ≡ Some (map (named number) (pins_of c m))
  there_now m low = is.modules m (pins_of c m) (there m low)

  pins_now : (m : ℕ) → m < length c.modules → pins_of d (number m) ≡ map (named number) (pins_of c m)
  pins_now m low = get_or_from_slice_get d.modules (number m) (map (named number) (pins_of c m)) [] (there_now m low)

  pin_now : (m pin : ℕ) → m < length c.modules → pin_of d (number m) pin ≡ named number (pin_of c m pin)
  pin_now m pin low = ap (λ (ss : List Source). slice_index_or ss pin Zero) (pins_now m low) ∙ pin_named number (pins_of c m) pin

  clock_now : (m : ℕ) → m < length c.modules → has_clock d (number m) ≡ has_clock c m
  clock_now m low = ap (list_any is_clock) (pins_now m low) ∙ clock_named number (pins_of c m)

  have_sources : (m : ℕ) → m < length c.modules → AllByRecursion (HasSource c) (pins_of c m)
  have_sources m low = recursion_from_All (HasSource c) (pins_of c m) (fits number c d range is m (pins_of c m) (there m low)).1

  -- what a module without the clock reads
  adds : (b e : Bool) (m : ℕ) (ks ls : List ℕ) → e ≡ b → ls ≡ map number ks → cons_option (if e then None else Some (number m)) ls ≡ map number (cons_option (if b then None else Some m) ks)
  adds true true m ks ls e h = h
  adds false false m ks ls e h = ap (λ (ns : List ℕ). number m ∷ ns) h
  adds true false m ks ls e h = cc
  adds false true m ks ls e h = cc

  outside_now : (ss : List Source) → AllByRecursion (HasSource c) ss → filter_map (outside_module d) (map (named number) ss) ≡ map number (filter_map (outside_module c) ss)
  outside_now [] h = refl
  outside_now (s ∷ ss) h = by s h.0 (outside_now ss h.1)
    where
      by : (t : Source) → HasSource c t → filter_map (outside_module d) (map (named number) ss) ≡ map number (filter_map (outside_module c) ss)
          → filter_map (outside_module d) (map (named number) (t ∷ ss)) ≡ map number (filter_map (outside_module c) (t ∷ ss))
      by Zero k rest = rest
      by One k rest = rest
      by Clock k rest = rest
      by (Input i) k rest = rest
      by (Module m) k rest = adds (has_clock c m) (has_clock d (number m)) m (filter_map (outside_module c) ss) (filter_map (outside_module d) (map (named number) ss)) (clock_now m k) rest

  reads_now : (m : ℕ) → m < length c.modules → slice_index_or (outside_reads d) (number m) [] ≡ map number (slice_index_or (outside_reads c) m [])
  reads_now m low =
      get_or-map (outside_reads_of d) d.modules (number m) [] [] (omega (arith, is.below m low, is.count))
      ∙ ap (outside_reads_of d) (pins_now m low)
      ∙ by (list_any is_clock (pins_of c m)) (list_any is_clock (map (named number) (pins_of c m))) (clock_named number (pins_of c m))
      ∙ sym (ap (map number) (get_or-map (outside_reads_of c) c.modules m [] [] low))
    where
      by : (b e : Bool) → e ≡ b
          → (if e then [] else filter_map (outside_module d) (map (named number) (pins_of c m))) ≡ map number (if b then [] else filter_map (outside_module c) (pins_of c m))
      by true true e = refl
      by false false e = outside_now (pins_of c m) (have_sources m low)
      by true false e = cc
      by false true e = cc

  -- a read is one of the circuit as it was
  read_back : (m l : ℕ) → m < length c.modules → Reads (outside_reads d) (number m) l → (n : ℕ) × (n < length c.modules) × (number n ≡ l) × Reads (outside_reads c) m n
  read_back m l low h =
      let r = mapped number (slice_index_or (outside_reads c) m []) l (subst (λ (ks : List ℕ). Contains ks l) (reads_now m low) h) in
      (r.0, omega (arith, reads_within c range m r.0 r.1, graph_long c), r.2, r.1)

  leads_back : (path : List ℕ) (m n : ℕ) → m < length c.modules → n < length c.modules → LeadsTo (outside_reads d) (number m) path (number n)
      → (old : List ℕ) × LeadsTo (outside_reads c) m old n
  leads_back [] m n low high h =
      let r = read_back m (number n) low h in
      ([], subst (Reads (outside_reads c) m) (is.once r.0 n r.1 high r.2) r.3)
  leads_back (u ∷ path) m n low high h =
      let r = read_back m u low h.0 in
      let rest = leads_back path r.0 n r.1 high (subst (λ (v : ℕ). LeadsTo (outside_reads d) v path (number n)) (sym r.2) h.1) in
      (r.0 ∷ rest.0, (r.3, rest.1))

  read_within : (k l : ℕ) → Reads (outside_reads d) k l → k < length d.modules
  read_within k l h = by (cases_lt k (length d.modules))
    where
      by : (k < length d.modules) ⊎ (length d.modules ≤ k) → k < length d.modules
      by (inl low) = low
      by (inr high) =
          let none = get_or_past (outside_reads d) k [] (omega (arith, graph_long d, high)) in
          let g = subst (λ (ks : List ℕ). Contains ks l) none h in
          absurd (omega (arith, g.1))

  leads_within : (path : List ℕ) (k l : ℕ) → LeadsTo (outside_reads d) k path l → k < length d.modules
  leads_within [] k l h = read_within k l h
  leads_within (u ∷ path) k l h = read_within k u h.0

  ring_back : (k : ℕ) → OnRing (outside_reads d) k → (m : ℕ) × OnRing (outside_reads c) m
  ring_back k h =
      let m = before k (leads_within h.path k k h.leads) in
      let old = leads_back h.path m.0 m.0 m.1 m.1 (subst (λ (v : ℕ). LeadsTo (outside_reads d) v h.path v) (sym m.2) h.leads) in
      (m.0, record { path = old.0; leads = old.1 })

  -- a pin with a module is one of the circuit's modules
  pin_within : (k pin m : ℕ) → pin_of c k pin ≡ Module m → k < length c.modules
  pin_within k pin m e = by (cases_lt k (length c.modules))
    where
      by : (k < length c.modules) ⊎ (length c.modules ≤ k) → k < length c.modules
      by (inl low) = low
      by (inr high) = let none : Zero ≡ Module m = sym (ap (λ (ss : List Source). slice_index_or ss pin Zero) (get_or_past c.modules k [] high)) ∙ e in cc

  pin_within_now : (k pin m : ℕ) → pin_of d k pin ≡ Module m → k < length d.modules
  pin_within_now k pin m e = by (cases_lt k (length d.modules))
    where
      by : (k < length d.modules) ⊎ (length d.modules ≤ k) → k < length d.modules
      by (inl low) = low
      by (inr high) = let none : Zero ≡ Module m = sym (ap (λ (ss : List Source). slice_index_or ss pin Zero) (get_or_past d.modules k [] high)) ∙ e in cc

  -- a pair stays one
  module _ (edge : Edge) (takes : Source) (m s : ℕ) (p : IsPair c edge takes m s) where
    low : m < length c.modules
    low = get_within c.modules m (master_pins edge takes m) p.master

    slave_low : s < length c.modules
    slave_low = get_within c.modules s (slave_pins edge m s) p.slave

    pins_on : (k pin : ℕ) → pin_of d k pin ≡ Module (number m) → (k ≡ number m) ⊎ (k ≡ number s)
    pins_on k pin e = by (p.pins j.0 pin (module_once (pin_of c j.0 pin) m (λ n f. source_within c range j.0 pin n f) low (sym (pin_now j.0 pin j.1) ∙ ap (λ (n : ℕ). pin_of d n pin) j.2 ∙ e)))
      where
        j : (n : ℕ) × (n < length c.modules) × (number n ≡ k)
        j = before k (pin_within_now k pin (number m) e)

        by : (j.0 ≡ m) ⊎ (j.0 ≡ s) → (k ≡ number m) ⊎ (k ≡ number s)
        by (inl f) = inl (sym j.2 ∙ ap number f)
        by (inr f) = inr (sym j.2 ∙ ap number f)

    pair_on : IsPair d edge (named number takes) (number m) (number s)
    pair_on = record {
      apart = λ e. p.apart (is.once m s low slave_low e);
      no_clock = λ e. p.no_clock (source_was number takes Clock e);
      no_own = λ e. p.no_own (module_once takes m (is_below takes (takes_has c range edge takes m s p)) low e);
      master = is.modules m (master_pins edge takes m) p.master ∙ ap (λ (ss : List Source). Some ss) (master_named number edge takes m);
      slave = is.modules s (slave_pins edge m s) p.slave ∙ ap (λ (ss : List Source). Some ss) (slave_named number edge m s);
      pins = pins_on;
      outputs = all_outputs number c d range is (λ (o : Output). o.source ≢ Module (number m))
          (λ i x short e. p.outputs i x short (module_once (get_or c.outputs i x).source m (is_below (get_or c.outputs i x).source (range.outputs i x short)) low e));
    }

  -- a pair was one
  module _ (edge : Edge) (takes : Source) (m s : ℕ) (low : m < length c.modules) (slave_low : s < length c.modules) (p : IsPair d edge takes (number m) (number s)) where
    first : (pin : ℕ) × (slice_index_or (master_pins edge takes (number m)) pin Zero ≡ takes)
    first = first_pin edge takes (number m)

    abbrev took : Source
    took = pin_of c m first.0

    master_now : map (named number) (pins_of c m) ≡ master_pins edge takes (number m)
    master_now = some_is (map (named number) (pins_of c m)) (master_pins edge takes (number m)) (sym (there_now m low) ∙ p.master)

    slave_now : map (named number) (pins_of c s) ≡ slave_pins edge (number m) (number s)
    slave_now = some_is (map (named number) (pins_of c s)) (slave_pins edge (number m) (number s)) (sym (there_now s slave_low) ∙ p.slave)

    took_is : named number took ≡ takes
    took_is = sym (pin_named number (pins_of c m) first.0) ∙ ap (λ (ss : List Source). slice_index_or ss first.0 Zero) master_now ∙ first.1

    took_has : HasSource c took
    took_has = has (cases_lt first.0 (length (pins_of c m)))
      where
        has : (first.0 < length (pins_of c m)) ⊎ (length (pins_of c m) ≤ first.0) → HasSource c took
        has (inl short) = (fits number c d range is m (pins_of c m) (there m low)).1 first.0 Zero short
        has (inr long) = subst (HasSource c) (sym (get_or_past (pins_of c m) first.0 Zero long)) tt

    master_has : (f : Edge) → AllByRecursion (HasSource c) (master_pins f took m)
    master_has rising = (took_has, (tt, (tt, (low, (tt, (tt, (tt, (tt, tt))))))))

    slave_has : (f : Edge) → AllByRecursion (HasSource c) (slave_pins f m s)
    slave_has rising = (slave_low, (tt, (tt, (low, (tt, (tt, (tt, (tt, tt))))))))

    master_was : pins_of c m ≡ master_pins edge took m
    master_was =
        sources_once (pins_of c m) (master_pins edge took m) (have_sources m low) (master_has edge)
        (master_now ∙ ap (λ (t : Source). master_pins edge t (number m)) (sym took_is) ∙ sym (master_named number edge took m))

    slave_was : pins_of c s ≡ slave_pins edge m s
    slave_was = sources_once (pins_of c s) (slave_pins edge m s) (have_sources s slave_low) (slave_has edge) (slave_now ∙ sym (slave_named number edge m s))

    pins_back : (k pin : ℕ) → pin_of c k pin ≡ Module m → (k ≡ m) ⊎ (k ≡ s)
    pins_back k pin e = by (p.pins (number k) pin (pin_now k pin inside ∙ ap (named number) e))
      where
        inside : k < length c.modules
        inside = pin_within k pin m e

        by : (number k ≡ number m) ⊎ (number k ≡ number s) → (k ≡ m) ⊎ (k ≡ s)
        by (inl f) = inl (is.once k m inside low f)
        by (inr f) = inr (is.once k s inside slave_low f)

    output_back : (o : Output) → Contains c.outputs o → o.source ≢ Module m
    output_back o h e =
        All-contains (λ (q : Output). q.source ≢ Module (number m)) d.outputs (renumbered_output number o) p.outputs
        (subst (λ (os : List Output). Contains os (renumbered_output number o)) (sym is.outputs) (in_map (renumbered_output number) c.outputs o h)) (ap (named number) e)

    pair_back : IsPair c edge took m s
    pair_back = record {
      apart = λ e. p.apart (ap number e);
      no_clock = λ e. p.no_clock (sym took_is ∙ ap (named number) e);
      no_own = λ e. p.no_own (sym took_is ∙ ap (named number) e);
      master = there m low ∙ ap (λ (ss : List Source). Some ss) master_was;
      slave = there s slave_low ∙ ap (λ (ss : List Source). Some ss) slave_was;
      pins = pins_back;
      outputs = all_of (λ (o : Output). o.source ≢ Module m) c.outputs output_back;
    }

  in_pair_on : (m : ℕ) → InPair c m → InPair d (number m)
  in_pair_on m h = by h.is
    where
      by : IsPair c h.edge h.takes m h.other ⊎ IsPair c h.edge h.takes h.other m → InPair d (number m)
      by (inl p) = record { edge = h.edge; takes = named number h.takes; other = number h.other; is = inl (pair_on h.edge h.takes m h.other p) }
      by (inr p) = record { edge = h.edge; takes = named number h.takes; other = number h.other; is = inr (pair_on h.edge h.takes h.other m p) }

  start_module_on : (k : ℕ) → IsStartModule c k → IsStartModule d (number k)
  start_module_on k h = record {
    edge = h.edge;
    takes = named number h.takes;
    master = number h.master;
    slave = number h.slave;
    pair = pair_on h.edge h.takes h.master h.slave h.pair;
    here = start_named number h.edge h.master h.slave ∙ ap number h.here;
  }

  start_module_back : (k : ℕ) → IsStartModule d k → (m : ℕ) × IsStartModule c m × (number m ≡ k)
  start_module_back k h =
      let m = before h.master (get_within d.modules h.master (master_pins h.edge h.takes h.master) h.pair.master) in
      let s = before h.slave (get_within d.modules h.slave (slave_pins h.edge h.master h.slave) h.pair.slave) in
      let p = subst (λ (y : ℕ). IsPair d h.edge h.takes (number m.0) y) (sym s.2) (subst (λ (x : ℕ). IsPair d h.edge h.takes x h.slave) (sym m.2) h.pair) in (
        start_module h.edge m.0 s.0,
        record {
          edge = h.edge;
          takes = took h.edge h.takes m.0 s.0 m.1 s.1 p;
          master = m.0;
          slave = s.0;
          pair = pair_back h.edge h.takes m.0 s.0 m.1 s.1 p;
          here = refl;
        },
        sym (start_named number h.edge m.0 s.0) ∙ ap (λ (x : ℕ). start_module h.edge x (number s.0)) m.2 ∙ ap (λ (y : ℕ). start_module h.edge h.master y) s.2 ∙ h.here,
      )

  has_start_on : (m : ℕ) → HasStart c m → HasStart d (number m)
  has_start_on m (j, start, at, e) =
      let place = place_of d.starts (renumbered_start number start) (start_on number c d range is start (contains_at c.starts j start at)) in
      (place.0, renumbered_start number start, place.1, ap number e)

  module _ (form : IsPairForm c) where
    clocked_so : (k : ℕ) → k < length d.modules → has_clock d k ≡ true → InPair d k
    clocked_so k low e =
        let m = before k low in
        subst (InPair d) m.2 (in_pair_on m.0 (form.clocked m.0 m.1 (sym (clock_now m.0 m.1) ∙ ap (has_clock d) m.2 ∙ e)))

    pairs_so : (j : ℕ) (start : Start) → slice_get d.starts j ≡ Some start → IsStartModule d start.module
    pairs_so j start e =
        let r = start_back number c d range is start (contains_at d.starts j start e) in
        let at = place_of c.starts r.0 r.1 in
        subst (IsStartModule d) (ap (λ (s : Start). s.module) r.2) (start_module_on r.0.module (form.pairs at.0 r.0 at.1))

    form_so : IsPairForm d
    form_so = record {
      clocked = clocked_so;
      outputs = all_outputs number c d range is (λ (o : Output). o.source ≢ Clock) (λ i x low e. form.outputs i x low (source_was number (get_or c.outputs i x).source Clock e));
      rings = λ k h. let r = ring_back k h in form.rings r.0 r.1;
      starts = λ k h. let r = start_module_back k h in subst (HasStart d) r.2 (has_start_on r.0 (form.starts r.0 r.1));
      pairs = pairs_so;
    }

pub order_keeps_form : OrderKeepsForm
order_keeps_form c spots p range placed form = form_so (site_number spots) c p.circuit range (numbered c spots p placed) form
