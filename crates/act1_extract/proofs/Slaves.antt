-- In pair form the starts stand at the slaves, and their order is that of the slaves.
use Rattle.std.proofs.Common.{ℕ, suc, zero, ◌≡◌, ◌≢◌, ◌<◌, ◌≤◌, ◌+◌, ◌⊎◌, ◌&&◌, ◌||◌, Bool, true, false, List, [], ◌∷◌, length, map, Option, Some, refl, sym, ap, subst, ◌∙◌, inl, inr, arith}
use Rattle.std.specs.Prelude.{slice_get, slice_index_or, ◌==◌}
use Rattle.std.proofs.lemmas.Bool.{cases_lt, false≢true}
use Rattle.std.proofs.lemmas.Bool.Decides.{nat_tests}
use Rattle.std.specs.List.{list_any}
use Rattle.std.proofs.lemmas.List.{get_or_past, length-map}
use Rattle.std.proofs.lemmas.List.Folds.{list_any_at}
use Rattle.act1_base.specs.Rising.{Rises}
use Rattle.act1_base.proofs.ListGets.{get_map, get_mapped, some_is}
use Rattle.act1_base.proofs.RisingLists.{places_rise}
use Rattle.act1_circuit.specs.declared.circuit.Circuit.{Circuit}
use Rattle.act1_circuit.specs.declared.circuit.Start.{Start}
use Rattle.act1_circuit.specs.declared.circuit.Source.{Source}
use Rattle.act1_circuit.specs.declared.circuit.Source.TheVariants.{Zero, One, Clock, Input, Module}
use Rattle.act1_circuit.specs.PairForm.{Edge, rising, InPair, IsPair, IsPairForm, IsStartModule, has_clock, is_clock, master_pins, pin_of, pins_of, slave_pins, start_module}
use Rattle.act1_circuit.specs.Range.{InRange}
use Rattle.act1_circuit.proofs.PairFacts.{pins_are}
use Rattle.act1_circuit.proofs.FormLemmas.{start_low}
use Rattle.act1_meaning.specs.Extracted.{Takes, count_below, is_same, is_slave}
use Rattle.act1_meaning.proofs.SourceLists.{same_is}
use Rattle.act1_extract.specs.Layout.{has_taken, module_number, start_takes}
use Rattle.act1_extract.proofs.Ranks.{rank, ranks}

number_same : (m n : ℕ) → m ≡ n → (m == n) ≡ true
number_same m n e = grind (arith, nat_tests)

pub itself : (s : Source) → is_same s s ≡ true
itself Zero = refl
itself One = refl
itself Clock = refl
itself (Input i) = number_same i i refl
itself (Module i) = number_same i i refl

both : (a b : Bool) → a ≡ true → b ≡ true → (a && b) ≡ true
both true b e f = f
both false b e f = absurd (false≢true e)

parts : (a b : Bool) → (a && b) ≡ true → (a ≡ true) × (b ≡ true)
parts true true e = (refl, refl)
parts true false e = absurd (false≢true e)
parts false b e = absurd (false≢true e)

module _ (c : Circuit) (range : InRange c) (form : IsPairForm c) where
  pub slave_is : (edge : Edge) (takes : Source) (m s : ℕ) → IsPair c edge takes m s → is_slave c s ≡ true
  slave_is rising takes m s p =
      let is = pins_are c s (slave_pins rising m s) p.slave in
      both (is_clock (pin_of c s 6)) (is_same (pin_of c s 0) (Module s))
      (ap (λ (ps : List Source). is_clock (slice_index_or ps 6 Zero)) is)
      (ap (λ (ps : List Source). is_same (slice_index_or ps 0 Zero) (Module s)) is ∙ itself (Module s))

  pub clock_there : (m : ℕ) → is_slave c m ≡ true → has_clock c m ≡ true
  clock_there m e = seen (pins_of c m) (parts (is_clock (pin_of c m 6)) (is_same (pin_of c m 0) (Module m)) e).0
    where
      seen : (ps : List Source) → is_clock (slice_index_or ps 6 Zero) ≡ true → list_any is_clock ps ≡ true
      seen ps h = by (cases_lt 6 (length ps))
        where
          by : (6 < length ps) ⊎ (length ps ≤ 6) → list_any is_clock ps ≡ true
          by (inl low) = list_any_at is_clock ps 6 Zero low h
          by (inr high) = absurd (false≢true (sym (ap is_clock (get_or_past ps 6 Zero high)) ∙ h))

  -- such a module is the slave of a pair
  pub slave_of : (m : ℕ) → m < length c.modules → is_slave c m ≡ true → IsStartModule c m
  slave_of m low e = by p.edge p.takes p.other p.is
    where
      p : InPair c m
      p = form.clocked m low (clock_there m e)

      by : (edge : Edge) (takes : Source) (other : ℕ) → IsPair c edge takes m other ⊎ IsPair c edge takes other m → IsStartModule c m
      by rising takes other (inr q) = record { edge = rising; takes = takes; master = other; slave = m; pair = q; here = refl }
      by rising takes other (inl q) =
          let is = pins_are c m (master_pins rising takes m) q.master in
          let own = same_is (pin_of c m 0) (Module m) (parts (is_clock (pin_of c m 6)) (is_same (pin_of c m 0) (Module m)) e).1 in
          absurd (q.no_own (sym (ap (λ (ps : List Source). slice_index_or ps 0 Zero) is) ∙ own))

  pub slave_here : (k : ℕ) → IsStartModule c k → is_slave c k ≡ true
  slave_here k is = by is.edge is.takes is.master is.slave is.pair is.here
    where
      by : (edge : Edge) (takes : Source) (m s : ℕ) → IsPair c edge takes m s → start_module edge m s ≡ k → is_slave c k ≡ true
      by rising takes m s p e = ap (is_slave c) (sym e) ∙ slave_is rising takes m s p

  -- what the latch of a pair's start takes is what the pair takes
  pub takes_is : (edge : Edge) (takes : Source) (m s : ℕ) (start : Start) → IsPair c edge takes m s → start.module ≡ start_module edge m s → start_takes c start ≡ takes
  takes_is rising takes m s start p e =
      let three : pin_of c start.module 3 ≡ Module m = ap (λ (k : ℕ). pin_of c k 3) e ∙ ap (λ (ps : List Source). slice_index_or ps 3 Zero) (pins_are c s (slave_pins rising m s) p.slave) in
      ap (λ (t : Source). pin_of c (module_number t) 0) three ∙ ap (λ (ps : List Source). slice_index_or ps 0 Zero) (pins_are c m (master_pins rising takes m) p.master)

  abbrev module_at : Start → ℕ
  module_at start = start.module

  abbrev places : List ℕ
  places = map module_at c.starts

  module _ (rise : Rises (λ (s t : Start). s.module < t.module) c.starts) where
    places_up : (i j a b : ℕ) → slice_get places i ≡ Some a → slice_get places j ≡ Some b → i < j → a < b
    places_up i j a b e f low =
        let s = get_mapped module_at c.starts i a e in
        let t = get_mapped module_at c.starts j b f in
        let less = places_rise (λ (u v : Start). u.module < v.module) (λ u h. absurd (omega (arith, h))) (λ u v w h k. omega (arith, h, k)) c.starts rise i j s.0 t.0 s.1 t.1 low in
        let x = s.2 in
        let y = t.2 in omega arith

    places_fit : (j a : ℕ) → slice_get places j ≡ Some a → (a < length c.modules) × (is_slave c a ≡ true)
    places_fit j a e =
        let s = get_mapped module_at c.starts j a e in
        let low = start_low c range j s.0 s.1 in
        let is = s.2 in
        (omega arith, ap (is_slave c) (sym is) ∙ slave_here s.0.module (form.pairs j s.0 s.1))

    places_all : (m : ℕ) → m < length c.modules → is_slave c m ≡ true → (j : ℕ) × (slice_get places j ≡ Some m)
    places_all m low e =
        let h = form.starts m (slave_of m low e) in
        (h.0, get_map module_at c.starts h.0 h.1 h.2 ∙ ap (λ (k : ℕ). let r : Option ℕ = Some k in r) h.3)

    pub start_rank : (j : ℕ) (start : Start) → slice_get c.starts j ≡ Some start → count_below (is_slave c) start.module ≡ j
    start_rank j start e = rank (is_slave c) (length c.modules) places places_up places_fit places_all j start.module (get_map module_at c.starts j start e)

    pub start_count : length c.starts ≡ count_below (is_slave c) (length c.modules)
    start_count = sym (length-map c.starts module_at) ∙ ranks (is_slave c) (length c.modules) places places_up places_fit places_all

  -- a source is taken where some start's latch takes it
  any_taken : (source : Source) (starts : List Start) (j : ℕ) (start : Start) → slice_get starts j ≡ Some start → start_takes c start ≡ source → has_taken c source starts ≡ true
  any_taken source [] j start e f = cc
  any_taken source (s ∷ starts) zero start e f =
      let is : s ≡ start = some_is s start e in
      left (is_same source (start_takes c s)) (has_taken c source starts) (ap (λ (t : Source). is_same source t) (ap (start_takes c) is ∙ f) ∙ itself source)
    where
      left : (a b : Bool) → a ≡ true → (a || b) ≡ true
      left true b e = refl
      left false b e = absurd (false≢true e)
  any_taken source (s ∷ starts) (suc j) start e f = right (is_same source (start_takes c s)) (has_taken c source starts) (any_taken source starts j start e f)
    where
      right : (a b : Bool) → b ≡ true → (a || b) ≡ true
      right true b e = refl
      right false b e = e

  taken_any : (source : Source) (starts : List Start) → has_taken c source starts ≡ true → (j : ℕ) × (start : Start) × (slice_get starts j ≡ Some start) × (start_takes c start ≡ source)
  taken_any source [] e = absurd (false≢true e)
  taken_any source (s ∷ starts) e = by (is_same source (start_takes c s)) refl (taken_any source starts) e
    where
      by : (b : Bool) → is_same source (start_takes c s) ≡ b → (has_taken c source starts ≡ true → (j : ℕ) × (start : Start) × (slice_get starts j ≡ Some start) × (start_takes c start ≡ source))
          → (b || has_taken c source starts) ≡ true → (j : ℕ) × (start : Start) × (slice_get (s ∷ starts) j ≡ Some start) × (start_takes c start ≡ source)
      by true f r h = (0, s, refl, sym (same_is source (start_takes c s) f))
      by false f r h = let k = r h in (suc k.0, k.1, k.2, k.3)

  pub takes_taken : (source : Source) → Takes c source → has_taken c source c.starts ≡ true
  takes_taken source (edge, m, s, p) = by edge p
    where
      by : (edge : Edge) → IsPair c edge source m s → has_taken c source c.starts ≡ true
      by rising p =
          let h = form.starts s (record { edge = rising; takes = source; master = m; slave = s; pair = p; here = refl }) in
          any_taken source c.starts h.0 h.1 h.2 (takes_is rising source m s h.1 p h.3)

  pub taken_takes : (source : Source) → has_taken c source c.starts ≡ true → Takes c source
  taken_takes source e =
      let k = taken_any source c.starts e in
      let is = form.pairs k.0 k.1 k.2 in
      (is.edge, is.master, is.slave, subst (λ (t : Source). IsPair c is.edge t is.master is.slave) (sym (takes_is is.edge is.takes is.master is.slave k.1 is.pair (sym is.here)) ∙ k.3) is.pair)
