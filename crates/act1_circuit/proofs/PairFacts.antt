-- What the modules of a pair give, and what reads them.
use Rattle.std.proofs.Common.{ℕ, ◌≡◌, ◌⊎◌, ◌<◌, ◌≤◌, Bool, true, false, List, [], length, Some, refl, sym, ap, subst, ◌∙◌, inl, inr, arith}
use Rattle.std.specs.Prelude.{slice_get, slice_index_or}
use Rattle.std.specs.List.{list_any}
use Rattle.std.proofs.lemmas.List.{get_or_past}
use Rattle.std.proofs.lemmas.Option.{get_or_from_slice_get}
use Rattle.std.proofs.lemmas.List.Folds.{list_any_at}
use Rattle.std.proofs.lemmas.Bool.{cases_lt, false≢true}
use Rattle.act1_circuit.specs.declared.circuit.Circuit.{Circuit}
use Rattle.act1_circuit.specs.declared.circuit.Source.{Source}
use Rattle.act1_circuit.specs.declared.circuit.Source.TheVariants.{Zero, One, Clock, Input, Module}
use Rattle.act1_circuit.specs.Firing.{fired, source_value}
use Rattle.act1_circuit.specs.Range.{HasSource, InRange}
use Rattle.act1_logic.specs.Module.{module_of}
use Rattle.act1_circuit.specs.Cycles.{bit}
use Rattle.act1_circuit.specs.Laws.{ClockIsUnseen, OutsideIsUnclocked, PairsAreClocked, PairsTakeSources}
use Rattle.act1_circuit.specs.PairForm.{Edge, rising, pins_of, pin_of, is_clock, has_clock, master_pins, slave_pins, IsPair, InPair}

-- what a module gives depends on the values of its pins alone
pub module_same : (f g : ℕ → Bool) → ((pin : ℕ) → f pin ≡ g pin) → module_of f ≡ module_of g
module_same f g h = λ i. module_of (λ pin. h pin i)

-- a source has the same value in bits that agree at it
pub source_same : (clock : Bool) (x p q : List Bool) (s : Source) → ((k : ℕ) → s ≡ Module k → bit p k ≡ bit q k) → source_value clock x p s ≡ source_value clock x q s
source_same clock x p q Zero h = refl
source_same clock x p q One h = refl
source_same clock x p q Clock h = refl
source_same clock x p q (Input i) h = refl
source_same clock x p q (Module k) h = h k refl

-- a master follows the source in one half, and holds its bit in the other. A slave does so in the other half
abbrev pub master_gives : Edge → Bool → Bool → Bool → Bool
master_gives rising false follows holds = follows
master_gives rising true follows holds = holds

abbrev pub slave_gives : Edge → Bool → Bool → Bool → Bool
slave_gives rising false follows holds = holds
slave_gives rising true follows holds = follows

pub pins_are : (c : Circuit) (m : ℕ) (pins : List Source) → slice_get c.modules m ≡ Some pins → pins_of c m ≡ pins
pins_are c m pins e = get_or_from_slice_get c.modules m pins [] e

given : Bool → List Bool → List Bool → List Source → Bool
given clock x bits pins = module_of (λ pin. source_value clock x bits (slice_index_or pins pin Zero))

fired_given : (c : Circuit) (clock : Bool) (x bits : List Bool) (m : ℕ) (pins : List Source) → slice_get c.modules m ≡ Some pins → fired c clock x bits m ≡ given clock x bits pins
unfolding given
fired_given c clock x bits m pins e = ap (λ (ps : List Source). module_of (λ pin. source_value clock x bits (slice_index_or ps pin Zero))) (pins_are c m pins e)

master_given : (edge : Edge) (clock : Bool) (x bits : List Bool) (takes : Source) (m : ℕ) → given clock x bits (master_pins edge takes m) ≡ master_gives edge clock (source_value clock x bits takes) (bit bits m)
unfolding given
master_given rising false x bits takes m = refl
master_given rising true x bits takes m = refl

slave_given : (edge : Edge) (clock : Bool) (x bits : List Bool) (m s : ℕ) → given clock x bits (slave_pins edge m s) ≡ slave_gives edge clock (bit bits m) (bit bits s)
unfolding given
slave_given rising false x bits m s = refl
slave_given rising true x bits m s = refl

pub master_fires : (c : Circuit) (clock : Bool) (x bits : List Bool) (edge : Edge) (takes : Source) (m s : ℕ) → IsPair c edge takes m s
    → fired c clock x bits m ≡ master_gives edge clock (source_value clock x bits takes) (bit bits m)
master_fires c clock x bits edge takes m s p = fired_given c clock x bits m (master_pins edge takes m) p.master ∙ master_given edge clock x bits takes m

pub slave_fires : (c : Circuit) (clock : Bool) (x bits : List Bool) (edge : Edge) (takes : Source) (m s : ℕ) → IsPair c edge takes m s
    → fired c clock x bits s ≡ slave_gives edge clock (bit bits m) (bit bits s)
slave_fires c clock x bits edge takes m s p = fired_given c clock x bits s (slave_pins edge m s) p.slave ∙ slave_given edge clock x bits m s

-- both have the clock
pub any_clock : (c : Circuit) (m : ℕ) (pins : List Source) (i : ℕ) → slice_get c.modules m ≡ Some pins → i < length pins → is_clock (slice_index_or pins i Zero) ≡ true → has_clock c m ≡ true
any_clock c m pins i e low is = subst (λ (ps : List Source). list_any is_clock ps ≡ true) (sym (pins_are c m pins e)) (list_any_at is_clock pins i Zero low is)

pub master_clock : (c : Circuit) (edge : Edge) (takes : Source) (m s : ℕ) → IsPair c edge takes m s → has_clock c m ≡ true
master_clock c rising takes m s p = any_clock c m (master_pins rising takes m) 6 p.master (omega arith) refl

pub slave_clock : (c : Circuit) (edge : Edge) (takes : Source) (m s : ℕ) → IsPair c edge takes m s → has_clock c s ≡ true
slave_clock c rising takes m s p = any_clock c s (slave_pins rising m s) 6 p.slave (omega arith) refl

-- there is one kind of edge
pub same_edge : (f g : Edge) → f ≡ g
same_edge rising rising = refl

same_pins : (c : Circuit) (m : ℕ) (ps qs : List Source) → slice_get c.modules m ≡ Some ps → slice_get c.modules m ≡ Some qs → ps ≡ qs
same_pins c m ps qs e f = sym (pins_are c m ps e) ∙ pins_are c m qs f

-- no module is a master and a slave
pub not_both : (c : Circuit) (f g : Edge) (t u : Source) (m s k : ℕ) → IsPair c f t m s → IsPair c g u k m → ⊥
not_both c rising rising t u m s k p q = one (ap (λ (ps : List Source). slice_index_or ps 3 Zero) (same_pins c m (master_pins rising t m) (slave_pins rising k m) p.master q.slave))
  where
    one : Module m ≡ Module k → ⊥
    one e = let i : m ≡ k = cc in q.apart (sym i)

-- the source that a pair takes is on a pin of its master
abbrev pub taken_pin : Edge → ℕ
taken_pin rising = 0

pub takes_pin : (c : Circuit) (f : Edge) (t : Source) (m s : ℕ) → IsPair c f t m s → pin_of c m (taken_pin f) ≡ t
takes_pin c rising t m s p = ap (λ (ps : List Source). slice_index_or ps 0 Zero) (pins_are c m (master_pins rising t m) p.master)

-- no pair takes a master
pub takes_no_master : (c : Circuit) (f g : Edge) (t u : Source) (m s k r : ℕ) → IsPair c f t m s → t ≡ Module k → IsPair c g u k r → ⊥
takes_no_master c f g t u m s k r p e q = by (q.pins m (taken_pin f) (takes_pin c f t m s p ∙ e))
  where
    by : (m ≡ k) ⊎ (m ≡ r) → ⊥
    by (inl same) = p.no_own (e ∙ ap Module (sym same))
    by (inr same) = not_both c f g t u m s k p (subst (λ (i : ℕ). IsPair c g u k i) (sym same) q)

-- no module outside pairs reads a master
pub outside_no_master : (c : Circuit) (g : Edge) (u : Source) (m pin k r : ℕ) → has_clock c m ≡ false → pin_of c m pin ≡ Module k → IsPair c g u k r → ⊥
outside_no_master c g u m pin k r none e q = by (q.pins m pin e)
  where
    by : (m ≡ k) ⊎ (m ≡ r) → ⊥
    by (inl same) = false≢true (sym none ∙ ap (has_clock c) same ∙ master_clock c g u k r q)
    by (inr same) = false≢true (sym none ∙ ap (has_clock c) same ∙ slave_clock c g u k r q)

-- the circuit has the source of each pin, and each module that is one
pin_source : (c : Circuit) → InRange c → (m pin : ℕ) → HasSource c (pin_of c m pin)
pin_source c range m pin = by (cases_lt m (length c.modules)) (cases_lt pin (length (pins_of c m)))
  where
    by : (m < length c.modules) ⊎ (length c.modules ≤ m) → (pin < length (pins_of c m)) ⊎ (length (pins_of c m) ≤ pin) → HasSource c (pin_of c m pin)
    by (inr high) q = subst (λ (s : Source). HasSource c s) (sym (ap (λ (ps : List Source). slice_index_or ps pin Zero) (get_or_past c.modules m [] high))) tt
    by (inl low) (inr high) = subst (λ (s : Source). HasSource c s) (sym (get_or_past (pins_of c m) pin Zero high)) tt
    by (inl low) (inl short) = (range.pins m [] low).1 pin Zero short

pub source_within : (c : Circuit) → InRange c → (m pin k : ℕ) → pin_of c m pin ≡ Module k → k < length c.modules
source_within c range m pin k e = subst (λ (s : Source). HasSource c s) e (pin_source c range m pin)

pub takes_has : PairsTakeSources
takes_has c range f t m s p = subst (λ (u : Source). HasSource c u) (takes_pin c f t m s p) (pin_source c range m (taken_pin f))

pub takes_within : (c : Circuit) → InRange c → (f : Edge) (t : Source) (m s k : ℕ) → IsPair c f t m s → t ≡ Module k → k < length c.modules
takes_within c range f t m s k p e = subst (λ (u : Source). HasSource c u) e (takes_has c range f t m s p)

pub both_clocked : PairsAreClocked
both_clocked c f t m s p = (master_clock c f t m s p, slave_clock c f t m s p)

pub outside_unclocked : OutsideIsUnclocked
outside_unclocked c form m low = (λ e p. in_no_pair e p.edge p.takes p.other p.is, λ none. by (has_clock c m) refl none)
  where
    in_no_pair : has_clock c m ≡ false → (f : Edge) (t : Source) (o : ℕ) → IsPair c f t m o ⊎ IsPair c f t o m → ⊥
    in_no_pair e f t o (inl p) = false≢true (sym e ∙ master_clock c f t m o p)
    in_no_pair e f t o (inr p) = false≢true (sym e ∙ slave_clock c f t o m p)

    by : (b : Bool) → has_clock c m ≡ b → (InPair c m → ⊥) → has_clock c m ≡ false
    by true e none = absurd (none (form.clocked m low e))
    by false e none = e

-- a module without the clock doesn't see it
pub clock_unseen : ClockIsUnseen
clock_unseen c m pin none = by (is_clock (pin_of c m pin)) refl (cases_lt pin (length (pins_of c m)))
  where
    by : (t : Bool) → is_clock (pin_of c m pin) ≡ t → (pin < length (pins_of c m)) ⊎ (length (pins_of c m) ≤ pin) → is_clock (pin_of c m pin) ≡ false
    by false e q = e
    by true e (inl low) = absurd (false≢true (sym none ∙ list_any_at is_clock (pins_of c m) pin Zero low e))
    by true e (inr high) = ap is_clock (get_or_past (pins_of c m) pin Zero high)
