-- Circuits in pair form, and one for each of the four faults.
use Rattle.std.proofs.Common.{ℕ, suc, zero, ◌≡◌, ◌≢◌, ◌⊎◌, ◌<◌, true, List, [], ◌∷◌, Some, None, refl, arith, sym, subst, ◌∙◌, inl, inr}
use Rattle.std.specs.Prelude.{codes, slice_get, slice_index_or}
use Rattle.std.specs.List.{AllByRecursion}
use Rattle.std.proofs.lemmas.List.Elements.{All-from_recursion}
use Rattle.act1_order.specs.Order.{OnRing, LeadsTo, Reads}
use Rattle.act1_circuit.specs.declared.circuit.Circuit.{Circuit}
use Rattle.act1_circuit.specs.declared.circuit.Output.{Output}
use Rattle.act1_circuit.specs.declared.circuit.Start.{Start}
use Rattle.act1_circuit.specs.declared.circuit.Source.{Source}
use Rattle.act1_circuit.specs.declared.circuit.Source.TheVariants.{Zero, One, Clock, Input, Module}
use Rattle.act1_circuit.specs.declared.pairs.FormFault.{FormFault}
use Rattle.act1_circuit.specs.declared.pairs.FormFault.TheVariants as fault
use Rattle.act1_circuit.specs.FormFaults.{HasFault, IsBefore, IsFirstFault}
use Rattle.act1_circuit.specs.PairForm.{Edge, rising, pin_of, has_clock, IsPair, InPair, IsPairForm, IsStartModule, HasStart, outside_reads, start_module}
use Rattle.act1_samples.proofs.Circuits.{toggle}

-- a graph whose vertices read nothing has no ring
no_ring : (reads : List (List ℕ)) → ((m k : ℕ) → Reads reads m k → ⊥) → (m : ℕ) → OnRing reads m → ⊥
no_ring reads none m ring = by ring.path ring.leads
  where
    by : (path : List ℕ) → LeadsTo reads m path m → ⊥
    by [] h = none m m h
    by (u ∷ path) h = none m u h.0

-- a latch that takes its own value: module 0 is its master and module 1 its slave
abbrev pub paired : List (List Source)
paired = (Module 1 ∷ Zero ∷ Zero ∷ Module 0 ∷ Zero ∷ Zero ∷ Clock ∷ Zero ∷ []) ∷ (Module 1 ∷ Zero ∷ Zero ∷ Module 0 ∷ Zero ∷ Zero ∷ Clock ∷ Zero ∷ []) ∷ []

abbrev pub start_of_one : Start
start_of_one = record { «module» = 1; init = 2; name = codes "q" }

abbrev pub hold_pair : List Start → Circuit
hold_pair starts = record { clock = Some (codes "clk"); inputs = []; modules = paired; outputs = record { name = codes "q"; source = Module 1 } ∷ []; starts = starts }

hold_pins : (starts : List Start) (k pin : ℕ) → pin_of (hold_pair starts) k pin ≡ Module 0 → (k ≡ 0) ⊎ (k ≡ 1)
hold_pins starts zero pin e = inl refl
hold_pins starts (suc zero) pin e = inr refl
hold_pins starts (suc (suc k)) pin e = cc

is_pair : (starts : List Start) → IsPair (hold_pair starts) rising (Module 1) 0 1
is_pair starts = record {
  apart = λ e. omega arith;
  no_clock = λ e. cc;
  no_own = λ e. cc;
  «master» = refl;
  «slave» = refl;
  pins = hold_pins starts;
  outputs = All-from_recursion (λ (o : Output). o.source ≢ Module 0) (hold_pair starts).outputs ((λ e. cc), tt);
}

hold_clocked : (starts : List Start) (m : ℕ) → m < 2 → InPair (hold_pair starts) m
hold_clocked starts zero low = record { edge = rising; takes = Module 1; other = 1; is = inl (is_pair starts) }
hold_clocked starts (suc zero) low = record { edge = rising; takes = Module 1; other = 0; is = inr (is_pair starts) }
hold_clocked starts (suc (suc m)) low = absurd (omega arith)

hold_reads : (starts : List Start) (m k : ℕ) → Reads (outside_reads (hold_pair starts)) m k → ⊥
hold_reads starts zero k (i, low, e) = absurd (omega arith)
hold_reads starts (suc zero) k (i, low, e) = absurd (omega arith)
hold_reads starts (suc (suc m)) k (i, low, e) = absurd (omega arith)

-- the slave of any pair of it is module 1
slave_is_one : (starts : List Start) (f : Edge) (t : Source) (m s : ℕ) → IsPair (hold_pair starts) f t m s → s ≡ 1
slave_is_one starts rising t m zero p = let e = p.slave in let g : Module 1 ≡ Module 0 = cc in cc
slave_is_one starts rising t m (suc zero) p = refl
slave_is_one starts rising t m (suc (suc s)) p = let e = p.slave in cc

start_is_one : (starts : List Start) (k : ℕ) → IsStartModule (hold_pair starts) k → k ≡ 1
start_is_one starts k h = by h.edge h.takes h.master h.slave h.pair h.here
  where
    by : (f : Edge) (t : Source) (m s : ℕ) → IsPair (hold_pair starts) f t m s → start_module f m s ≡ k → k ≡ 1
    by rising t m s p e = sym e ∙ slave_is_one starts rising t m s p

one_is_start : (starts : List Start) → IsStartModule (hold_pair starts) 1
one_is_start starts = record { edge = rising; takes = Module 1; «master» = 0; «slave» = 1; pair = is_pair starts; here = refl }

no_clock_out : (starts : List Start) (j : ℕ) (output : Output) → slice_get (hold_pair starts).outputs j ≡ Some output → output.source ≢ Clock
no_clock_out starts zero output e f = let same : Module 1 ≡ output.source = cc in cc
no_clock_out starts (suc j) output e f = cc

pub hold_form : IsPairForm (hold_pair (start_of_one ∷ []))
hold_form = record {
  clocked = λ m low e. hold_clocked (start_of_one ∷ []) m low;
  outputs = All-from_recursion (λ (o : Output). o.source ≢ Clock) (hold_pair (start_of_one ∷ [])).outputs ((λ e. cc), tt);
  rings = no_ring (outside_reads (hold_pair (start_of_one ∷ []))) (hold_reads (start_of_one ∷ []));
  starts = λ k h. (0, start_of_one, refl, sym (start_is_one (start_of_one ∷ []) k h));
  pairs = by;
}
  where
    by : (j : ℕ) (start : Start) → slice_get (start_of_one ∷ []) j ≡ Some start → IsStartModule (hold_pair (start_of_one ∷ [])) start.module
    by zero start e = let same : start_of_one ≡ start = cc in subst (λ (s : Start). IsStartModule (hold_pair (start_of_one ∷ [])) s.module) same (one_is_start (start_of_one ∷ []))
    by (suc j) start e = cc

-- without a start it has the fault that its slave has none
pub no_start : IsFirstFault (hold_pair []) (fault.Start 1)
no_start = record { has = inl (one_is_start [], none 1); first = first }
  where
    none : (k : ℕ) → HasStart (hold_pair []) k → ⊥
    none k (j, start, e, here) = cc

    first : (other : FormFault) → HasFault (hold_pair []) other → IsBefore other (fault.Start 1) → ⊥
    first (fault.Clocked m) h b = h.2 (hold_clocked [] m h.0)
    first (fault.ClockOut o) h b = no_clock_out [] o h.0 h.1 h.2
    first (fault.Ring m) h b = no_ring (outside_reads (hold_pair [])) (hold_reads []) m h
    first (fault.Start m) (inl h) (inl b) = absurd (omega arith)
    first (fault.Start m) (inl h) (inr b) = let is = start_is_one [] m h.0 in let low = b.1 in absurd (omega arith)
    first (fault.Start m) (inr h) b = none m h.0
    first fault.Memory h b = h

-- a slave that is open in its master's half is none, so the clock enters modules outside pairs
abbrev pub open_both : Circuit
open_both = record {
  clock = Some (codes "clk");
  inputs = [];
  modules = (Module 1 ∷ Zero ∷ Zero ∷ Module 0 ∷ Zero ∷ Zero ∷ Clock ∷ Zero ∷ []) ∷ (Module 0 ∷ Zero ∷ Zero ∷ Module 1 ∷ Zero ∷ Zero ∷ Clock ∷ Zero ∷ []) ∷ [];
  outputs = record { name = codes "q"; source = Module 1 } ∷ [];
  starts = start_of_one ∷ [];
}

no_pair : (f : Edge) (t : Source) (m s : ℕ) → IsPair open_both f t m s → ⊥
no_pair rising t m zero p = let e = p.slave in let g : Module 1 ≡ Module 0 = cc in cc
no_pair rising t m (suc zero) p = let e = p.slave in let g : Module 0 ≡ Module 1 = cc in cc
no_pair rising t m (suc (suc s)) p = let e = p.slave in cc

pub is_clocked : IsFirstFault open_both (fault.Clocked 0)
is_clocked = record { has = (omega arith, refl, λ p. in_none p.edge p.takes p.other p.is); first = λ other h b. first other b }
  where
    in_none : (f : Edge) (t : Source) (o : ℕ) → IsPair open_both f t 0 o ⊎ IsPair open_both f t o 0 → ⊥
    in_none f t o (inl p) = no_pair f t 0 o p
    in_none f t o (inr p) = no_pair f t o 0 p

    first : (other : FormFault) → IsBefore other (fault.Clocked 0) → ⊥
    first (fault.Clocked m) (inl b) = omega arith
    first (fault.Clocked m) (inr b) = let low = b.1 in omega arith
    first (fault.ClockOut o) (inl b) = omega arith
    first (fault.ClockOut o) (inr b) = let kind = b.0 in omega arith
    first (fault.Ring m) (inl b) = omega arith
    first (fault.Ring m) (inr b) = let kind = b.0 in omega arith
    first (fault.Start m) (inl b) = omega arith
    first (fault.Start m) (inr b) = let kind = b.0 in omega arith
    first fault.Memory (inl b) = omega arith
    first fault.Memory (inr b) = let kind = b.0 in omega arith

-- an output that is the clock
abbrev pub clock_out : Circuit
clock_out = record { clock = Some (codes "clk"); inputs = []; modules = []; outputs = record { name = codes "y"; source = Clock } ∷ []; starts = [] }

pub is_clock_out : IsFirstFault clock_out (fault.ClockOut 0)
is_clock_out = record { has = (record { name = codes "y"; source = Clock }, refl, refl); first = first }
  where
    first : (other : FormFault) → HasFault clock_out other → IsBefore other (fault.ClockOut 0) → ⊥
    first (fault.Clocked m) h b = let low = h.0 in omega arith
    first (fault.ClockOut o) h (inl b) = omega arith
    first (fault.ClockOut o) h (inr b) = let low = b.1 in omega arith
    first (fault.Ring m) h (inl b) = omega arith
    first (fault.Ring m) h (inr b) = let kind = b.0 in omega arith
    first (fault.Start m) h (inl b) = omega arith
    first (fault.Start m) h (inr b) = let kind = b.0 in omega arith
    first fault.Memory h b = h

-- an inverter with its own output as its select
abbrev pub own_ring : Circuit
own_ring = record {
  clock = None;
  inputs = [];
  modules = (One ∷ Zero ∷ Zero ∷ Zero ∷ Zero ∷ Zero ∷ Module 0 ∷ Zero ∷ []) ∷ [];
  outputs = record { name = codes "y"; source = Module 0 } ∷ [];
  starts = [];
}

pub is_ring : IsFirstFault own_ring (fault.Ring 0)
is_ring = record { has = record { path = []; leads = (0, omega arith, refl) }; first = first }
  where
    first : (other : FormFault) → HasFault own_ring other → IsBefore other (fault.Ring 0) → ⊥
    first (fault.Clocked zero) h b = let is = h.1 in cc
    first (fault.Clocked (suc m)) h b = let low = h.0 in omega arith
    first (fault.ClockOut zero) h b = let at = h.1 in let is = h.2 in let same : Module 0 ≡ h.0.source = cc in cc
    first (fault.ClockOut (suc o)) h b = let at = h.1 in cc
    first (fault.Ring m) h (inl b) = omega arith
    first (fault.Ring m) h (inr b) = let low = b.1 in omega arith
    first (fault.Start m) h (inl b) = omega arith
    first (fault.Start m) h (inr b) = let kind = b.0 in omega arith
    first fault.Memory h b = h

-- none of these sources is the module
pub no_pin : (ss : List Source) (m : ℕ) → AllByRecursion (λ s. s ≢ Module m) ss → (pin : ℕ) → slice_index_or ss pin Zero ≡ Module m → ⊥
no_pin [] m h pin e = cc
no_pin (s ∷ ss) m h zero e = h.0 e
no_pin (s ∷ ss) m h (suc pin) e = no_pin ss m h.1 pin e

-- two latches, of which the second takes the value of the first
abbrev pub start_p : Start
start_p = record { «module» = 1; init = 0; name = codes "p" }

abbrev pub start_q : Start
start_q = record { «module» = 3; init = 0; name = codes "q" }

abbrev pub chain : Circuit
chain = record {
  clock = Some (codes "clk");
  inputs = codes "a" ∷ [];
  modules = (Input 0 ∷ Zero ∷ Zero ∷ Module 0 ∷ Zero ∷ Zero ∷ Clock ∷ Zero ∷ [])
      ∷ (Module 1 ∷ Zero ∷ Zero ∷ Module 0 ∷ Zero ∷ Zero ∷ Clock ∷ Zero ∷ [])
      ∷ (Module 1 ∷ Zero ∷ Zero ∷ Module 2 ∷ Zero ∷ Zero ∷ Clock ∷ Zero ∷ [])
      ∷ (Module 3 ∷ Zero ∷ Zero ∷ Module 2 ∷ Zero ∷ Zero ∷ Clock ∷ Zero ∷ []) ∷ [];
  outputs = record { name = codes "q"; source = Module 3 } ∷ [];
  starts = start_p ∷ start_q ∷ [];
}

first_pins : (k pin : ℕ) → pin_of chain k pin ≡ Module 0 → (k ≡ 0) ⊎ (k ≡ 1)
first_pins zero pin e = inl refl
first_pins (suc zero) pin e = inr refl
first_pins (suc (suc zero)) pin e =
    absurd (no_pin (Module 1 ∷ Zero ∷ Zero ∷ Module 2 ∷ Zero ∷ Zero ∷ Clock ∷ Zero ∷ []) 0 ((λ f. cc), ((λ f. cc), ((λ f. cc), ((λ f. cc), ((λ f. cc), ((λ f. cc), ((λ f. cc), ((λ f. cc), tt)))))))) pin e)
first_pins (suc (suc (suc zero))) pin e =
    absurd (no_pin (Module 3 ∷ Zero ∷ Zero ∷ Module 2 ∷ Zero ∷ Zero ∷ Clock ∷ Zero ∷ []) 0 ((λ f. cc), ((λ f. cc), ((λ f. cc), ((λ f. cc), ((λ f. cc), ((λ f. cc), ((λ f. cc), ((λ f. cc), tt)))))))) pin e)
first_pins (suc (suc (suc (suc k)))) pin e = cc

second_pins : (k pin : ℕ) → pin_of chain k pin ≡ Module 2 → (k ≡ 2) ⊎ (k ≡ 3)
second_pins zero pin e =
    absurd (no_pin (Input 0 ∷ Zero ∷ Zero ∷ Module 0 ∷ Zero ∷ Zero ∷ Clock ∷ Zero ∷ []) 2 ((λ f. cc), ((λ f. cc), ((λ f. cc), ((λ f. cc), ((λ f. cc), ((λ f. cc), ((λ f. cc), ((λ f. cc), tt)))))))) pin e)
second_pins (suc zero) pin e =
    absurd (no_pin (Module 1 ∷ Zero ∷ Zero ∷ Module 0 ∷ Zero ∷ Zero ∷ Clock ∷ Zero ∷ []) 2 ((λ f. cc), ((λ f. cc), ((λ f. cc), ((λ f. cc), ((λ f. cc), ((λ f. cc), ((λ f. cc), ((λ f. cc), tt)))))))) pin e)
second_pins (suc (suc zero)) pin e = inl refl
second_pins (suc (suc (suc zero))) pin e = inr refl
second_pins (suc (suc (suc (suc k)))) pin e = cc

first_pair : IsPair chain rising (Input 0) 0 1
first_pair = record {
  apart = λ e. omega arith;
  no_clock = λ e. cc;
  no_own = λ e. cc;
  «master» = refl;
  «slave» = refl;
  pins = first_pins;
  outputs = All-from_recursion (λ (o : Output). o.source ≢ Module 0) chain.outputs ((λ e. cc), tt);
}

second_pair : IsPair chain rising (Module 1) 2 3
second_pair = record {
  apart = λ e. omega arith;
  no_clock = λ e. cc;
  no_own = λ e. cc;
  «master» = refl;
  «slave» = refl;
  pins = second_pins;
  outputs = All-from_recursion (λ (o : Output). o.source ≢ Module 2) chain.outputs ((λ e. cc), tt);
}

chain_clocked : (m : ℕ) → m < 4 → InPair chain m
chain_clocked zero low = record { edge = rising; takes = Input 0; other = 1; is = inl first_pair }
chain_clocked (suc zero) low = record { edge = rising; takes = Input 0; other = 0; is = inr first_pair }
chain_clocked (suc (suc zero)) low = record { edge = rising; takes = Module 1; other = 3; is = inl second_pair }
chain_clocked (suc (suc (suc zero))) low = record { edge = rising; takes = Module 1; other = 2; is = inr second_pair }
chain_clocked (suc (suc (suc (suc m)))) low = absurd (omega arith)

chain_reads : (m k : ℕ) → Reads (outside_reads chain) m k → ⊥
chain_reads zero k (i, low, e) = absurd (omega arith)
chain_reads (suc zero) k (i, low, e) = absurd (omega arith)
chain_reads (suc (suc zero)) k (i, low, e) = absurd (omega arith)
chain_reads (suc (suc (suc zero))) k (i, low, e) = absurd (omega arith)
chain_reads (suc (suc (suc (suc m)))) k (i, low, e) = absurd (omega arith)

has_start : (f : Edge) (t : Source) (m s k : ℕ) → IsPair chain f t m s → start_module f m s ≡ k → HasStart chain k
has_start rising t m zero k p here = let e = p.slave in let g : Input 0 ≡ Module 0 = cc in cc
has_start rising t m (suc zero) k p here = (0, start_p, refl, here)
has_start rising t m (suc (suc zero)) k p here = let e = p.slave in let g : Module 1 ≡ Module 2 = cc in cc
has_start rising t m (suc (suc (suc zero))) k p here = (1, start_q, refl, here)
has_start rising t m (suc (suc (suc (suc s)))) k p here = let e = p.slave in cc

pub chain_form : IsPairForm chain
chain_form = record {
  clocked = λ m low e. chain_clocked m low;
  outputs = All-from_recursion (λ (o : Output). o.source ≢ Clock) chain.outputs ((λ e. cc), tt);
  rings = no_ring (outside_reads chain) chain_reads;
  starts = λ k h. has_start h.edge h.takes h.master h.slave k h.pair h.here;
  pairs = by;
}
  where
    by : (j : ℕ) (start : Start) → slice_get chain.starts j ≡ Some start → IsStartModule chain start.module
    by zero start e =
        let same : start_p ≡ start = cc in
        subst (λ (s : Start). IsStartModule chain s.module) same (record { edge = rising; takes = Input 0; «master» = 0; «slave» = 1; pair = first_pair; here = refl })
    by (suc zero) start e =
        let same : start_q ≡ start = cc in
        subst (λ (s : Start). IsStartModule chain s.module) same (record { edge = rising; takes = Module 1; «master» = 2; «slave» = 3; pair = second_pair; here = refl })
    by (suc (suc j)) start e = cc

-- a latch that turns: its inverter is outside pairs, and reads only the slave
toggle_pins : (k pin : ℕ) → pin_of toggle k pin ≡ Module 1 → (k ≡ 1) ⊎ (k ≡ 2)
toggle_pins zero pin e =
    absurd (no_pin (One ∷ Zero ∷ Zero ∷ Zero ∷ Zero ∷ Zero ∷ Module 2 ∷ Zero ∷ []) 1 ((λ f. cc), ((λ f. cc), ((λ f. cc), ((λ f. cc), ((λ f. cc), ((λ f. cc), ((λ f. cc), ((λ f. cc), tt)))))))) pin e)
toggle_pins (suc zero) pin e = inl refl
toggle_pins (suc (suc zero)) pin e = inr refl
toggle_pins (suc (suc (suc k))) pin e = cc

toggle_pair : IsPair toggle rising (Module 0) 1 2
toggle_pair = record {
  apart = λ e. omega arith;
  no_clock = λ e. cc;
  no_own = λ e. cc;
  «master» = refl;
  «slave» = refl;
  pins = toggle_pins;
  outputs = All-from_recursion (λ (o : Output). o.source ≢ Module 1) toggle.outputs ((λ e. cc), tt);
}

toggle_clocked : (m : ℕ) → m < 3 → has_clock toggle m ≡ true → InPair toggle m
toggle_clocked zero low e = cc
toggle_clocked (suc zero) low e = record { edge = rising; takes = Module 0; other = 2; is = inl toggle_pair }
toggle_clocked (suc (suc zero)) low e = record { edge = rising; takes = Module 0; other = 1; is = inr toggle_pair }
toggle_clocked (suc (suc (suc m))) low e = absurd (omega arith)

toggle_reads : (m k : ℕ) → Reads (outside_reads toggle) m k → ⊥
toggle_reads zero k (i, low, e) = absurd (omega arith)
toggle_reads (suc zero) k (i, low, e) = absurd (omega arith)
toggle_reads (suc (suc zero)) k (i, low, e) = absurd (omega arith)
toggle_reads (suc (suc (suc m))) k (i, low, e) = absurd (omega arith)

toggle_start : (f : Edge) (t : Source) (m s k : ℕ) → IsPair toggle f t m s → start_module f m s ≡ k → HasStart toggle k
toggle_start rising t m zero k p here = let e = p.slave in cc
toggle_start rising t m (suc zero) k p here = let e = p.slave in let g : Module 0 ≡ Module 1 = cc in cc
toggle_start rising t m (suc (suc zero)) k p here = (0, record { «module» = 2; init = 0; name = codes "q" }, refl, here)
toggle_start rising t m (suc (suc (suc s))) k p here = let e = p.slave in cc

pub toggle_form : IsPairForm toggle
toggle_form = record {
  clocked = toggle_clocked;
  outputs = All-from_recursion (λ (o : Output). o.source ≢ Clock) toggle.outputs ((λ e. cc), tt);
  rings = no_ring (outside_reads toggle) toggle_reads;
  starts = λ k h. toggle_start h.edge h.takes h.master h.slave k h.pair h.here;
  pairs = by;
}
  where
    by : (j : ℕ) (start : Start) → slice_get toggle.starts j ≡ Some start → IsStartModule toggle start.module
    by zero start e =
        let same : record { «module» = 2; init = 0; name = codes "q" } ≡ start = cc in
        subst (λ (s : Start). IsStartModule toggle s.module) same (record { edge = rising; takes = Module 0; «master» = 1; «slave» = 2; pair = toggle_pair; here = refl })
    by (suc j) start e = cc
