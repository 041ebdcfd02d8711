-- In whole statements each name that is used is a signal.
use Rattle.std.proofs.Common.{ℕ, ◌≡◌, ◌<◌, ◌||◌, ◌==◌, not, Bool, true, false, List, [], ◌∷◌, length, map, Option, Some, None, refl, sym, ap, ◌∙◌, arith}
use Rattle.std.specs.Prelude.{is_some, slice_get, unwrap_or, nat_lt}
use Rattle.std.specs.List.{list_all, list_any, AllByRecursion}
use Rattle.std.proofs.lemmas.Bool.{and_from, and_parts, false≢true}
use Rattle.std.proofs.lemmas.Bool.Decides.{nat_tests}
use Rattle.std.proofs.lemmas.List.Elements.{recursion_from_All}
use Rattle.act1_base.specs.Names.{are_different_numbers}
use Rattle.act1_bliftext.specs.Rules.{is_statement}
use Rattle.act1_bliftext.specs.declared.fault.BlifKind.TheVariants.{Twice, Clocks, Undriven, ClockUsed, Loop}
use Rattle.act1_bliftext.specs.declared.statement.NumberedStatement.{NumberedStatement}
use Rattle.act1_bliftext.specs.declared.statement.Statement.{Statement}
use Rattle.act1_bliftext.specs.declared.statement.Statement.TheVariants.{Inputs, Outputs, Clock, Names, Latch}
use Rattle.act1_blifread.specs.Parts.{all_of, clock_of, given_names, is_clock, signals_of, used_names}
use Rattle.act1_blifread.specs.Faults.{IsFree, IsWhole, is_among, is_clock_used, is_undriven, whole_kinds}
use Rattle.act1_blifread.specs.Netlist.{signal_at}
use Rattle.act1_blifread.specs.NetlistSteps.{are_within}
use Rattle.act1_blifread.proofs.FirstLines.{none_passes}
use Rattle.act1_blifread.proofs.FirstPlaces.{first, first_among, first_there, position_first}
use Rattle.act1_blifread.proofs.NodeGraphs.{get_within}
use Rattle.act1_blifread.proofs.NumberLists.{equal_true, true_equal}
use Rattle.act1_blifread.proofs.SignalLists.{signal_or_clock}

-- no statement has any of the five faults
pub record AreFree (ss : List NumberedStatement) : Type 0 where
  pub twice : IsFree ss Twice
  pub clocks : IsFree ss Clocks
  pub undriven : IsFree ss Undriven
  pub clock_used : IsFree ss ClockUsed
  pub ring : IsFree ss Loop

pub free : (ss : List NumberedStatement) → IsWhole ss → AreFree ss
free ss whole =
    let p = recursion_from_All (IsFree ss) whole_kinds whole in
    record { twice = p.0; clocks = p.1.0; undriven = p.1.1.0; clock_used = p.1.1.1.0; ring = p.1.1.1.1.0 }

-- the numbers of a statement are within the count, and what it uses are signals
pub record IsFine (count : ℕ) (signals : List ℕ) (t : Statement) : Type 0 where
  pub within : is_statement count t ≡ true
  pub driven : list_all (is_among signals) (used_names t) ≡ true

abbrev pub AreFine : ℕ → List ℕ → List NumberedStatement → Type 0
AreFine count signals ts = AllByRecursion (λ (numbered : NumberedStatement). IsFine count signals numbered.statement) ts

either_false : (a b : Bool) → (a || b) ≡ false → (a ≡ false) × (b ≡ false)
either_false true b e = absurd (false≢true (sym e))
either_false false b e = (refl, e)

pub not_true_false : (b : Bool) → not b ≡ true → b ≡ false
not_true_false true e = absurd (false≢true e)
not_true_false false e = refl

not_false_true : (b : Bool) → not b ≡ false → b ≡ true
not_false_true true e = refl
not_false_true false e = absurd (false≢true (sym e))

-- names that are driven and not the clock's are signals
names_are_signals : (ss : List NumberedStatement) (ns : List ℕ) → list_any (λ n. not (is_among (all_of given_names ss) n || is_clock (clock_of ss) n)) ns ≡ false → list_any (is_clock (clock_of ss)) ns ≡ false → list_all (is_among (signals_of ss)) ns ≡ true
names_are_signals ss [] e f = refl
names_are_signals ss (n ∷ ns) e f =
    let driven = either_false (not (is_among (all_of given_names ss) n || is_clock (clock_of ss) n)) (list_any (λ m. not (is_among (all_of given_names ss) m || is_clock (clock_of ss) m)) ns) e in
    let apart = either_false (is_clock (clock_of ss) n) (list_any (is_clock (clock_of ss)) ns) f in
    and_from (is_among (signals_of ss) n) (list_all (is_among (signals_of ss)) ns)
    (by (is_among (signals_of ss) n) (is_clock (clock_of ss) n) (signal_or_clock n ss ∙ not_false_true (is_among (all_of given_names ss) n || is_clock (clock_of ss) n) driven.0) apart.0)
    (names_are_signals ss ns driven.1 apart.1)
  where
    by : (a b : Bool) → (a || b) ≡ true → b ≡ false → a ≡ true
    by true b e f = refl
    by false b e f = absurd (false≢true (sym f ∙ e))

statement_is_fine : (count : ℕ) (ss : List NumberedStatement) (t : Statement) → is_statement count t ≡ true → is_undriven ss t ≡ false → is_clock_used (clock_of ss) t ≡ false → IsFine count (signals_of ss) t
statement_is_fine count ss t within driven apart = record { within = within; driven = by t driven apart }
  where
    by : (t : Statement) → is_undriven ss t ≡ false → is_clock_used (clock_of ss) t ≡ false → list_all (is_among (signals_of ss)) (used_names t) ≡ true
    by (Inputs names) e f = refl
    by (Outputs names) e f = names_are_signals ss names e f
    by (Clock names) e f = refl
    by (Names inputs output cover) e f = names_are_signals ss inputs e (either_false (is_clock (clock_of ss) output) (list_any (is_clock (clock_of ss)) inputs) f).1
    by (Latch input output control init) e f = names_are_signals ss (input ∷ []) e (one (is_clock (clock_of ss) input) (either_false (is_clock (clock_of ss) input) (is_clock (clock_of ss) output || false) f).0)
      where
        one : (b : Bool) → b ≡ false → (b || false) ≡ false
        one b e = ap (λ (a : Bool). a || false) e

pub all_fine : (count : ℕ) (ss : List NumberedStatement) → IsWhole ss → are_within count ss ≡ true → AreFine count (signals_of ss) ss
all_fine count ss whole within = by ss within (none_passes (is_undriven ss) ss (free ss whole).undriven) (none_passes (is_clock_used (clock_of ss)) ss (free ss whole).clock_used)
  where
    by : (ts : List NumberedStatement) → are_within count ts ≡ true → list_all (λ (numbered : NumberedStatement). not (is_undriven ss numbered.statement)) ts ≡ true
        → list_all (λ (numbered : NumberedStatement). not (is_clock_used (clock_of ss) numbered.statement)) ts ≡ true → AreFine count (signals_of ss) ts
    by [] w u v = tt
    by (t ∷ ts) w u v =
        let a = and_parts (is_statement count t.statement) (are_within count ts) w in
        let b = and_parts (not (is_undriven ss t.statement)) (list_all (λ (numbered : NumberedStatement). not (is_undriven ss numbered.statement)) ts) u in
        let d = and_parts (not (is_clock_used (clock_of ss) t.statement)) (list_all (λ (numbered : NumberedStatement). not (is_clock_used (clock_of ss) numbered.statement)) ts) v in
        (statement_is_fine count ss t.statement a.0 (not_true_false (is_undriven ss t.statement) b.0) (not_true_false (is_clock_used (clock_of ss) t.statement) d.0), by ts a.1 b.1 d.1)

-- the number of a signal
pub record HasNumber (signals : List ℕ) (n : ℕ) : Type 0 where
  pub number : ℕ
  pub at : first n signals ≡ Some number
  pub is : signal_at signals n ≡ number
  pub there : slice_get signals number ≡ Some n
  pub low : number < length signals

pub has_number : (signals : List ℕ) (n : ℕ) → is_among signals n ≡ true → HasNumber signals n
has_number signals n e = by (first n signals) refl
  where
    by : (o : Option ℕ) → first n signals ≡ o → HasNumber signals n
    by None f = absurd (none (first n signals) f (first_among n signals ∙ e))
      where
        none : (o : Option ℕ) → o ≡ None → is_some o ≡ true → ⊥
        none None f e = false≢true e
        none (Some k) f e = cc
    by (Some k) f = record {
      number = k;
      at = f;
      is = ap (λ (o : Option ℕ). unwrap_or o 0) (position_first n signals ∙ f);
      there = first_there n signals k f;
      low = get_within signals k n (first_there n signals k f);
    }

pub number_low : (signals : List ℕ) (n : ℕ) → is_among signals n ≡ true → signal_at signals n < length signals
number_low signals n e = let h = has_number signals n e in let low = h.low in let is = h.is in omega arith

-- signals with one number are one
pub number_same : (signals : List ℕ) (m n : ℕ) → is_among signals m ≡ true → is_among signals n ≡ true → signal_at signals m ≡ signal_at signals n → m ≡ n
number_same signals m n e f same =
    let a = has_number signals m e in
    let b = has_number signals n f in
    let one : a.number ≡ b.number = sym a.is ∙ same ∙ b.is in
    let both : Some m ≡ Some n = sym a.there ∙ ap (slice_get signals) one ∙ b.there in
    cc

-- the numbers of signals are below their count
pub numbers_low : (signals ns : List ℕ) (n : ℕ) → n ≡ length signals → list_all (is_among signals) ns ≡ true → list_all (λ s. nat_lt s n) (map (signal_at signals) ns) ≡ true
numbers_low signals [] n e h = refl
numbers_low signals (m ∷ ns) n e h =
    let parts = and_parts (is_among signals m) (list_all (is_among signals) ns) h in
    let low = number_low signals m parts.0 in
    let less : signal_at signals m < n = omega (arith, e) in
    and_from (nat_lt (signal_at signals m) n) (list_all (λ s. nat_lt s n) (map (signal_at signals) ns)) (test (signal_at signals m) less) (numbers_low signals ns n e parts.1)
  where
    test : (k : ℕ) → k < n → nat_lt k n ≡ true
    test k less = grind (arith, nat_tests)

-- different signals have different numbers
pub numbers_differ : (signals ns : List ℕ) → are_different_numbers ns ≡ true → list_all (is_among signals) ns ≡ true → are_different_numbers (map (signal_at signals) ns) ≡ true
numbers_differ signals [] e h = refl
numbers_differ signals (m ∷ ns) e h =
    let parts = and_parts (is_among signals m) (list_all (is_among signals) ns) h in
    let apart = and_parts (not (list_any (λ k. m == k) ns)) (are_different_numbers ns) e in
    and_from (not (list_any (λ k. signal_at signals m == k) (map (signal_at signals) ns))) (are_different_numbers (map (signal_at signals) ns))
    (ap not (none ns (not_true_false (list_any (λ k. m == k) ns) apart.0) parts.0 parts.1)) (numbers_differ signals ns apart.1 parts.1)
  where
    none : (ks : List ℕ) → list_any (λ k. m == k) ks ≡ false → is_among signals m ≡ true → list_all (is_among signals) ks ≡ true → list_any (λ k. signal_at signals m == k) (map (signal_at signals) ks) ≡ false
    none [] e a h = refl
    none (k ∷ ks) e a h =
        let parts = either_false (m == k) (list_any (λ j. m == j) ks) e in
        let all = and_parts (is_among signals k) (list_all (is_among signals) ks) h in
        both (signal_at signals m == signal_at signals k) (list_any (λ j. signal_at signals m == j) (map (signal_at signals) ks)) (fails (signal_at signals m == signal_at signals k) refl parts.0 all.0) (none ks parts.1 a all.1)
      where
        both : (a b : Bool) → a ≡ false → b ≡ false → (a || b) ≡ false
        both a b e f = cc

        fails : (b : Bool) → (signal_at signals m == signal_at signals k) ≡ b → (m == k) ≡ false → is_among signals k ≡ true → b ≡ false
        fails true is e g = absurd (false≢true (sym e ∙ equal_true m k (number_same signals m k a g (true_equal (signal_at signals m) (signal_at signals k) is))))
        fails false is e g = refl
