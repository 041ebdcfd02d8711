-- The test of legality tells exactly the legal plans.
use Rattle.std.proofs.Common.{ℕ, suc, ◌≡◌, ◌≢◌, ◌≤◌, ◌<◌, ◌+◌, ◌-◌, ◌==◌, nat_le, nat_lt, Bool, true, false, not, ◌&&◌, ◌||◌, IsTrue, List, [], ◌∷◌, ◌++◌, length, map, Option, Some, None, refl, sym, ap, subst, ◌∙◌, arith}
use Rattle.std.specs.Prelude.{All, AllPairs, IfSome, ◌↔◌}
use Rattle.std.specs.List.{list_all, list_any}
use Rattle.std.specs.Str.{bytes_eq}
use Rattle.std.proofs.lemmas.Bool.{and_parts, and_from, or_parts, or_from, not-true, not_from_false, false≢true}
use Rattle.std.proofs.lemmas.Bool.Decides.{nat_tests}
use Rattle.std.proofs.lemmas.List.Elements.{All-nil, All-cons, All-head, All-tail, All-append, All-map}
use Rattle.std.proofs.lemmas.List.Kept.{AllPairs-cons}
use Rattle.std.proofs.lemmas.Slice.Eq.{bytes_eq-Decides}
use Rattle.act1_base.specs.Names.{is_name}
use Rattle.act1_base.specs.Rising.{Rises}
use Rattle.act1_device.specs.declared.device.Device.{Device}
use Rattle.act1_circuit.specs.declared.circuit.Circuit.{Circuit}
use Rattle.act1_circuit.specs.declared.circuit.Output.{Output}
use Rattle.act1_circuit.specs.declared.circuit.Source.{Source}
use Rattle.act1_circuit.specs.declared.circuit.Source.TheVariants as source
use Rattle.act1_circuit.specs.declared.circuit.Spot.{Spot}
use Rattle.act1_circuit.specs.declared.circuit.Start.{Start}
use Rattle.act1_circuit.specs.Range.{HasSource, InRange}
use Rattle.act1_circuit.specs.Spots.{SpotIsBefore}
use Rattle.act1_plan.specs.Legal.{output_names, start_names, HasNames, IsOnDevice, Legal}
use Rattle.act1_plan.specs.LegalTest.{has_source, are_pins, is_clock, is_output, is_start, are_few, starts_rise, spots_rise, is_on_device, is_input_name, is_output_name, is_start_name, starts_differ, inputs_differ, outputs_differ, is_taken, is_clock_apart, are_names, inside_differs, outside_differs, has_names, are_modules, are_outputs, are_starts, is_circuit, are_spots, has_pads, is_k, is_legal_but}
use Rattle.act1_plan.specs.Plans.{StartIsBefore}
use Rattle.act1_plan.specs.Order.{spot_is_before}
use Rattle.act1_plan.specs.declared.plan.Plan.{Plan}
use Rattle.act1_plan.proofs.PlanSteps.{spot_test, test_spot}

le_test : (m n : ℕ) → m ≤ n → IsTrue (nat_le m n)
le_test m n h = grind (arith, nat_tests)

test_le : (m n : ℕ) → IsTrue (nat_le m n) → m ≤ n
test_le m n h = grind (arith, nat_tests)

lt_test : (m n : ℕ) → m < n → IsTrue (nat_lt m n)
lt_test m n h = grind (arith, nat_tests)

test_lt : (m n : ℕ) → IsTrue (nat_lt m n) → m < n
test_lt m n h = grind (arith, nat_tests)

eq_test : (m n : ℕ) → m ≡ n → IsTrue (m == n)
eq_test m n h = grind (arith, nat_tests)

test_eq : (m n : ℕ) → IsTrue (m == n) → m ≡ n
test_eq m n h = grind (arith, nat_tests)

-- a test of each element
module _ {A : Type 0} (P : A → Type 0) (p : A → Bool) where
  all_by : ((x : A) → IsTrue (p x) → P x) → (xs : List A) → IsTrue (list_all p xs) → All P xs
  all_by each [] h = All-nil P
  all_by each (x ∷ xs) h = let t = and_parts (p x) (list_all p xs) h in All-cons P x xs (each x t.0) (all_by each xs t.1)

  by_all : ((x : A) → P x → IsTrue (p x)) → (xs : List A) → All P xs → IsTrue (list_all p xs)
  by_all each [] h = refl
  by_all each (x ∷ xs) h = and_from (p x) (list_all p xs) (each x (All-head P x xs h)) (by_all each xs (All-tail P x xs h))

-- lists that rise

starts_after : (s : Start) (starts : List Start) → IsTrue (starts_rise (Some s.module) starts) → Rises StartIsBefore (s ∷ starts)
starts_after s [] h = tt
starts_after s (t ∷ starts) h = let p = and_parts (nat_lt s.module t.module) (starts_rise (Some t.module) starts) h in (test_lt s.module t.module p.0, starts_after t starts p.1)

rising_starts : (starts : List Start) → IsTrue (starts_rise None starts) → Rises StartIsBefore starts
rising_starts [] h = tt
rising_starts (s ∷ starts) h = starts_after s starts h

after_start : (s : Start) (starts : List Start) → Rises StartIsBefore (s ∷ starts) → IsTrue (starts_rise (Some s.module) starts)
after_start s [] h = refl
after_start s (t ∷ starts) h = and_from (nat_lt s.module t.module) (starts_rise (Some t.module) starts) (lt_test s.module t.module h.0) (after_start t starts h.1)

starts_rising : (starts : List Start) → Rises StartIsBefore starts → IsTrue (starts_rise None starts)
starts_rising [] h = refl
starts_rising (s ∷ starts) h = after_start s starts h

spots_after : (s : Spot) (spots : List Spot) → IsTrue (spots_rise (Some s) spots) → Rises SpotIsBefore (s ∷ spots)
spots_after s [] h = tt
spots_after s (t ∷ spots) h = let p = and_parts (spot_is_before s t) (spots_rise (Some t) spots) h in (test_spot s t p.0, spots_after t spots p.1)

rising_spots : (spots : List Spot) → IsTrue (spots_rise None spots) → Rises SpotIsBefore spots
rising_spots [] h = tt
rising_spots (s ∷ spots) h = spots_after s spots h

after_spot : (s : Spot) (spots : List Spot) → Rises SpotIsBefore (s ∷ spots) → IsTrue (spots_rise (Some s) spots)
after_spot s [] h = refl
after_spot s (t ∷ spots) h = and_from (spot_is_before s t) (spots_rise (Some t) spots) (spot_test s t h.0) (after_spot t spots h.1)

spots_rising : (spots : List Spot) → Rises SpotIsBefore spots → IsTrue (spots_rise None spots)
spots_rising [] h = refl
spots_rising (s ∷ spots) h = after_spot s spots h

-- names that differ

abbrev Differ : List ℕ → List ℕ → Type 0
Differ a b = a ≢ b

refuted : (a b : List ℕ) → bytes_eq a b ≡ false → a ≢ b
refuted a b h e = false≢true (sym h ∙ (bytes_eq-Decides a b).1 e)

unequal_by : (b : Bool) (P : Type 0) → (b ≡ true → P) → (P → ⊥) → b ≡ false
unequal_by true P from not_p = absurd (not_p (from refl))
unequal_by false P from not_p = refl

unequal : (a b : List ℕ) → a ≢ b → bytes_eq a b ≡ false
unequal a b h = unequal_by (bytes_eq a b) (a ≡ b) (bytes_eq-Decides a b).0 h

-- a name is none of the names of these
module _ {A : Type 0} (name_of : A → List ℕ) where
  none_of : (name : List ℕ) (xs : List A) → list_any (λ x. bytes_eq name (name_of x)) xs ≡ false → All (Differ name) (map name_of xs)
  none_of name [] h = All-nil (Differ name)
  none_of name (x ∷ xs) h =
      let p = or_parts (bytes_eq name (name_of x)) (list_any (λ y. bytes_eq name (name_of y)) xs) h in
      All-cons (Differ name) (name_of x) (map name_of xs) (refuted name (name_of x) p.0) (none_of name xs p.1)

  of_none : (name : List ℕ) (xs : List A) → All (Differ name) (map name_of xs) → list_any (λ x. bytes_eq name (name_of x)) xs ≡ false
  of_none name [] h = refl
  of_none name (x ∷ xs) h =
      or_from (bytes_eq name (name_of x)) (list_any (λ y. bytes_eq name (name_of y)) xs) (unequal name (name_of x) (All-head (Differ name) (name_of x) (map name_of xs) h)) (of_none name xs (All-tail (Differ name) (name_of x) (map name_of xs) h))

abbrev itself : List ℕ → List ℕ
itself name = name

same_map : (names : List (List ℕ)) → map itself names ≡ names
same_map [] = refl
same_map (name ∷ names) = ap (λ (ns : List (List ℕ)). name ∷ ns) (same_map names)

no_input : (name : List ℕ) (names : List (List ℕ)) → is_input_name name names ≡ false → All (Differ name) names
no_input name names h = subst (All (Differ name)) (same_map names) (none_of itself name names h)

input_none : (name : List ℕ) (names : List (List ℕ)) → All (Differ name) names → is_input_name name names ≡ false
input_none name names h = of_none itself name names (subst (All (Differ name)) (sym (same_map names)) h)

abbrev name_of_output : Output → List ℕ
name_of_output o = o.name

abbrev name_of_start : Start → List ℕ
name_of_start s = s.name

-- the first differs from the others, and these from each other
pairs_head : (x : List ℕ) (xs : List (List ℕ)) → AllPairs Differ (x ∷ xs) → All (Differ x) xs
pairs_head x xs h k d low = h 0 (suc k) d (omega arith) (omega (arith, low))

pairs_tail : (x : List ℕ) (xs : List (List ℕ)) → AllPairs Differ (x ∷ xs) → AllPairs Differ xs
pairs_tail x xs h i j d less low = h (suc i) (suc j) d (omega (arith, less)) (omega (arith, low))

no_pairs : AllPairs Differ []
no_pairs i j d less low = absurd (omega (arith, low))

outputs_pairs : (outputs : List Output) → IsTrue (outputs_differ outputs) → AllPairs Differ (map name_of_output outputs)
outputs_pairs [] h = no_pairs
outputs_pairs (o ∷ outputs) h =
    let p = and_parts (not (is_output_name o.name outputs)) (outputs_differ outputs) h in
    AllPairs-cons Differ o.name (map name_of_output outputs) (none_of name_of_output o.name outputs (not-true _ p.0)) (outputs_pairs outputs p.1)

pairs_outputs : (outputs : List Output) → AllPairs Differ (map name_of_output outputs) → IsTrue (outputs_differ outputs)
pairs_outputs [] h = refl
pairs_outputs (o ∷ outputs) h =
    and_from (not (is_output_name o.name outputs)) (outputs_differ outputs)
    (not_from_false _ (of_none name_of_output o.name outputs (pairs_head o.name (map name_of_output outputs) h))) (pairs_outputs outputs (pairs_tail o.name (map name_of_output outputs) h))

starts_pairs : (starts : List Start) → IsTrue (starts_differ starts) → AllPairs Differ (map name_of_start starts)
starts_pairs [] h = no_pairs
starts_pairs (s ∷ starts) h =
    let p = and_parts (not (is_start_name s.name starts)) (starts_differ starts) h in
    AllPairs-cons Differ s.name (map name_of_start starts) (none_of name_of_start s.name starts (not-true _ p.0)) (starts_pairs starts p.1)

pairs_starts : (starts : List Start) → AllPairs Differ (map name_of_start starts) → IsTrue (starts_differ starts)
pairs_starts [] h = refl
pairs_starts (s ∷ starts) h =
    and_from (not (is_start_name s.name starts)) (starts_differ starts)
    (not_from_false _ (of_none name_of_start s.name starts (pairs_head s.name (map name_of_start starts) h))) (pairs_starts starts (pairs_tail s.name (map name_of_start starts) h))

-- the parts of a fact on a whole list
all_front : (P : List ℕ → Type 0) (xs ys : List (List ℕ)) → All P (xs ++ ys) → All P xs
all_front P [] ys h = All-nil P
all_front P (x ∷ xs) ys h = All-cons P x xs (All-head P x (xs ++ ys) h) (all_front P xs ys (All-tail P x (xs ++ ys) h))

all_back : (P : List ℕ → Type 0) (xs ys : List (List ℕ)) → All P (xs ++ ys) → All P ys
all_back P [] ys h = h
all_back P (x ∷ xs) ys h = all_back P xs ys (All-tail P x (xs ++ ys) h)

inputs_pairs : (starts : List Start) (inputs : List (List ℕ)) → IsTrue (inputs_differ starts inputs) → IsTrue (starts_differ starts) → AllPairs Differ (inputs ++ map name_of_start starts)
inputs_pairs starts [] h k = starts_pairs starts k
inputs_pairs starts (name ∷ inputs) h k =
    let p = and_parts (not (is_input_name name inputs || is_start_name name starts)) (inputs_differ starts inputs) h in
    let q = or_parts (is_input_name name inputs) (is_start_name name starts) (not-true _ p.0) in
    AllPairs-cons Differ name (inputs ++ map name_of_start starts) (All-append (Differ name) inputs (map name_of_start starts) (no_input name inputs q.0) (none_of name_of_start name starts q.1)) (inputs_pairs starts inputs p.1 k)

pairs_inputs : (starts : List Start) (inputs : List (List ℕ)) → AllPairs Differ (inputs ++ map name_of_start starts) → IsTrue (inputs_differ starts inputs) × IsTrue (starts_differ starts)
pairs_inputs starts [] h = (refl, pairs_starts starts h)
pairs_inputs starts (name ∷ inputs) h =
    let all = pairs_head name (inputs ++ map name_of_start starts) h in
    let rest = pairs_inputs starts inputs (pairs_tail name (inputs ++ map name_of_start starts) h) in (
      and_from (not (is_input_name name inputs || is_start_name name starts)) (inputs_differ starts inputs)
          (not_from_false _ (or_from (is_input_name name inputs) (is_start_name name starts) (input_none name inputs (all_front (Differ name) inputs (map name_of_start starts) all)) (of_none name_of_start name starts (all_back (Differ name) inputs (map name_of_start starts) all)))) rest.0,
      rest.1,
    )

-- the other way round
turned : (name : List ℕ) (names : List (List ℕ)) → All (Differ name) names → All (λ other. other ≢ name) names
turned name names h k d low e = h k d low (sym e)

turned_back : (name : List ℕ) (names : List (List ℕ)) → All (λ other. other ≢ name) names → All (Differ name) names
turned_back name names h k d low e = h k d low (sym e)

module _ (c : Circuit) where
  abbrev all_names : List (List ℕ)
  all_names = c.inputs ++ output_names c ++ start_names c

  abbrev IsApart : Option (List ℕ) → Type 0
  IsApart clock = IfSome clock (λ name. IsTrue (is_name name) × All (λ other. other ≢ name) all_names)

  clock_by : (clock : Option (List ℕ)) → IsTrue (is_clock_apart c clock) → IsApart clock
  clock_by None h = tt
  clock_by (Some name) h =
      let p = and_parts (is_name name) (not (is_taken c name)) h in
      let q = or_parts (is_input_name name c.inputs) (is_output_name name c.outputs || is_start_name name c.starts) (not-true _ p.1) in
      let r = or_parts (is_output_name name c.outputs) (is_start_name name c.starts) q.1 in
      (p.0, turned name all_names (All-append (Differ name) (c.inputs ++ output_names c) (start_names c) (All-append (Differ name) c.inputs (output_names c) (no_input name c.inputs q.0) (none_of name_of_output name c.outputs r.0)) (none_of name_of_start name c.starts r.1)))

  by_clock : (clock : Option (List ℕ)) → IsApart clock → IsTrue (is_clock_apart c clock)
  by_clock None h = refl
  by_clock (Some name) h =
      let all = turned_back name all_names h.1 in
      let front = all_front (Differ name) (c.inputs ++ output_names c) (start_names c) all in
      and_from (is_name name) (not (is_taken c name)) h.0
      (not_from_false _ (or_from (is_input_name name c.inputs) (is_output_name name c.outputs || is_start_name name c.starts) (input_none name c.inputs (all_front (Differ name) c.inputs (output_names c) front))
      (or_from (is_output_name name c.outputs) (is_start_name name c.starts) (of_none name_of_output name c.outputs (all_back (Differ name) c.inputs (output_names c) front)) (of_none name_of_start name c.starts (all_back (Differ name) (c.inputs ++ output_names c) (start_names c) all)))))

  -- sources

  source_by : (s : Source) → IsTrue (has_source c s) → HasSource c s
  source_by (source.Input i) h = test_lt i (length c.inputs) h
  source_by (source.Module m) h = test_lt m (length c.modules) h
  source_by source.Zero h = tt
  source_by source.One h = tt
  source_by source.Clock h = tt

  by_source : (s : Source) → HasSource c s → IsTrue (has_source c s)
  by_source (source.Input i) h = lt_test i (length c.inputs) h
  by_source (source.Module m) h = lt_test m (length c.modules) h
  by_source source.Zero h = refl
  by_source source.One h = refl
  by_source source.Clock h = refl

  abbrev ArePins : List Source → Type 0
  ArePins sources = (length sources ≡ 8) × All (HasSource c) sources

  pins_by : (pins : List Source) → IsTrue (are_pins c pins) → ArePins pins
  pins_by pins h = let p = and_parts (length pins == 8) (list_all (has_source c) pins) h in (test_eq (length pins) 8 p.0, all_by (HasSource c) (has_source c) source_by pins p.1)

  by_pins : (pins : List Source) → ArePins pins → IsTrue (are_pins c pins)
  by_pins pins h = and_from (length pins == 8) (list_all (has_source c) pins) (eq_test (length pins) 8 h.0) (by_all (HasSource c) (has_source c) by_source pins h.1)

  not_clock : (s : Source) → IsTrue (not (is_clock s)) → s ≢ source.Clock
  not_clock source.Clock h e = cc
  not_clock source.Zero h e = cc
  not_clock source.One h e = cc
  not_clock (source.Input i) h e = cc
  not_clock (source.Module m) h e = cc

  clock_not : (s : Source) → s ≢ source.Clock → IsTrue (not (is_clock s))
  clock_not source.Clock h = absurd (h refl)
  clock_not source.Zero h = refl
  clock_not source.One h = refl
  clock_not (source.Input i) h = refl
  clock_not (source.Module m) h = refl

  -- what the test tells of an output, and of a start
  record IsFineOutput (o : Output) : Type 0 where
    named : IsTrue (is_name o.name)
    no_clock : o.source ≢ source.Clock
    there : HasSource c o.source

  output_by : (o : Output) → IsTrue (is_output c o) → IsFineOutput o
  output_by o h =
      let p = and_parts (is_name o.name) (not (is_clock o.source) && has_source c o.source) h in
      let q = and_parts (not (is_clock o.source)) (has_source c o.source) p.1 in
      record { named = p.0; no_clock = not_clock o.source q.0; there = source_by o.source q.1 }

  by_output : (o : Output) → IsFineOutput o → IsTrue (is_output c o)
  by_output o h =
      and_from (is_name o.name) (not (is_clock o.source) && has_source c o.source) h.named
      (and_from (not (is_clock o.source)) (has_source c o.source) (clock_not o.source h.no_clock) (by_source o.source h.there))

  record IsFineStart (s : Start) : Type 0 where
    named : IsTrue (is_name s.name)
    init : s.init ≤ 3
    there : s.module < length c.modules

  start_by : (s : Start) → IsTrue (is_start c s) → IsFineStart s
  start_by s h =
      let p = and_parts (is_name s.name) (nat_le s.init 3 && nat_lt s.module (length c.modules)) h in
      let q = and_parts (nat_le s.init 3) (nat_lt s.module (length c.modules)) p.1 in
      record { named = p.0; init = test_le s.init 3 q.0; there = test_lt s.module (length c.modules) q.1 }

  by_start : (s : Start) → IsFineStart s → IsTrue (is_start c s)
  by_start s h =
      and_from (is_name s.name) (nat_le s.init 3 && nat_lt s.module (length c.modules)) h.named
      (and_from (nat_le s.init 3) (nat_lt s.module (length c.modules)) (le_test s.init 3 h.init) (lt_test s.module (length c.modules) h.there))

  -- what is legal of a circuit
  pub record IsLegalCircuit : Type 0 where
    pub range : InRange c
    pub inits : All (λ (s : Start). s.init ≤ 3) c.starts
    pub starts_rise : Rises StartIsBefore c.starts
    pub outputs : All (λ (o : Output). o.source ≢ source.Clock) c.outputs
    pub names : HasNames c

  abbrev IsNamed : List ℕ → Type 0
  IsNamed name = IsTrue (is_name name)

  circuit_by : IsTrue (is_circuit c) → IsLegalCircuit
  circuit_by h =
      let few = and_parts (are_few c) (are_modules c && (are_outputs c && (are_starts c && has_names c))) h in
      let modules = and_parts (are_modules c) (are_outputs c && (are_starts c && has_names c)) few.1 in
      let outputs = and_parts (are_outputs c) (are_starts c && has_names c) modules.1 in
      let starts = and_parts (are_starts c) (has_names c) outputs.1 in
      let rising = and_parts (list_all (is_start c) c.starts) (starts_rise None c.starts) starts.0 in
      let named = and_parts (are_names c.inputs) (inside_differs c && outside_differs c) starts.1 in
      let differ = and_parts (inside_differs c) (outside_differs c) named.1 in
      let ins = and_parts (inputs_differ c.starts c.inputs) (starts_differ c.starts) differ.0 in
      let outs = and_parts (outputs_differ c.outputs) (is_clock_apart c c.clock) differ.1 in
      let low = and_parts (nat_le (length c.inputs) 65535) (nat_le (length c.outputs) 65535 && nat_le (length c.modules) 65535) few.0 in
      let lower = and_parts (nat_le (length c.outputs) 65535) (nat_le (length c.modules) 65535) low.1 in
      let all_outputs = all_by IsFineOutput (is_output c) output_by c.outputs outputs.0 in
      let all_starts = all_by IsFineStart (is_start c) start_by c.starts rising.0 in
      record {
        range = record {
          pins = all_by ArePins (are_pins c) pins_by c.modules modules.0;
          outputs = λ k d inside. (all_outputs k d inside).there;
          starts = λ k d inside. (all_starts k d inside).there;
          few_inputs = test_le (length c.inputs) 65535 low.0;
          few_outputs = test_le (length c.outputs) 65535 lower.0;
          few_modules = test_le (length c.modules) 65535 lower.1;
        };
        inits = λ k d inside. (all_starts k d inside).init;
        starts_rise = rising_starts c.starts rising.1;
        outputs = λ k d inside. (all_outputs k d inside).no_clock;
        names = record {
          each = All-append IsNamed (c.inputs ++ output_names c) (start_names c)
              (All-append IsNamed c.inputs (output_names c) (all_by IsNamed is_name (λ name t. t) c.inputs named.0) (All-map IsNamed name_of_output c.outputs (λ k d inside. (all_outputs k d inside).named)))
              (All-map IsNamed name_of_start c.starts (λ k d inside. (all_starts k d inside).named));
          inputs = inputs_pairs c.starts c.inputs ins.0 ins.1;
          outputs = outputs_pairs c.outputs outs.0;
          clock = clock_by c.clock outs.1;
        };
      }

  outputs_fine : IsLegalCircuit → All IsNamed (output_names c) → (os : List Output) → All IsNamed (map name_of_output os) → All (λ (o : Output). o.source ≢ source.Clock) os → All (λ (o : Output). HasSource c o.source) os → IsTrue (list_all (is_output c) os)
  outputs_fine legal whole [] named apart there = refl
  outputs_fine legal whole (o ∷ os) named apart there =
      and_from (is_output c o) (list_all (is_output c) os)
      (by_output o (record { named = All-head IsNamed o.name (map name_of_output os) named; no_clock = All-head (λ (p : Output). p.source ≢ source.Clock) o os apart; there = All-head (λ (p : Output). HasSource c p.source) o os there }))
      (outputs_fine legal whole os (All-tail IsNamed o.name (map name_of_output os) named) (All-tail (λ (p : Output). p.source ≢ source.Clock) o os apart) (All-tail (λ (p : Output). HasSource c p.source) o os there))

  starts_fine : (ss : List Start) → All IsNamed (map name_of_start ss) → All (λ (s : Start). s.init ≤ 3) ss → All (λ (s : Start). s.module < length c.modules) ss → IsTrue (list_all (is_start c) ss)
  starts_fine [] named inits there = refl
  starts_fine (s ∷ ss) named inits there =
      and_from (is_start c s) (list_all (is_start c) ss)
      (by_start s (record { named = All-head IsNamed s.name (map name_of_start ss) named; init = All-head (λ (t : Start). t.init ≤ 3) s ss inits; there = All-head (λ (t : Start). t.module < length c.modules) s ss there }))
      (starts_fine ss (All-tail IsNamed s.name (map name_of_start ss) named) (All-tail (λ (t : Start). t.init ≤ 3) s ss inits) (All-tail (λ (t : Start). t.module < length c.modules) s ss there))

  by_circuit : IsLegalCircuit → IsTrue (is_circuit c)
  by_circuit h =
      let front = all_front IsNamed (c.inputs ++ output_names c) (start_names c) h.names.each in
      let ins = all_front IsNamed c.inputs (output_names c) front in
      let outs = all_back IsNamed c.inputs (output_names c) front in
      let helds = all_back IsNamed (c.inputs ++ output_names c) (start_names c) h.names.each in
      let differ = pairs_inputs c.starts c.inputs h.names.inputs in
      and_from (are_few c) (are_modules c && (are_outputs c && (are_starts c && has_names c)))
      (and_from (nat_le (length c.inputs) 65535) (nat_le (length c.outputs) 65535 && nat_le (length c.modules) 65535) (le_test (length c.inputs) 65535 h.range.few_inputs)
      (and_from (nat_le (length c.outputs) 65535) (nat_le (length c.modules) 65535) (le_test (length c.outputs) 65535 h.range.few_outputs) (le_test (length c.modules) 65535 h.range.few_modules)))
      (and_from (are_modules c) (are_outputs c && (are_starts c && has_names c)) (by_all ArePins (are_pins c) by_pins c.modules h.range.pins)
      (and_from (are_outputs c) (are_starts c && has_names c) (outputs_fine h outs c.outputs outs h.outputs h.range.outputs)
      (and_from (are_starts c) (has_names c) (and_from (list_all (is_start c) c.starts) (starts_rise None c.starts) (starts_fine c.starts helds h.inits h.range.starts) (starts_rising c.starts h.starts_rise))
      (and_from (are_names c.inputs) (inside_differs c && outside_differs c) (by_all IsNamed is_name (λ name t. t) c.inputs ins)
      (and_from (inside_differs c) (outside_differs c) (and_from (inputs_differ c.starts c.inputs) (starts_differ c.starts) differ.0 differ.1)
      (and_from (outputs_differ c.outputs) (is_clock_apart c c.clock) (pairs_outputs c.outputs h.names.outputs) (by_clock c.clock h.names.clock)))))))

-- pads
pads_by : (inputs outputs pads : ℕ) → IsTrue (nat_le inputs pads) → IsTrue (nat_le outputs (pads - inputs)) → inputs + outputs ≤ pads
pads_by inputs outputs pads h k = let low = test_le inputs pads h in let rest = test_le outputs (pads - inputs) k in omega (arith, low, rest)

spot_on : (dev : Device) (s : Spot) → IsTrue (is_on_device dev s) → IsOnDevice dev s
spot_on dev s h = let p = and_parts (nat_lt s.row dev.rows) (nat_lt s.column dev.columns) h in (test_lt s.row dev.rows p.0, test_lt s.column dev.columns p.1)

on_spot : (dev : Device) (s : Spot) → IsOnDevice dev s → IsTrue (is_on_device dev s)
on_spot dev s h = and_from (nat_lt s.row dev.rows) (nat_lt s.column dev.columns) (lt_test s.row dev.rows h.0) (lt_test s.column dev.columns h.1)

module _ (dev : Device) (plan : Plan) where
  abbrev circuit : Circuit
  circuit = plan.placed.circuit

  pub legal_by : plan.device ≡ dev.name → IsTrue (is_legal_but dev plan) → Legal dev plan
  legal_by named h =
      let k = and_parts (is_k plan.k) (has_pads dev circuit && (are_spots dev plan && is_circuit circuit)) h in
      let bounds = and_parts (nat_le 1 plan.k) (nat_le plan.k 64) k.0 in
      let pads = and_parts (has_pads dev circuit) (are_spots dev plan && is_circuit circuit) k.1 in
      let parts = and_parts (nat_le (length circuit.inputs) (length dev.pads)) (nat_le (length circuit.outputs) (length dev.pads - length circuit.inputs)) pads.0 in
      let spots = and_parts (are_spots dev plan) (is_circuit circuit) pads.1 in
      let each = and_parts (length plan.placed.spots == length circuit.modules) (list_all (is_on_device dev) plan.placed.spots && spots_rise None plan.placed.spots) spots.0 in
      let on = and_parts (list_all (is_on_device dev) plan.placed.spots) (spots_rise None plan.placed.spots) each.1 in
      let legal = circuit_by circuit spots.1 in
      record {
        device = named;
        low = test_le 1 plan.k bounds.0;
        high = test_le plan.k 64 bounds.1;
        spots = test_eq (length plan.placed.spots) (length circuit.modules) each.0;
        on_device = all_by (IsOnDevice dev) (is_on_device dev) (spot_on dev) plan.placed.spots on.0;
        rise = rising_spots plan.placed.spots on.1;
        range = legal.range;
        inits = legal.inits;
        starts_rise = legal.starts_rise;
        outputs = legal.outputs;
        names = legal.names;
        pads = pads_by (length circuit.inputs) (length circuit.outputs) (length dev.pads) parts.0 parts.1;
      }

  pub by_legal : Legal dev plan → IsTrue (is_legal_but dev plan)
  by_legal h =
      let pads = h.pads in
      let low : length circuit.inputs ≤ length dev.pads = omega (arith, pads) in
      let rest : length circuit.outputs ≤ length dev.pads - length circuit.inputs = omega (arith, pads) in
      and_from (is_k plan.k) (has_pads dev circuit && (are_spots dev plan && is_circuit circuit)) (and_from (nat_le 1 plan.k) (nat_le plan.k 64) (le_test 1 plan.k h.low) (le_test plan.k 64 h.high))
      (and_from (has_pads dev circuit) (are_spots dev plan && is_circuit circuit)
      (and_from (nat_le (length circuit.inputs) (length dev.pads)) (nat_le (length circuit.outputs) (length dev.pads - length circuit.inputs)) (le_test (length circuit.inputs) (length dev.pads) low) (le_test (length circuit.outputs) (length dev.pads - length circuit.inputs) rest))
      (and_from (are_spots dev plan) (is_circuit circuit)
      (and_from (length plan.placed.spots == length circuit.modules) (list_all (is_on_device dev) plan.placed.spots && spots_rise None plan.placed.spots) (eq_test (length plan.placed.spots) (length circuit.modules) h.spots)
      (and_from (list_all (is_on_device dev) plan.placed.spots) (spots_rise None plan.placed.spots) (by_all (IsOnDevice dev) (is_on_device dev) (on_spot dev) plan.placed.spots h.on_device) (spots_rising plan.placed.spots h.rise)))
      (by_circuit circuit (record { range = h.range; inits = h.inits; starts_rise = h.starts_rise; outputs = h.outputs; names = h.names }))))

  pub legal_iff : (t : Bool) → plan.device ≡ dev.name → t ≡ is_legal_but dev plan → IsTrue t ↔ Legal dev plan
  legal_iff t named is = (λ h. legal_by named (sym is ∙ h), λ h. is ∙ by_legal h)
