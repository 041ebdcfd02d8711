-- The statements of a netlist's canonical text have no fault of the whole, but for rings.
use Rattle.std.proofs.Common.{ℕ, zero, suc, ◌≡◌, ◌+◌, ◌<◌, Bool, true, false, not, ◌&&◌, ◌||◌, ◌==◌, List, [], ◌∷◌, ◌++◌, length, map, take, drop, Option, Some, None, codes, refl, sym, ap, subst, ◌∙◌, arith}
use Rattle.std.specs.Prelude.{nat_lt, nat_le, option_map}
use Rattle.std.specs.List.{list_all, list_any, AllByRecursion}
use Rattle.std.specs.Str.{bytes_eq}
use Rattle.std.proofs.lemmas.Bool.{and_parts, and_from, or_from, false≢true, true≢false}
use Rattle.std.proofs.lemmas.Grind.{flat_map-append}
use Rattle.std.proofs.lemmas.List.{take-append-drop}
use Rattle.act1_base.specs.Names.{are_different_numbers}
use Rattle.act1_blif.specs.declared.blif.Blif.{Blif}
use Rattle.act1_blif.specs.declared.blif.Latch.{Latch}
use Rattle.act1_blif.specs.declared.blif.Node.{Node}
use Rattle.act1_blif.specs.Names.{signal_name, signal_names}
use Rattle.act1_blif.specs.Rules.{is_latch, is_node}
use Rattle.act1_blif.specs.Text.{node_lines}
use Rattle.act1_bliftext.specs.declared.fault.BlifKind.TheVariants.{Twice, Clocks, Undriven, ClockUsed}
use Rattle.act1_bliftext.specs.declared.statement.NumberedStatement.{NumberedStatement}
use Rattle.act1_bliftext.specs.declared.statement.Statement.{Statement}
use Rattle.act1_bliftext.specs.declared.statement.Statement.TheVariants as said
use Rattle.act1_blifread.specs.Parts.{all_of, clock_of, given_names, is_clock, output_names, used_names}
use Rattle.act1_blifread.specs.Faults.{IsFree, Passes, is_among, is_twice, is_second_clock, is_undriven, is_clock_used}
use Rattle.act1_blifread.specs.Netlist.{signal_at}
use Rattle.act1_blifread.proofs.NumberLists.{different_front, equal_true, equal_false}
use Rattle.act1_blifread.proofs.CanonicalNames.{is_in, passes_in}
use Rattle.act1_blifread.proofs.CanonicalNet.{all_names, count_of, keeps, read_in, latches_signals, nodes_signals, low_signal}
use Rattle.act1_blifread.proofs.CanonicalSaid.{place_in}
use Rattle.act1_blifread.proofs.CanonicalLines.{control_by, control_said, latches_said, nodes_said}
use Rattle.act1_blifread.proofs.CanonicalReads.{head_said, head_words, latch_lines_of, clock_said, blif_said}
use Rattle.act1_blifread.proofs.CanonicalPlaces.{place_among, places_differ}
use Rattle.act1_blifread.proofs.CanonicalParts.{latch_outputs, node_outputs, given_are, outputs_are, clock_is, signals_known, signals_apart, no_clock, number_back}

-- names that differ in the whole differ in the first statements
pub different_first : (names : Statement → List ℕ) (ss : List NumberedStatement) (n : ℕ) → are_different_numbers (all_of names ss) ≡ true → are_different_numbers (all_of names (take n ss)) ≡ true
different_first names ss n e = by (are_different_numbers (all_of names (take n ss))) refl
  where
    whole_is : all_of names (take n ss) ++ all_of names (drop n ss) ≡ all_of names ss
    whole_is = sym (flat_map-append (λ (s : NumberedStatement). names s.statement) (take n ss) (drop n ss)) ∙ ap (all_of names) (take-append-drop n ss)

    by : (b : Bool) → are_different_numbers (all_of names (take n ss)) ≡ b → b ≡ true
    by true f = refl
    by false f = absurd (false≢true (sym (different_front (all_of names (take n ss)) (all_of names (drop n ss)) f) ∙ ap are_different_numbers whole_is ∙ e))

not_twice : (ss : List NumberedStatement) → are_different_numbers (all_of given_names ss) ≡ true → are_different_numbers (all_of output_names ss) ≡ true → IsFree ss Twice
not_twice ss given outputs k low has = true≢false (sym has ∙ both (different_first given_names ss (k + 1) given) (different_first output_names ss (k + 1) outputs))
  where
    both : are_different_numbers (all_of given_names (take (k + 1) ss)) ≡ true → are_different_numbers (all_of output_names (take (k + 1) ss)) ≡ true → is_twice (take (k + 1) ss) ≡ false
    both a b = ap (λ (c : Bool). not (c && are_different_numbers (all_of output_names (take (k + 1) ss)))) a ∙ ap not b

-- no statement passes a test that each fails
none_pass : (test : Statement → Bool) (ss : List NumberedStatement) → AllByRecursion (λ (numbered : NumberedStatement). test numbered.statement ≡ false) ss → (k : ℕ) → k < length ss → ¬ Passes test ss k
none_pass test [] h k low has = absurd (omega arith)
none_pass test (s ∷ ss) h zero low has = false≢true (sym h.0 ∙ has)
none_pass test (s ∷ ss) h (suc k) low has = none_pass test ss h.1 k (omega arith) has

-- what is tested of each statement, by the names that are given and by the clock
pub record IsTested (given : List ℕ) (clock : Option ℕ) (t : Statement) : Type 0 where
  pub one_clock : is_second_clock clock t ≡ false
  pub driven : list_any (λ n. not (is_among given n || is_clock clock n)) (used_names t) ≡ false
  pub unused : is_clock_used clock t ≡ false

abbrev pub AreTested : List ℕ → Option ℕ → List NumberedStatement → Type 0
AreTested given clock ss = AllByRecursion (λ (numbered : NumberedStatement). IsTested given clock numbered.statement) ss

both_tested : (given : List ℕ) (clock : Option ℕ) (ss ts : List NumberedStatement) → AreTested given clock ss → AreTested given clock ts → AreTested given clock (ss ++ ts)
both_tested given clock [] ts h k = k
both_tested given clock (s ∷ ss) ts h k = (h.0, both_tested given clock ss ts h.1 k)

tests_one : (given : List ℕ) (clock : Option ℕ) (ss : List NumberedStatement) → AreTested given clock ss → AllByRecursion (λ (numbered : NumberedStatement). is_second_clock clock numbered.statement ≡ false) ss
tests_one given clock [] h = tt
tests_one given clock (s ∷ ss) h = (h.0.one_clock, tests_one given clock ss h.1)

tests_driven : (given : List ℕ) (clock : Option ℕ) (ss : List NumberedStatement) → AreTested given clock ss → AllByRecursion (λ (numbered : NumberedStatement). list_any (λ n. not (is_among given n || is_clock clock n)) (used_names numbered.statement) ≡ false) ss
tests_driven given clock [] h = tt
tests_driven given clock (s ∷ ss) h = (h.0.driven, tests_driven given clock ss h.1)

tests_unused : (given : List ℕ) (clock : Option ℕ) (ss : List NumberedStatement) → AreTested given clock ss → AllByRecursion (λ (numbered : NumberedStatement). is_clock_used clock numbered.statement ≡ false) ss
tests_unused given clock [] h = tt
tests_unused given clock (s ∷ ss) h = (h.0.unused, tests_unused given clock ss h.1)

module _ (net : Blif) (names : List (List ℕ)) (has : list_all (is_in names) (all_names net) ≡ true) where
  abbrev given : List ℕ
  given = map (place_in names) (signal_names net)

  abbrev clock_number : Option ℕ
  clock_number = option_map (place_in names) net.clock

  known_signal : (w : List ℕ) → is_in (signal_names net) w ≡ true → is_in names w ≡ true
  known_signal w h = passes_in (is_in names) (signal_names net) w (signals_known net names has) h

  is_given : (w : List ℕ) → is_in (signal_names net) w ≡ true → is_among given (place_in names w) ≡ true
  is_given w h = place_among names (signal_names net) w (signals_known net names has) (known_signal w h) ∙ h

  all_driven : (words : List (List ℕ)) → list_all (is_in (signal_names net)) words ≡ true → list_any (λ n. not (is_among given n || is_clock clock_number n)) (map (place_in names) words) ≡ false
  all_driven [] h = refl
  all_driven (w ∷ words) h =
      let parts = and_parts (is_in (signal_names net) w) (list_all (is_in (signal_names net)) words) h in
      ap (λ (b : Bool). not (b || is_clock clock_number (place_in names w)) || list_any (λ n. not (is_among given n || is_clock clock_number n)) (map (place_in names) words)) (is_given w parts.0) ∙ all_driven words parts.1

  all_unused : (words : List (List ℕ)) → list_all (is_in (signal_names net)) words ≡ true → list_any (is_clock clock_number) (map (place_in names) words) ≡ false
  all_unused [] h = refl
  all_unused (w ∷ words) h =
      let parts = and_parts (is_in (signal_names net) w) (list_all (is_in (signal_names net)) words) h in
      or_from (is_clock clock_number (place_in names w)) (list_any (is_clock clock_number) (map (place_in names) words)) (no_clock net names has w parts.0) (all_unused words parts.1)

  signal_there : (s : ℕ) → nat_lt s (count_of net) ≡ true → is_in (signal_names net) (signal_name net s) ≡ true
  signal_there s h = read_in (signal_names net) s (low_signal net s h)

  signals_there : (ss : List ℕ) → list_all (λ s. nat_lt s (count_of net)) ss ≡ true → list_all (is_in (signal_names net)) (map (signal_name net) ss) ≡ true
  signals_there [] h = refl
  signals_there (s ∷ ss) h =
      let parts = and_parts (nat_lt s (count_of net)) (list_all (λ t. nat_lt t (count_of net)) ss) h in
      and_from (is_in (signal_names net) (signal_name net s)) (list_all (is_in (signal_names net)) (map (signal_name net) ss)) (signal_there s parts.0) (signals_there ss parts.1)

  -- the clock is the clock
  own_clock : (clock : List ℕ) → net.clock ≡ Some clock → not (is_clock clock_number (place_in names clock)) ≡ false
  own_clock clock is = ap (λ (c : Option (List ℕ)). not (is_clock (option_map (place_in names) c) (place_in names clock))) is ∙ ap not (equal_true (place_in names clock) (place_in names clock) refl)

  one_control : (clock : Option (List ℕ)) → net.clock ≡ clock → (i o n : ℕ) → is_second_clock clock_number (said.Latch i o (control_said names clock) n) ≡ false
  one_control None is i o n = refl
  one_control (Some clock) is i o n = by (bytes_eq clock (codes "NIL"))
    where
      by : (b : Bool) → is_second_clock clock_number (said.Latch i o (control_by names clock b) n) ≡ false
      by true = refl
      by false = or_from (not (is_clock clock_number (place_in names clock))) false (own_clock clock is) refl

  clock_tested : (clock : Option (List ℕ)) → net.clock ≡ clock → AreTested given clock_number (clock_said net names clock)
  clock_tested None is = tt
  clock_tested (Some clock) is = (record { one_clock = or_from (not (is_clock clock_number (place_in names clock))) false (own_clock clock is) refl; driven = refl; unused = refl }, tt)

  latches_tested : (number : ℕ) (latches : List Latch) → list_all (is_latch (count_of net)) latches ≡ true → list_all (is_in (signal_names net)) (latch_outputs latches) ≡ true → AreTested given clock_number (latches_said net names number latches)
  latches_tested number [] h k = tt
  latches_tested number (latch ∷ latches) h k =
      let parts = and_parts (is_latch (count_of net) latch) (list_all (is_latch (count_of net)) latches) h in
      let both = and_parts (is_in (signal_names net) latch.name) (list_all (is_in (signal_names net)) (latch_outputs latches)) k in
      let low = and_parts (nat_lt latch.input (count_of net)) (nat_le latch.init 3) parts.0 in
      let input = signal_there latch.input low.0 in (
        record {
          one_clock = one_control net.clock refl (place_in names (signal_name net latch.input)) (place_in names latch.name) latch.init;
          driven = all_driven (signal_name net latch.input ∷ []) (and_from (is_in (signal_names net) (signal_name net latch.input)) true input refl);
          unused = all_unused (signal_name net latch.input ∷ latch.name ∷ []) (and_from (is_in (signal_names net) (signal_name net latch.input)) (is_in (signal_names net) latch.name && true) input (and_from (is_in (signal_names net) latch.name) true both.0 refl));
        },
        latches_tested (number + 1) latches parts.1 both.1,
      )

  nodes_tested : (number : ℕ) (nodes : List Node) → list_all (is_node (count_of net)) nodes ≡ true → list_all (is_in (signal_names net)) (node_outputs nodes) ≡ true → AreTested given clock_number (nodes_said net names number nodes)
  nodes_tested number [] h k = tt
  nodes_tested number (node ∷ nodes) h k =
      let parts = and_parts (is_node (count_of net) node) (list_all (is_node (count_of net)) nodes) h in
      let both = and_parts (is_in (signal_names net) node.name) (list_all (is_in (signal_names net)) (node_outputs nodes)) k in
      let low = and_parts (node.cover.width == length node.inputs) (list_all (λ s. nat_lt s (count_of net)) node.inputs) parts.0 in
      let inputs = signals_there node.inputs low.1 in (
        record {
          one_clock = refl;
          driven = all_driven (map (signal_name net) node.inputs) inputs;
          unused = all_unused (node.name ∷ map (signal_name net) node.inputs) (and_from (is_in (signal_names net) node.name) (list_all (is_in (signal_names net)) (map (signal_name net) node.inputs)) both.0 inputs);
        },
        nodes_tested (number + length (node_lines net node)) nodes parts.1 both.1,
      )

  all_tested : AreTested given clock_number (blif_said net names)
  all_tested =
      let k = keeps net in
      let outputs = signals_there net.outputs k.outputs in
      let outputs_tested : IsTested given clock_number (said.Outputs (map (place_in names) (map (signal_name net) net.outputs))) = record { one_clock = refl; driven = all_driven (map (signal_name net) net.outputs) outputs; unused = all_unused (map (signal_name net) net.outputs) outputs } in
      let inputs_tested : IsTested given clock_number (said.Inputs (map (place_in names) net.inputs)) = record { one_clock = refl; driven = refl; unused = refl } in
      let heads = head_said net names in
      let latches = latches_said net names (1 + length (head_words net names)) net.latches in
      let nodes = nodes_said net names (1 + length (head_words net names ++ latch_lines_of net names)) net.nodes in
      both_tested given clock_number (heads ++ latches) nodes
      (both_tested given clock_number heads latches (inputs_tested, (outputs_tested, clock_tested net.clock refl)) (latches_tested (1 + length (head_words net names)) net.latches k.latches (latches_signals net)))
      (nodes_tested (1 + length (head_words net names ++ latch_lines_of net names)) net.nodes k.nodes (nodes_signals net))

  pub one_clock : IsFree (blif_said net names) Clocks
  one_clock = none_pass (is_second_clock (clock_of (blif_said net names))) (blif_said net names)
      (subst (λ (c : Option ℕ). AllByRecursion (λ (numbered : NumberedStatement). is_second_clock c numbered.statement ≡ false) (blif_said net names)) (sym (clock_is net names)) (tests_one given clock_number (blif_said net names) all_tested))

  pub none_undriven : IsFree (blif_said net names) Undriven
  none_undriven = none_pass (is_undriven (blif_said net names)) (blif_said net names)
      (subst (λ (c : Option ℕ). AllByRecursion (λ (numbered : NumberedStatement). list_any (λ n. not (is_among (all_of given_names (blif_said net names)) n || is_clock c n)) (used_names numbered.statement) ≡ false) (blif_said net names)) (sym (clock_is net names))
      (subst (λ (g : List ℕ). AllByRecursion (λ (numbered : NumberedStatement). list_any (λ n. not (is_among g n || is_clock clock_number n)) (used_names numbered.statement) ≡ false) (blif_said net names)) (sym (given_are net names))
      (tests_driven given clock_number (blif_said net names) all_tested)))

  pub clock_unused : IsFree (blif_said net names) ClockUsed
  clock_unused = none_pass (is_clock_used (clock_of (blif_said net names))) (blif_said net names)
      (subst (λ (c : Option ℕ). AllByRecursion (λ (numbered : NumberedStatement). is_clock_used c numbered.statement ≡ false) (blif_said net names)) (sym (clock_is net names)) (tests_unused given clock_number (blif_said net names) all_tested))

  -- different signals have different numbers
  same_signal : (s t : ℕ) → nat_lt s (count_of net) ≡ true → nat_lt t (count_of net) ≡ true → place_in names (signal_name net s) ≡ place_in names (signal_name net t) → s ≡ t
  same_signal s t h k e = sym (number_back net names has s h) ∙ ap (signal_at given) e ∙ number_back net names has t k

  none_again : (s : ℕ) (ss : List ℕ) → nat_lt s (count_of net) ≡ true → list_all (λ t. nat_lt t (count_of net)) ss ≡ true → list_any (λ t. s == t) ss ≡ false → list_any (λ m. place_in names (signal_name net s) == m) (map (place_in names) (map (signal_name net) ss)) ≡ false
  none_again s [] h k e = refl
  none_again s (t ∷ ss) h k e =
      let parts = and_parts (nat_lt t (count_of net)) (list_all (λ u. nat_lt u (count_of net)) ss) k in
      let apart = neither (s == t) (list_any (λ u. s == u) ss) e in
      or_from (place_in names (signal_name net s) == place_in names (signal_name net t)) (list_any (λ m. place_in names (signal_name net s) == m) (map (place_in names) (map (signal_name net) ss)))
      (equal_false (place_in names (signal_name net s)) (place_in names (signal_name net t)) (λ f. true≢false (sym (equal_true s t (same_signal s t h parts.0 f)) ∙ apart.0)))
      (none_again s ss h parts.1 apart.1)
    where
      neither : (a b : Bool) → (a || b) ≡ false → (a ≡ false) × (b ≡ false)
      neither true b f = cc
      neither false b f = (refl, f)

  turned : (b : Bool) → not b ≡ true → b ≡ false
  turned true f = cc
  turned false f = refl

  outputs_differ : (ss : List ℕ) → list_all (λ s. nat_lt s (count_of net)) ss ≡ true → are_different_numbers ss ≡ true → are_different_numbers (map (place_in names) (map (signal_name net) ss)) ≡ true
  outputs_differ [] h d = refl
  outputs_differ (s ∷ ss) h d =
      let parts = and_parts (nat_lt s (count_of net)) (list_all (λ t. nat_lt t (count_of net)) ss) h in
      let apart = and_parts (not (list_any (λ t. s == t) ss)) (are_different_numbers ss) d in
      and_from (not (list_any (λ m. place_in names (signal_name net s) == m) (map (place_in names) (map (signal_name net) ss)))) (are_different_numbers (map (place_in names) (map (signal_name net) ss)))
      (ap not (none_again s ss parts.0 parts.1 (turned (list_any (λ t. s == t) ss) apart.0))) (outputs_differ ss parts.1 apart.1)

  pub none_twice : IsFree (blif_said net names) Twice
  none_twice =
      not_twice (blif_said net names) (ap are_different_numbers (given_are net names) ∙ places_differ names (signal_names net) (signals_known net names has) (signals_apart net names has))
      (ap are_different_numbers (outputs_are net names) ∙ outputs_differ net.outputs (keeps net).outputs (keeps net).outputs_apart)
