-- The netlist of whole statements keeps the rules for netlists.
use Rattle.std.proofs.Common.{ℕ, suc, zero, ◌≡◌, ◌<◌, ◌≤◌, ◌+◌, ◌&&◌, ◌||◌, ◌==◌, not, Bool, true, false, List, [], ◌∷◌, ◌++◌, length, map, Option, Some, None, codes, refl, sym, ap, subst, ◌∙◌, arith}
use Rattle.std.specs.Prelude.{option_map, slice_get, unwrap_or, nat_lt, nat_le}
use Rattle.std.specs.List.{cons_option, list_all, list_any}
use Rattle.std.specs.Str.{bytes_eq}
use Rattle.std.proofs.lemmas.Bool.{and_from, and_parts, false≢true, le-leb}
use Rattle.std.proofs.lemmas.Bool.Decides.{nat_tests}
use Rattle.std.proofs.lemmas.List.{length-append, length-map, map-append}
use Rattle.std.proofs.lemmas.Slice.Eq.{bytes_eq-Decides}
use Rattle.act1_base.specs.Names.{is_name, are_different, are_different_numbers}
use Rattle.act1_blif.specs.declared.blif.Latch.{Latch}
use Rattle.act1_blif.specs.declared.blif.Node.{Node}
use Rattle.act1_blif.specs.Rules.{are_names, is_blif, is_latch, is_node, names_of, with_clock}
use Rattle.act1_bliftext.specs.Rules.{are_below, is_control, is_model}
use Rattle.act1_bliftext.specs.declared.statement.NumberedStatement.{NumberedStatement}
use Rattle.act1_bliftext.specs.declared.statement.Statement.{Statement}
use Rattle.act1_bliftext.specs.declared.statement.Statement.TheVariants as said
use Rattle.act1_bliftext.specs.declared.statements.Statements.{Statements}
use Rattle.act1_blifread.specs.Parts.{all_of, clock_names, clock_of, data_inputs, input_names, is_clock, latch_names, node_names, output_names, signals_of}
use Rattle.act1_blifread.specs.Faults.{IsWhole, is_among, is_clock_used}
use Rattle.act1_blifread.specs.Netlist.{latch_of, latches_of, name_at, node_of, nodes_of, signal_at}
use Rattle.act1_blifread.proofs.FirstLines.{none_passes}
use Rattle.act1_blifread.proofs.NodeGraphs.{all_below, below_true, names_parts}
use Rattle.act1_blifread.proofs.NumberLists.{equal_true, equal_turned, few_below, is_among_more, with_first}
use Rattle.act1_blifread.proofs.SignalLists.{among_filter, clock_below, given_differ, latch_parts, signals_below, signals_differ}
use Rattle.act1_blifread.proofs.SignalUse.{AreFine, IsFine, all_fine, free, not_true_false, number_low, numbers_differ, numbers_low}
use Rattle.act1_blifread.proofs.StatementRules.{kept}

either_false : (a b : Bool) → (a || b) ≡ false → (a ≡ false) × (b ≡ false)
either_false true b e = absurd (false≢true (sym e))
either_false false b e = (refl, e)

-- a place of different names is that of one name
name_once : (names : List (List ℕ)) → are_different names ≡ true → (i j : ℕ) → i < length names → j < length names → name_at names i ≡ name_at names j → i ≡ j
name_once [] e i j low small same = absurd (omega arith)
name_once (x ∷ xs) e zero zero low small same = refl
name_once (x ∷ xs) e zero (suc j) low small same = absurd (met xs j (omega arith) (not_true_false (list_any (bytes_eq x) xs) (and_parts (not (list_any (bytes_eq x) xs)) (are_different xs) e).0) same)
  where
    met : (ys : List (List ℕ)) (j : ℕ) → j < length ys → list_any (bytes_eq x) ys ≡ false → x ≡ name_at ys j → ⊥
    met [] j low h same = absurd (omega arith)
    met (y ∷ ys) zero low h same = false≢true (sym (either_false (bytes_eq x y) (list_any (bytes_eq x) ys) h).0 ∙ (bytes_eq-Decides x y).1 same)
    met (y ∷ ys) (suc j) low h same = met ys j (omega arith) (either_false (bytes_eq x y) (list_any (bytes_eq x) ys) h).1 same
name_once (x ∷ xs) e (suc i) zero low small same = absurd (met xs i (omega arith) (not_true_false (list_any (bytes_eq x) xs) (and_parts (not (list_any (bytes_eq x) xs)) (are_different xs) e).0) (sym same))
  where
    met : (ys : List (List ℕ)) (j : ℕ) → j < length ys → list_any (bytes_eq x) ys ≡ false → x ≡ name_at ys j → ⊥
    met [] j low h same = absurd (omega arith)
    met (y ∷ ys) zero low h same = false≢true (sym (either_false (bytes_eq x y) (list_any (bytes_eq x) ys) h).0 ∙ (bytes_eq-Decides x y).1 same)
    met (y ∷ ys) (suc j) low h same = met ys j (omega arith) (either_false (bytes_eq x y) (list_any (bytes_eq x) ys) h).1 same
name_once (x ∷ xs) e (suc i) (suc j) low small same = ap (λ (k : ℕ). suc k) (name_once xs (and_parts (not (list_any (bytes_eq x) xs)) (are_different xs) e).1 i j (omega arith) (omega arith) same)

name_is_name : (names : List (List ℕ)) → list_all is_name names ≡ true → (i : ℕ) → i < length names → is_name (name_at names i) ≡ true
name_is_name [] e i low = absurd (omega arith)
name_is_name (x ∷ xs) e zero low = (and_parts (is_name x) (list_all is_name xs) e).0
name_is_name (x ∷ xs) e (suc i) low = name_is_name xs (and_parts (is_name x) (list_all is_name xs) e).1 i (omega arith)

module _ (names : List (List ℕ)) (named : list_all is_name names ≡ true) (apart : are_different names ≡ true) (few : length names ≤ 65535) where
  all_named : (ns : List ℕ) → are_below (length names) ns ≡ true → list_all is_name (map (name_at names) ns) ≡ true
  all_named [] e = refl
  all_named (n ∷ ns) e =
      let parts = and_parts (nat_lt n (length names)) (are_below (length names) ns) e in
      and_from (is_name (name_at names n)) (list_all is_name (map (name_at names) ns)) (name_is_name names named n (below_true (length names) n parts.0)) (all_named ns parts.1)

  name_apart : (n : ℕ) (ns : List ℕ) → n < length names → are_below (length names) ns ≡ true → list_any (λ m. n == m) ns ≡ false → list_any (bytes_eq (name_at names n)) (map (name_at names) ns) ≡ false
  name_apart n [] low e f = refl
  name_apart n (m ∷ ns) low e f =
      let parts = and_parts (nat_lt m (length names)) (are_below (length names) ns) e in
      let both = either_false (n == m) (list_any (λ k. n == k) ns) f in
      neither (bytes_eq (name_at names n) (name_at names m)) (list_any (bytes_eq (name_at names n)) (map (name_at names) ns))
      (fails (bytes_eq (name_at names n) (name_at names m)) refl (below_true (length names) m parts.0) both.0) (name_apart n ns low parts.1 both.1)
    where
      neither : (a b : Bool) → a ≡ false → b ≡ false → (a || b) ≡ false
      neither a b e f = cc

      fails : (b : Bool) → bytes_eq (name_at names n) (name_at names m) ≡ b → m < length names → (n == m) ≡ false → b ≡ false
      fails true is small e = absurd (false≢true (sym e ∙ equal_true n m (name_once names apart n m low small ((bytes_eq-Decides (name_at names n) (name_at names m)).0 is))))
      fails false is small e = refl

  all_apart : (ns : List ℕ) → are_below (length names) ns ≡ true → are_different_numbers ns ≡ true → are_different (map (name_at names) ns) ≡ true
  all_apart [] e f = refl
  all_apart (n ∷ ns) e f =
      let parts = and_parts (nat_lt n (length names)) (are_below (length names) ns) e in
      let both = and_parts (not (list_any (λ m. n == m) ns)) (are_different_numbers ns) f in
      and_from (not (list_any (bytes_eq (name_at names n)) (map (name_at names) ns))) (are_different (map (name_at names) ns))
      (ap not (name_apart n ns (below_true (length names) n parts.0) parts.1 (not_true_false (list_any (λ m. n == m) ns) both.0))) (all_apart ns parts.1 both.1)

  -- different numbers within the count stand for names that differ
  numbers_named : (ns : List ℕ) → are_below (length names) ns ≡ true → are_different_numbers ns ≡ true → are_names (map (name_at names) ns) ≡ true
  numbers_named ns e f =
      let low = few_below (length names) ns f e in
      let small : length (map (name_at names) ns) ≤ 65535 = omega (arith, length-map ns (name_at names)) in
      and_from (list_all is_name (map (name_at names) ns) && are_different (map (name_at names) ns)) (nat_le (length (map (name_at names) ns)) 65535)
      (and_from (list_all is_name (map (name_at names) ns)) (are_different (map (name_at names) ns)) (all_named ns e) (all_apart ns e f)) (le-leb (length (map (name_at names) ns)) 65535 small)

-- the names of latches and nodes are those of their statements
latches_named : (names : List (List ℕ)) (signals : List ℕ) (ts : List NumberedStatement) → map (λ (latch : Latch). latch.name) (latches_of names signals ts) ≡ map (name_at names) (all_of latch_names ts)
latches_named names signals [] = refl
latches_named names signals (t ∷ ts) = by t.statement (latches_named names signals ts)
  where
    by : (u : Statement) → map (λ (latch : Latch). latch.name) (latches_of names signals ts) ≡ map (name_at names) (all_of latch_names ts)
        → map (λ (latch : Latch). latch.name) (cons_option (latch_of names signals u) (latches_of names signals ts)) ≡ map (name_at names) (latch_names u ++ all_of latch_names ts)
    by (said.Inputs ns) e = e
    by (said.Outputs ns) e = e
    by (said.Clock ns) e = e
    by (said.Names inputs output cover) e = e
    by (said.Latch input output control init) e = ap (λ (xs : List (List ℕ)). name_at names output ∷ xs) e

nodes_named : (names : List (List ℕ)) (signals : List ℕ) (ts : List NumberedStatement) → map (λ (node : Node). node.name) (nodes_of names signals ts) ≡ map (name_at names) (all_of node_names ts)
nodes_named names signals [] = refl
nodes_named names signals (t ∷ ts) = by t.statement (nodes_named names signals ts)
  where
    by : (u : Statement) → map (λ (node : Node). node.name) (nodes_of names signals ts) ≡ map (name_at names) (all_of node_names ts)
        → map (λ (node : Node). node.name) (cons_option (node_of names signals u) (nodes_of names signals ts)) ≡ map (name_at names) (node_names u ++ all_of node_names ts)
    by (said.Inputs ns) e = e
    by (said.Outputs ns) e = e
    by (said.Clock ns) e = e
    by (said.Names inputs output cover) e = ap (λ (xs : List (List ℕ)). name_at names output ∷ xs) e
    by (said.Latch input output control init) e = e

-- the signals have these names
signals_named : (names : List (List ℕ)) (signals : List ℕ) (ss : List NumberedStatement) → names_of (map (name_at names) (data_inputs ss)) (latches_of names signals ss) (nodes_of names signals ss) ≡ map (name_at names) (signals_of ss)
signals_named names signals ss =
    ap (λ (xs : List (List ℕ)). map (name_at names) (data_inputs ss) ++ xs ++ map (λ (node : Node). node.name) (nodes_of names signals ss)) (latches_named names signals ss)
    ∙ ap (λ (xs : List (List ℕ)). map (name_at names) (data_inputs ss) ++ map (name_at names) (all_of latch_names ss) ++ xs) (nodes_named names signals ss)
    ∙ sym (
    map-append (name_at names) (data_inputs ss ++ all_of latch_names ss) (all_of node_names ss)
    ∙ ap (λ (xs : List (List ℕ)). xs ++ map (name_at names) (all_of node_names ss)) (map-append (name_at names) (data_inputs ss) (all_of latch_names ss))
    )

-- there are as many signals as inputs, latches and nodes
pub signals_counted : (names : List (List ℕ)) (ss : List NumberedStatement)
    → length (map (name_at names) (data_inputs ss)) + length (latches_of names (signals_of ss) ss) + length (nodes_of names (signals_of ss) ss) ≡ length (signals_of ss)
signals_counted names ss =
    let latches = sym (length-map (latches_of names (signals_of ss) ss) (λ (latch : Latch). latch.name)) ∙ ap (λ (xs : List (List ℕ)). length xs) (latches_named names (signals_of ss) ss) ∙ length-map (all_of latch_names ss) (name_at names) in
    let nodes = sym (length-map (nodes_of names (signals_of ss) ss) (λ (node : Node). node.name)) ∙ ap (λ (xs : List (List ℕ)). length xs) (nodes_named names (signals_of ss) ss) ∙ length-map (all_of node_names ss) (name_at names) in
    omega (arith, length-map (data_inputs ss) (name_at names), length-append (data_inputs ss ++ all_of latch_names ss) (all_of node_names ss), length-append (data_inputs ss) (all_of latch_names ss))

-- and as many inputs and latches before the nodes
pub front_counted : (names : List (List ℕ)) (ss : List NumberedStatement) → length (map (name_at names) (data_inputs ss)) + length (latches_of names (signals_of ss) ss) ≡ length (data_inputs ss ++ all_of latch_names ss)
front_counted names ss =
    let latches = sym (length-map (latches_of names (signals_of ss) ss) (λ (latch : Latch). latch.name)) ∙ ap (λ (xs : List (List ℕ)). length xs) (latches_named names (signals_of ss) ss) ∙ length-map (all_of latch_names ss) (name_at names) in
    omega (arith, length-map (data_inputs ss) (name_at names), length-append (data_inputs ss) (all_of latch_names ss))

test_low : (k n : ℕ) → k < n → nat_lt k n ≡ true
test_low k n less = grind (arith, nat_tests)

module _ (count : ℕ) (names : List (List ℕ)) (signals : List ℕ) (n : ℕ) (all : n ≡ length signals) where
  latches_fit : (ts : List NumberedStatement) → AreFine count signals ts → list_all (is_latch n) (latches_of names signals ts) ≡ true
  latches_fit [] fine = refl
  latches_fit (t ∷ ts) fine = by t.statement fine.0 (latches_fit ts fine.1)
    where
      by : (u : Statement) → IsFine count signals u → list_all (is_latch n) (latches_of names signals ts) ≡ true → list_all (is_latch n) (cons_option (latch_of names signals u) (latches_of names signals ts)) ≡ true
      by (said.Inputs ns) f e = e
      by (said.Outputs ns) f e = e
      by (said.Clock ns) f e = e
      by (said.Names inputs output cover) f e = e
      by (said.Latch input output control init) f e =
          let low = number_low signals input (and_parts (is_among signals input) true f.driven).0 in
          let less : signal_at signals input < n = omega (arith, all) in
          let start = (latch_parts (nat_lt input count) (nat_lt output count) (is_control count control) (nat_le init 3) f.within).3 in
          and_from (nat_lt (signal_at signals input) n && nat_le init 3) (list_all (is_latch n) (latches_of names signals ts))
          (and_from (nat_lt (signal_at signals input) n) (nat_le init 3) (test_low (signal_at signals input) n less) start) e

  nodes_fit : (ts : List NumberedStatement) → AreFine count signals ts → list_all (is_node n) (nodes_of names signals ts) ≡ true
  nodes_fit [] fine = refl
  nodes_fit (t ∷ ts) fine = by t.statement fine.0 (nodes_fit ts fine.1)
    where
      by : (u : Statement) → IsFine count signals u → list_all (is_node n) (nodes_of names signals ts) ≡ true → list_all (is_node n) (cons_option (node_of names signals u) (nodes_of names signals ts)) ≡ true
      by (said.Inputs ns) f e = e
      by (said.Outputs ns) f e = e
      by (said.Clock ns) f e = e
      by (said.Names inputs output cover) f e =
          let wide = (names_parts (are_below count inputs) (nat_lt output count) (cover.width == length inputs) f.within).2 in
          and_from ((cover.width == length (map (signal_at signals) inputs)) && list_all (λ s. nat_lt s n) (map (signal_at signals) inputs)) (list_all (is_node n) (nodes_of names signals ts))
          (and_from (cover.width == length (map (signal_at signals) inputs)) (list_all (λ s. nat_lt s n) (map (signal_at signals) inputs))
          (ap (λ (k : ℕ). cover.width == k) (length-map inputs (signal_at signals)) ∙ wide) (numbers_low signals inputs n all f.driven)) e
      by (said.Latch input output control init) f e = e

  outputs_driven : (ts : List NumberedStatement) → AreFine count signals ts → list_all (is_among signals) (all_of output_names ts) ≡ true
  outputs_driven [] fine = refl
  outputs_driven (t ∷ ts) fine = by t.statement fine.0 (outputs_driven ts fine.1)
    where
      both : (ns ms : List ℕ) → list_all (is_among signals) ns ≡ true → list_all (is_among signals) ms ≡ true → list_all (is_among signals) (ns ++ ms) ≡ true
      both [] ms e f = f
      both (k ∷ ns) ms e f = let parts = and_parts (is_among signals k) (list_all (is_among signals) ns) e in and_from (is_among signals k) (list_all (is_among signals) (ns ++ ms)) parts.0 (both ns ms parts.1 f)

      by : (u : Statement) → IsFine count signals u → list_all (is_among signals) (all_of output_names ts) ≡ true → list_all (is_among signals) (output_names u ++ all_of output_names ts) ≡ true
      by (said.Inputs ns) f e = e
      by (said.Outputs ns) f e = both ns (all_of output_names ts) f.driven e
      by (said.Clock ns) f e = e
      by (said.Names inputs output cover) f e = e
      by (said.Latch input output control init) f e = e

-- the clock before the signals, as numbers
abbrev clock_list : Option ℕ → List ℕ
clock_list None = []
clock_list (Some clock) = clock ∷ []

clock_named : (names : List (List ℕ)) (clock : Option ℕ) (ns : List ℕ) → with_clock (option_map (name_at names) clock) (map (name_at names) ns) ≡ map (name_at names) (clock_list clock ++ ns)
clock_named names None ns = refl
clock_named names (Some clock) ns = refl

-- the first of some numbers within the count is within it
first_low : (count : ℕ) (ns : List ℕ) (n : ℕ) → are_below count ns ≡ true → slice_get ns 0 ≡ Some n → n < count
first_low count [] n e f = cc
first_low count (m ∷ ns) n e f = let same : m ≡ n = cc in subst (λ (k : ℕ). k < count) same (below_true count m (and_parts (nat_lt m count) (are_below count ns) e).0)

pub clock_low : (s : Statements) (clock : ℕ) → clock_of s.statements ≡ Some clock → clock < length s.names
clock_low s clock e = first_low (length s.names) (all_of clock_names s.statements) clock (all_below clock_names (length s.names) s.statements (clock_below (length s.names)) (kept s).within) e

-- the clock is the output of no latch and of no `.names`
no_output : (clock : ℕ) (ts : List NumberedStatement) → list_all (λ (numbered : NumberedStatement). not (is_clock_used (Some clock) numbered.statement)) ts ≡ true
    → (is_among (all_of latch_names ts) clock ≡ false) × (is_among (all_of node_names ts) clock ≡ false)
no_output clock [] e = (refl, refl)
no_output clock (t ∷ ts) e =
    let parts = and_parts (not (is_clock_used (Some clock) t.statement)) (list_all (λ (numbered : NumberedStatement). not (is_clock_used (Some clock) numbered.statement)) ts) e in
    by t.statement (not_true_false (is_clock_used (Some clock) t.statement) parts.0) (no_output clock ts parts.1)
  where
    with_one : (n : ℕ) (ns : List ℕ) → (clock == n) ≡ false → is_among ns clock ≡ false → is_among (n ∷ ns) clock ≡ false
    with_one n ns e f = ap (λ (b : Bool). b || is_among ns clock) (equal_turned n clock ∙ e) ∙ f

    by : (u : Statement) → is_clock_used (Some clock) u ≡ false → (is_among (all_of latch_names ts) clock ≡ false) × (is_among (all_of node_names ts) clock ≡ false)
        → (is_among (latch_names u ++ all_of latch_names ts) clock ≡ false) × (is_among (node_names u ++ all_of node_names ts) clock ≡ false)
    by (said.Inputs ns) f r = r
    by (said.Outputs ns) f r = r
    by (said.Clock ns) f r = r
    by (said.Names inputs output cover) f r = (r.0, with_one output (all_of node_names ts) (either_false (clock == output) (list_any (is_clock (Some clock)) inputs) f).0 r.1)
    by (said.Latch input output control init) f r =
        (with_one output (all_of latch_names ts) (either_false (clock == output) false (either_false (clock == input) ((clock == output) || false) f).1).0 r.0, r.1)

-- the clock is no signal
clock_no_signal : (ss : List NumberedStatement) (clock : ℕ) → IsWhole ss → clock_of ss ≡ Some clock → is_among (signals_of ss) clock ≡ false
clock_no_signal ss clock whole e =
    let unused = none_passes (is_clock_used (clock_of ss)) ss (free ss whole).clock_used in
    let outputs = no_output clock ss (subst (λ (o : Option ℕ). list_all (λ (numbered : NumberedStatement). not (is_clock_used o numbered.statement)) ss ≡ true) e unused) in
    is_among_more (data_inputs ss ++ all_of latch_names ss) (all_of node_names ss) clock
    ∙ ap (λ (b : Bool). b || is_among (all_of node_names ss) clock) (is_among_more (data_inputs ss) (all_of latch_names ss) clock)
    ∙ none (is_among (data_inputs ss) clock) (is_among (all_of latch_names ss) clock) (is_among (all_of node_names ss) clock)
    (among_filter (λ m. not (is_clock (clock_of ss) m)) (all_of input_names ss) clock
    ∙ ap (λ (o : Option ℕ). is_among (all_of input_names ss) clock && not (is_clock o clock)) e
    ∙ ap (λ (b : Bool). is_among (all_of input_names ss) clock && not b) (equal_true clock clock refl)
    ∙ never (is_among (all_of input_names ss) clock))
    outputs.0 outputs.1
  where
    none : (a b c : Bool) → a ≡ false → b ≡ false → c ≡ false → ((a || b) || c) ≡ false
    none a b c e f g = cc

    never : (a : Bool) → (a && false) ≡ false
    never true = refl
    never false = refl

-- the names of signals and clock
names_fit : (s : Statements) → IsWhole s.statements → are_names (map (name_at s.names) (clock_list (clock_of s.statements) ++ signals_of s.statements)) ≡ true
names_fit s whole = by (clock_of s.statements) refl
  where
    by : (o : Option ℕ) → clock_of s.statements ≡ o → are_names (map (name_at s.names) (clock_list o ++ signals_of s.statements)) ≡ true
    by None e =
        numbers_named s.names (kept s).named (kept s).apart (kept s).few (signals_of s.statements) (signals_below (length s.names) s.statements (kept s).within) (signals_differ s.statements (free s.statements whole).twice)
    by (Some clock) e =
        numbers_named s.names (kept s).named (kept s).apart (kept s).few (clock ∷ signals_of s.statements)
        (and_from (nat_lt clock (length s.names)) (are_below (length s.names) (signals_of s.statements)) (test_low clock (length s.names) (clock_low s clock e)) (signals_below (length s.names) s.statements (kept s).within))
        (with_first clock (signals_of s.statements) (clock_no_signal s.statements clock whole e) (signals_differ s.statements (free s.statements whole).twice))

model_fits : (model : Option (List ℕ)) → is_model model ≡ true → is_name (unwrap_or model (codes "top")) ≡ true
model_fits None e = refl
model_fits (Some model) e = e

-- the netlist of whole statements keeps the rules, but for rings
pub built_valid : (s : Statements) → IsWhole s.statements
    → is_blif (unwrap_or s.model (codes "top")) (option_map (name_at s.names) (clock_of s.statements)) (map (name_at s.names) (data_inputs s.statements)) (latches_of s.names (signals_of s.statements) s.statements)
    (nodes_of s.names (signals_of s.statements) s.statements) (map (signal_at (signals_of s.statements)) (all_of output_names s.statements)) ≡ true
built_valid s whole =
    let ss = s.statements in
    let signals = signals_of ss in
    let count = length s.names in
    let n = length (map (name_at s.names) (data_inputs ss)) + length (latches_of s.names signals ss) + length (nodes_of s.names signals ss) in
    let all : n ≡ length signals = signals_counted s.names ss in
    let fine = all_fine count ss whole (kept s).within in
    let named = ap (λ (xs : List (List ℕ)). are_names (with_clock (option_map (name_at s.names) (clock_of ss)) xs)) (signals_named s.names signals ss) ∙ ap are_names (clock_named s.names (clock_of ss) signals) ∙ names_fit s whole in
    let driven = outputs_driven count s.names signals n all ss fine in
    and_from _ _
    (and_from _ _ (and_from _ _ (and_from _ _ (model_fits s.model (kept s).model) named) (latches_fit count s.names signals n all ss fine)) (nodes_fit count s.names signals n all ss fine))
    (and_from _ _ (numbers_low signals (all_of output_names ss) n all driven) (numbers_differ signals (all_of output_names ss) (given_differ ss (free ss whole).twice).1 driven))
