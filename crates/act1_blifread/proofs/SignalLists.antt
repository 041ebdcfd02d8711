-- The signals of statements: how often each stands among them, and which names are signals.
use Rattle.std.proofs.Common.{ℕ, suc, zero, ◌≡◌, ◌<◌, ◌≤◌, ◌⊎◌, ◌+◌, ◌&&◌, ◌||◌, ◌==◌, not, Bool, true, false, cond, List, [], ◌∷◌, ◌++◌, length, take, Option, Some, None, refl, sym, ap, subst, ◌∙◌, arith}
use Rattle.std.specs.Prelude.{filter, is_some, nat_lt}
use Rattle.std.specs.List.{list_any, AllByRecursion}
use Rattle.std.proofs.lemmas.Bool.{cases_eq, false≢true}
use Rattle.std.proofs.lemmas.List.Folds.{list_any-append, list_all-append}
use Rattle.act1_base.specs.Names.{are_different_numbers}
use Rattle.act1_bliftext.specs.Rules.{are_below, is_control, is_statement}
use Rattle.act1_bliftext.specs.declared.fault.BlifKind.TheVariants.{Twice}
use Rattle.act1_bliftext.specs.declared.statement.NumberedStatement.{NumberedStatement}
use Rattle.act1_bliftext.specs.declared.statement.Statement.{Statement}
use Rattle.act1_bliftext.specs.declared.statement.Statement.TheVariants.{Inputs, Outputs, Clock, Names, Latch}
use Rattle.act1_blifread.specs.Parts.{all_of, clock_of, clock_names, data_inputs, given_names, input_names, is_clock, latch_names, node_names, output_names, signals_of, used_names}
use Rattle.act1_blifread.specs.Faults.{IsFree, is_among, is_twice, is_undriven}
use Rattle.act1_blifread.specs.NetlistSteps.{are_within, ArePlaces, is_without_place}
use Rattle.act1_blifread.proofs.FirstPlaces.{first_among, position_first}
use Rattle.act1_blifread.proofs.NodeGraphs.{all_below, below_true, names_parts, node_below, one_below}
use Rattle.act1_blifread.proofs.NumberLists.{both_true, equal_true, few_below, first_apart, others_apart, true_equal, with_first}

-- how often a number stands in a list
abbrev pub times : ℕ → List ℕ → ℕ
times n [] = 0
times n (x ∷ xs) = cond (x == n) 1 0 + times n xs

pub times_more : (n : ℕ) (xs ys : List ℕ) → times n (xs ++ ys) ≡ times n xs + times n ys
times_more n [] ys = omega arith
times_more n (x ∷ xs) ys = let e = times_more n xs ys in omega arith

times_among : (n : ℕ) (xs : List ℕ) → is_among xs n ≡ true → 1 ≤ times n xs
times_among n [] e = absurd (false≢true e)
times_among n (x ∷ xs) e = by (x == n) (times_among n xs) e
  where
    by : (b : Bool) → (is_among xs n ≡ true → 1 ≤ times n xs) → (b || is_among xs n) ≡ true → 1 ≤ cond b 1 0 + times n xs
    by true h e = omega arith
    by false h e = let r = h e in omega arith

times_none : (n : ℕ) (xs : List ℕ) → is_among xs n ≡ false → times n xs ≡ 0
times_none n [] e = refl
times_none n (x ∷ xs) e = by (x == n) (times_none n xs) e
  where
    by : (b : Bool) → (is_among xs n ≡ false → times n xs ≡ 0) → (b || is_among xs n) ≡ false → cond b 1 0 + times n xs ≡ 0
    by true h e = absurd (false≢true (sym e))
    by false h e = let r = h e in omega arith

-- numbers differ exactly where each stands once at most
pub different_once : (xs : List ℕ) → are_different_numbers xs ≡ true → (n : ℕ) → times n xs ≤ 1
different_once [] e n = omega arith
different_once (x ∷ xs) e n = by (cases_eq x n) (different_once xs (others_apart x xs e) n)
  where
    step : (b : Bool) → (x == n) ≡ b → times n xs ≤ 1 → ((x == n) ≡ true → times n xs ≡ 0) → cond b 1 0 + times n xs ≤ 1
    step true is r h = let z = h is in omega arith
    step false is r h = omega arith

    by : (x ≡ n) ⊎ (x ≡ n → ⊥) → times n xs ≤ 1 → cond (x == n) 1 0 + times n xs ≤ 1
    by _ r = step (x == n) refl r (λ is. times_none n xs (subst (λ (k : ℕ). is_among xs k ≡ false) (true_equal x n is) (first_apart x xs e)))

pub once_different : (xs : List ℕ) → ((n : ℕ) → times n xs ≤ 1) → are_different_numbers xs ≡ true
once_different [] h = refl
once_different (x ∷ xs) h = with_first x xs (free (is_among xs x) refl) (once_different xs (λ n. let r = h n in omega arith))
  where
    here : (b : Bool) → b ≡ true → cond b 1 0 + times x xs ≤ 1 → times x xs ≡ 0
    here true e r = omega arith
    here false e r = absurd (false≢true e)

    free : (b : Bool) → is_among xs x ≡ b → b ≡ false
    free true e = let low = times_among x xs e in let none = here (x == x) (equal_true x x refl) (h x) in absurd (omega arith)
    free false e = refl

times_filter : (n : ℕ) (p : ℕ → Bool) (xs : List ℕ) → times n (filter p xs) ≤ times n xs
times_filter n p [] = omega arith
times_filter n p (x ∷ xs) = by (p x) (times_filter n p xs)
  where
    by : (b : Bool) → times n (filter p xs) ≤ times n xs → times n (cond b (x ∷ filter p xs) (filter p xs)) ≤ cond (x == n) 1 0 + times n xs
    by true r = omega arith
    by false r = omega arith

-- each given name is an input, the output of a latch or that of a `.names`
times_given : (n : ℕ) (ss : List NumberedStatement) → times n (all_of given_names ss) ≡ times n (all_of input_names ss) + times n (all_of latch_names ss) + times n (all_of node_names ss)
times_given n [] = omega arith
times_given n (s ∷ ss) =
    let here = each s.statement in
    let rest = times_given n ss in
    omega (arith, times_more n (given_names s.statement) (all_of given_names ss), times_more n (input_names s.statement) (all_of input_names ss), times_more n (latch_names s.statement) (all_of latch_names ss), times_more n (node_names s.statement) (all_of node_names ss))
  where
    each : (t : Statement) → times n (given_names t) ≡ times n (input_names t) + times n (latch_names t) + times n (node_names t)
    each (Inputs names) = omega arith
    each (Outputs names) = omega arith
    each (Clock names) = omega arith
    each (Names inputs output cover) = omega arith
    each (Latch input output control init) = omega arith

-- where no name comes twice, all given names differ, and those of `.outputs` too
pub given_differ : (ss : List NumberedStatement) → IsFree ss Twice → (are_different_numbers (all_of given_names ss) ≡ true) × (are_different_numbers (all_of output_names ss) ≡ true)
given_differ [] free = (refl, refl)
given_differ (s ∷ ss) free =
    both_true (are_different_numbers (all_of given_names (s ∷ ss))) (are_different_numbers (all_of output_names (s ∷ ss)))
    (apart (are_different_numbers (all_of given_names (s ∷ ss)) && are_different_numbers (all_of output_names (s ∷ ss)))
    (λ e. free (length ss) (omega arith) (subst (λ (ts : List NumberedStatement). is_twice ts ≡ true) (sym (whole (s ∷ ss) (length ss + 1) (omega arith))) e)))
  where
    whole : (ts : List NumberedStatement) (k : ℕ) → length ts ≤ k → take k ts ≡ ts
    whole [] zero e = refl
    whole [] (suc k) e = refl
    whole (t ∷ ts) zero e = absurd (omega arith)
    whole (t ∷ ts) (suc k) e = ap (λ (rest : List NumberedStatement). t ∷ rest) (whole ts k (omega arith))

    apart : (b : Bool) → ((not b) ≡ true → ⊥) → b ≡ true
    apart true h = refl
    apart false h = absurd (h refl)

-- the signals differ
pub signals_differ : (ss : List NumberedStatement) → IsFree ss Twice → are_different_numbers (signals_of ss) ≡ true
signals_differ ss free = once_different (signals_of ss) once
  where
    once : (n : ℕ) → times n (signals_of ss) ≤ 1
    once n =
        let given = different_once (all_of given_names ss) (given_differ ss free).0 n in
        let cut = times_filter n (λ m. not (is_clock (clock_of ss) m)) (all_of input_names ss) in
        omega (arith, times_given n ss, times_more n (data_inputs ss ++ all_of latch_names ss) (all_of node_names ss), times_more n (data_inputs ss) (all_of latch_names ss))

pub nodes_differ : (ss : List NumberedStatement) → IsFree ss Twice → are_different_numbers (all_of node_names ss) ≡ true
nodes_differ ss free = once_different (all_of node_names ss) (λ n. let given = different_once (all_of given_names ss) (given_differ ss free).0 n in omega (arith, times_given n ss))

-- names of each sort are within the count
input_below : (count : ℕ) (s : Statement) → is_statement count s ≡ true → are_below count (input_names s) ≡ true
input_below count (Inputs names) e = e
input_below count (Outputs names) e = refl
input_below count (Clock names) e = refl
input_below count (Names inputs output cover) e = refl
input_below count (Latch input output control init) e = refl

pub output_below : (count : ℕ) (s : Statement) → is_statement count s ≡ true → are_below count (output_names s) ≡ true
output_below count (Inputs names) e = refl
output_below count (Outputs names) e = e
output_below count (Clock names) e = refl
output_below count (Names inputs output cover) e = refl
output_below count (Latch input output control init) e = refl

-- the parts of what a latch keeps
pub latch_parts : (a b c d : Bool) → (a && b && c && d) ≡ true → (a ≡ true) × (b ≡ true) × (c ≡ true) × (d ≡ true)
latch_parts true true true true e = (refl, refl, refl, refl)
latch_parts true true true false e = absurd (false≢true e)
latch_parts true true false d e = absurd (false≢true e)
latch_parts true false c d e = absurd (false≢true e)
latch_parts false b c d e = absurd (false≢true e)

latch_below : (count : ℕ) (s : Statement) → is_statement count s ≡ true → are_below count (latch_names s) ≡ true
latch_below count (Inputs names) e = refl
latch_below count (Outputs names) e = refl
latch_below count (Clock names) e = refl
latch_below count (Names inputs output cover) e = refl
latch_below count (Latch input output control init) e = one_below count output (latch_parts (nat_lt input count) (nat_lt output count) (is_control count control) _ e).1

pub clock_below : (count : ℕ) (s : Statement) → is_statement count s ≡ true → are_below count (clock_names s) ≡ true
clock_below count (Inputs names) e = refl
clock_below count (Outputs names) e = refl
clock_below count (Clock names) e = e
clock_below count (Names inputs output cover) e = refl
clock_below count (Latch input output (Some control) init) e = one_below count control (latch_parts (nat_lt input count) (nat_lt output count) (nat_lt control count) _ e).2
clock_below count (Latch input output None init) e = refl

used_below : (count : ℕ) (s : Statement) → is_statement count s ≡ true → are_below count (used_names s) ≡ true
used_below count (Inputs names) e = refl
used_below count (Outputs names) e = e
used_below count (Clock names) e = refl
used_below count (Names inputs output cover) e = (names_parts (are_below count inputs) (nat_lt output count) _ e).0
used_below count (Latch input output control init) e = one_below count input (latch_parts (nat_lt input count) (nat_lt output count) (is_control count control) _ e).0

filter_below : (count : ℕ) (p : ℕ → Bool) (xs : List ℕ) → are_below count xs ≡ true → are_below count (filter p xs) ≡ true
filter_below count p [] e = refl
filter_below count p (x ∷ xs) e = by (p x) (both_true (nat_lt x count) (are_below count xs) e) (filter_below count p xs)
  where
    both : (a b : Bool) → a ≡ true → b ≡ true → (a && b) ≡ true
    both a b e f = cc

    by : (b : Bool) → (nat_lt x count ≡ true) × (are_below count xs ≡ true) → (are_below count xs ≡ true → are_below count (filter p xs) ≡ true) → are_below count (cond b (x ∷ filter p xs) (filter p xs)) ≡ true
    by true h r = both (nat_lt x count) (are_below count (filter p xs)) h.0 (r h.1)
    by false h r = r h.1

pub data_below : (count : ℕ) (ss : List NumberedStatement) → are_within count ss ≡ true → are_below count (data_inputs ss) ≡ true
data_below count ss within = filter_below count (λ n. not (is_clock (clock_of ss) n)) (all_of input_names ss) (all_below input_names count ss (input_below count) within)

pub signals_below : (count : ℕ) (ss : List NumberedStatement) → are_within count ss ≡ true → are_below count (signals_of ss) ≡ true
signals_below count ss within =
    list_all-append (λ n. nat_lt n count) (data_inputs ss ++ all_of latch_names ss) (all_of node_names ss)
    ∙ both _ _ (list_all-append (λ n. nat_lt n count) (data_inputs ss) (all_of latch_names ss) ∙ both _ _ (data_below count ss within) (all_below latch_names count ss (latch_below count) within)) (all_below node_names count ss (node_below count) within)
  where
    both : (a b : Bool) → a ≡ true → b ≡ true → (a && b) ≡ true
    both a b e f = cc

-- the signals are few
pub signals_few : (count : ℕ) (ss : List NumberedStatement) → count ≤ 65535 → are_within count ss ≡ true → IsFree ss Twice → length (signals_of ss) ≤ 65535
signals_few count ss few within free = let low = few_below count (signals_of ss) (signals_differ ss free) (signals_below count ss within) in omega arith

pub nodes_few : (count : ℕ) (ss : List NumberedStatement) → count ≤ 65535 → are_within count ss ≡ true → IsFree ss Twice → length (all_of node_names ss) ≤ 65535
nodes_few count ss few within free = let low = few_below count (all_of node_names ss) (nodes_differ ss free) (all_below node_names count ss (node_below count) within) in omega arith

pub among_filter : (p : ℕ → Bool) (xs : List ℕ) (n : ℕ) → is_among (filter p xs) n ≡ (is_among xs n && p n)
among_filter p [] n = refl
among_filter p (x ∷ xs) n = by (p x) refl (x == n) refl (among_filter p xs n)
  where
    when_true : (c : Bool) → (x == n) ≡ c → p x ≡ true → (c || (is_among xs n && p n)) ≡ ((c || is_among xs n) && p n)
    when_true true is e = sym e ∙ ap p (true_equal x n is)
    when_true false is e = refl

    when_false : (c : Bool) → (x == n) ≡ c → p x ≡ false → (is_among xs n && p n) ≡ ((c || is_among xs n) && p n)
    when_false true is e = let f : p n ≡ false = sym (ap p (true_equal x n is)) ∙ e in ap (λ (b : Bool). is_among xs n && b) f ∙ none (is_among xs n) ∙ sym f
      where
        none : (a : Bool) → (a && false) ≡ false
        none true = refl
        none false = refl
    when_false false is e = refl

    by : (b : Bool) → p x ≡ b → (c : Bool) → (x == n) ≡ c → is_among (filter p xs) n ≡ (is_among xs n && p n) → is_among (cond b (x ∷ filter p xs) (filter p xs)) n ≡ (((x == n) || is_among xs n) && p n)
    by true e c is h = ap (λ (a : Bool). (x == n) || a) h ∙ when_true (x == n) refl e
    by false e c is h = h ∙ when_false (x == n) refl e

among_given : (n : ℕ) (ss : List NumberedStatement) → is_among (all_of given_names ss) n ≡ (is_among (all_of input_names ss) n || is_among (all_of latch_names ss) n || is_among (all_of node_names ss) n)
among_given n [] = refl
among_given n (s ∷ ss) =
    list_any-append (λ m. m == n) (given_names s.statement) (all_of given_names ss)
    ∙ each s.statement (is_among (all_of given_names ss) n) (is_among (all_of input_names ss) n) (is_among (all_of latch_names ss) n) (is_among (all_of node_names ss) n) (among_given n ss)
    ∙ sym (
    ap (λ (b : Bool). b || is_among (latch_names s.statement ++ all_of latch_names ss) n || is_among (node_names s.statement ++ all_of node_names ss) n) (list_any-append (λ m. m == n) (input_names s.statement) (all_of input_names ss))
    ∙ ap (λ (b : Bool). (is_among (input_names s.statement) n || is_among (all_of input_names ss) n) || b || is_among (node_names s.statement ++ all_of node_names ss) n) (list_any-append (λ m. m == n) (latch_names s.statement) (all_of latch_names ss))
    ∙ ap (λ (b : Bool). (is_among (input_names s.statement) n || is_among (all_of input_names ss) n) || (is_among (latch_names s.statement) n || is_among (all_of latch_names ss) n) || b) (list_any-append (λ m. m == n) (node_names s.statement) (all_of node_names ss))
    )
  where
    front : (x g a b c : Bool) → g ≡ (a || b || c) → (x || g) ≡ ((x || a) || b || c)
    front true g a b c e = refl
    front false g a b c e = e

    middle : (x g a b c : Bool) → g ≡ (a || b || c) → ((x || false) || g) ≡ (a || ((x || false) || b) || c)
    middle true g true b c e = refl
    middle true g false b c e = refl
    middle false g a b c e = e

    last : (x g a b c : Bool) → g ≡ (a || b || c) → ((x || false) || g) ≡ (a || b || ((x || false) || c))
    last true g true true c e = refl
    last true g true false c e = refl
    last true g false true c e = refl
    last true g false false c e = refl
    last false g a b c e = e

    each : (t : Statement) (g a b c : Bool) → g ≡ (a || b || c) → (is_among (given_names t) n || g) ≡ ((is_among (input_names t) n || a) || (is_among (latch_names t) n || b) || (is_among (node_names t) n || c))
    each (Inputs names) g a b c e = front (is_among names n) g a b c e
    each (Outputs names) g a b c e = e
    each (Clock names) g a b c e = e
    each (Names inputs output cover) g a b c e = last (output == n) g a b c e
    each (Latch input output control init) g a b c e = middle (output == n) g a b c e

-- a name is given or the clock's exactly where it is a signal or the clock's
pub signal_or_clock : (n : ℕ) (ss : List NumberedStatement) → (is_among (signals_of ss) n || is_clock (clock_of ss) n) ≡ (is_among (all_of given_names ss) n || is_clock (clock_of ss) n)
signal_or_clock n ss =
    ap (λ (b : Bool). b || is_clock (clock_of ss) n) (
    list_any-append (λ m. m == n) (data_inputs ss ++ all_of latch_names ss) (all_of node_names ss)
    ∙ ap (λ (b : Bool). b || is_among (all_of node_names ss) n) (list_any-append (λ m. m == n) (data_inputs ss) (all_of latch_names ss))
    ∙ ap (λ (b : Bool). b || is_among (all_of latch_names ss) n || is_among (all_of node_names ss) n) (among_filter (λ m. not (is_clock (clock_of ss) m)) (all_of input_names ss) n)
    )
    ∙ cases (is_among (all_of input_names ss) n) (is_among (all_of latch_names ss) n) (is_among (all_of node_names ss) n) (is_clock (clock_of ss) n)
    ∙ ap (λ (b : Bool). b || is_clock (clock_of ss) n) (sym (among_given n ss))
  where
    cases : (i l m c : Bool) → ((i && not c) || l || m || c) ≡ (i || l || m || c)
    cases false l m c = refl
    cases true l m false = refl
    cases true true m true = refl
    cases true false true true = refl
    cases true false false true = refl

-- a name has no place among the signals and isn't the clock's exactly where nothing drives it
without_place : (count : ℕ) (ss : List NumberedStatement) (places : List (Option ℕ)) (n : ℕ) → ArePlaces count (signals_of ss) places → n < count
    → is_without_place (clock_of ss) places n ≡ not (is_among (all_of given_names ss) n || is_clock (clock_of ss) n)
without_place count ss places n known low =
    ap (λ (o : Option ℕ). not (is_some o) && not (is_clock (clock_of ss) n)) (known.each n low ∙ position_first n (signals_of ss))
    ∙ ap (λ (b : Bool). not b && not (is_clock (clock_of ss) n)) (first_among n (signals_of ss))
    ∙ both (is_among (signals_of ss) n) (is_clock (clock_of ss) n)
    ∙ ap (λ (b : Bool). not b) (signal_or_clock n ss)
  where
    both : (a b : Bool) → (not a && not b) ≡ not (a || b)
    both true b = refl
    both false b = refl

pub undriven_same : (count : ℕ) (ss : List NumberedStatement) (places : List (Option ℕ)) → ArePlaces count (signals_of ss) places → (ts : List NumberedStatement) → are_within count ts ≡ true
    → AllByRecursion (λ (numbered : NumberedStatement). list_any (is_without_place (clock_of ss) places) (used_names numbered.statement) ≡ is_undriven ss numbered.statement) ts
undriven_same count ss places known [] within = tt
undriven_same count ss places known (t ∷ ts) within =
    let parts = both_true (is_statement count t.statement) (are_within count ts) within in
    (names (used_names t.statement) (used_below count t.statement parts.0), undriven_same count ss places known ts parts.1)
  where
    names : (ns : List ℕ) → are_below count ns ≡ true → list_any (is_without_place (clock_of ss) places) ns ≡ list_any (λ n. not (is_among (all_of given_names ss) n || is_clock (clock_of ss) n)) ns
    names [] e = refl
    names (n ∷ ns) e =
        let parts = both_true (nat_lt n count) (are_below count ns) e in
        ap (λ (b : Bool). b || list_any (is_without_place (clock_of ss) places) ns) (without_place count ss places n known (below_true count n parts.0))
        ∙ ap (λ (b : Bool). not (is_among (all_of given_names ss) n || is_clock (clock_of ss) n) || b) (names ns parts.1)
