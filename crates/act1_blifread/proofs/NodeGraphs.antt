-- The graph of the `.names` of some statements, and its first ring.
use Rattle.std.proofs.Common.{ℕ, suc, zero, ◌≡◌, ◌<◌, ◌≤◌, ◌&&◌, ◌==◌, Bool, true, false, List, [], ◌∷◌, ◌++◌, length, take, get_or, Option, Some, None, refl, sym, ap, subst, ◌∙◌, arith}
use Rattle.std.specs.Prelude.{slice_get, Contains, option_map, nat_lt}
use Rattle.std.specs.List.{cons_option, filter_map, position}
use Rattle.std.proofs.lemmas.Bool.{false≢true}
use Rattle.std.proofs.lemmas.Bool.Decides.{nat_tests}
use Rattle.std.proofs.lemmas.List.{length-append}
use Rattle.std.proofs.lemmas.List.Folds.{list_all-append}
use Rattle.act1_bliftext.specs.Rules.{are_below, is_statement}
use Rattle.act1_bliftext.specs.declared.fault.BlifKind.TheVariants.{Loop}
use Rattle.act1_bliftext.specs.declared.statement.NumberedStatement.{NumberedStatement}
use Rattle.act1_bliftext.specs.declared.statement.Statement.{Statement}
use Rattle.act1_bliftext.specs.declared.statement.Statement.TheVariants.{Inputs, Outputs, Clock, Names, Latch}
use Rattle.act1_order.specs.Order.{AreReads, IsFirstOnRing, LeadsTo, OnRing, Reads}
use Rattle.act1_blifread.specs.Parts.{all_of, node_names}
use Rattle.act1_blifread.specs.Faults.{IsFree, Passes, is_node, node_graph, node_reads}
use Rattle.act1_blifread.specs.NetlistSteps.{are_within, ArePlaces, IsFirstLine, IsNodeLine, place_at, reads_in}
use Rattle.act1_blifread.proofs.FirstPlaces.{first_there, position_first}
use Rattle.act1_blifread.proofs.NumberLists.{both_true}

-- the names of one sort are within the count, where those of each statement are
pub all_below : (names : Statement → List ℕ) (count : ℕ) (ss : List NumberedStatement) → ((s : Statement) → is_statement count s ≡ true → are_below count (names s) ≡ true) → are_within count ss ≡ true → are_below count (all_of names ss) ≡ true
all_below names count [] each within = refl
all_below names count (s ∷ ss) each within =
    let parts = both_true (is_statement count s.statement) (are_within count ss) within in
    list_all-append (λ n. nat_lt n count) (names s.statement) (all_of names ss) ∙ both (each s.statement parts.0) (all_below names count ss each parts.1)
  where
    both : {a b : Bool} → a ≡ true → b ≡ true → (a && b) ≡ true
    both {a} {b} e f = cc

-- the parts of what a `.names` keeps
pub names_parts : (a b c : Bool) → (a && b && c) ≡ true → (a ≡ true) × (b ≡ true) × (c ≡ true)
names_parts true true true e = (refl, refl, refl)
names_parts true true false e = absurd (false≢true e)
names_parts true false c e = absurd (false≢true e)
names_parts false b c e = absurd (false≢true e)

pub one_below : (count n : ℕ) → nat_lt n count ≡ true → are_below count (n ∷ []) ≡ true
one_below count n e = ap (λ (b : Bool). b && true) e

pub below_true : (count n : ℕ) → nat_lt n count ≡ true → n < count
below_true count n e = grind (arith, nat_tests)

pub node_below : (count : ℕ) (s : Statement) → is_statement count s ≡ true → are_below count (node_names s) ≡ true
node_below count (Inputs names) e = refl
node_below count (Outputs names) e = refl
node_below count (Clock names) e = refl
node_below count (Names inputs output cover) e = one_below count output (names_parts (are_below count inputs) (nat_lt output count) _ e).1
node_below count (Latch input output control init) e = refl

-- the reads by the places of outputs are those by the outputs
places_are : (count : ℕ) (outputs : List ℕ) (places : List (Option ℕ)) (ns : List ℕ) → ArePlaces count outputs places → are_below count ns ≡ true → filter_map (place_at places) ns ≡ filter_map (λ n. position (λ m. m == n) outputs) ns
places_are count outputs places [] known e = refl
places_are count outputs places (n ∷ ns) known e =
    let parts = both_true (nat_lt n count) (are_below count ns) e in
    ap (λ (o : Option ℕ). cons_option o (filter_map (place_at places) ns)) (known.each n (below_true count n parts.0))
    ∙ ap (cons_option (position (λ m. m == n) outputs)) (places_are count outputs places ns known parts.1)

reads_are : (count : ℕ) (outputs : List ℕ) (places : List (Option ℕ)) (s : Statement) → ArePlaces count outputs places → is_statement count s ≡ true → reads_in places s ≡ node_reads outputs s
reads_are count outputs places (Inputs names) known e = refl
reads_are count outputs places (Outputs names) known e = refl
reads_are count outputs places (Clock names) known e = refl
reads_are count outputs places (Names inputs output cover) known e = ap (λ (ns : List ℕ). Some ns) (places_are count outputs places inputs known (names_parts (are_below count inputs) (nat_lt output count) _ e).0)
reads_are count outputs places (Latch input output control init) known e = refl

-- the graph of statements over these outputs
abbrev graph_over : List ℕ → List NumberedStatement → List (List ℕ)
graph_over outputs ss = filter_map (λ (numbered : NumberedStatement). node_reads outputs numbered.statement) ss

pub graph_is : (count : ℕ) (outputs : List ℕ) (places : List (Option ℕ)) (ss : List NumberedStatement) → ArePlaces count outputs places → are_within count ss ≡ true
    → filter_map (λ (numbered : NumberedStatement). reads_in places numbered.statement) ss ≡ filter_map (λ (numbered : NumberedStatement). node_reads outputs numbered.statement) ss
graph_is count outputs places [] known e = refl
graph_is count outputs places (s ∷ ss) known e =
    let parts = both_true (is_statement count s.statement) (are_within count ss) e in
    ap (λ (o : Option (List ℕ)). cons_option o (filter_map (λ (numbered : NumberedStatement). reads_in places numbered.statement) ss)) (reads_are count outputs places s.statement known parts.0)
    ∙ ap (cons_option (node_reads outputs s.statement)) (graph_is count outputs places ss known parts.1)

-- the graph has a vertex for each `.names`
graph_length : (outputs : List ℕ) (ss : List NumberedStatement) → length (graph_over outputs ss) ≡ length (all_of node_names ss)
graph_length outputs [] = refl
graph_length outputs (s ∷ ss) = by s.statement (graph_length outputs ss)
  where
    by : (t : Statement) → length (graph_over outputs ss) ≡ length (all_of node_names ss) → length (cons_option (node_reads outputs t) (graph_over outputs ss)) ≡ length (node_names t ++ all_of node_names ss)
    by (Inputs names) h = h
    by (Outputs names) h = h
    by (Clock names) h = h
    by (Names inputs output cover) h = ap (λ (k : ℕ). suc k) h
    by (Latch input output control init) h = h

pub length_graph : (ss : List NumberedStatement) → length (node_graph ss) ≡ length (all_of node_names ss)
length_graph ss = graph_length (all_of node_names ss) ss

pub get_within : (xs : List ℕ) (i x : ℕ) → slice_get xs i ≡ Some x → i < length xs
get_within [] i x e = cc
get_within (y ∷ xs) zero x e = omega arith
get_within (y ∷ xs) (suc i) x e = let low = get_within xs i x e in omega arith

-- the places among the outputs are below their number
places_low : (outputs ns : List ℕ) (k : ℕ) → k < length (filter_map (λ n. position (λ m. m == n) outputs) ns) → (d : ℕ) → get_or (filter_map (λ n. position (λ m. m == n) outputs) ns) k d < length outputs
places_low outputs [] k low d = absurd (omega arith)
places_low outputs (n ∷ ns) k low d = by (position (λ m. m == n) outputs) refl (λ j. places_low outputs ns j) k low d
  where
    by : (o : Option ℕ) → position (λ m. m == n) outputs ≡ o → ((j : ℕ) → j < length (filter_map (λ m. position (λ l. l == m) outputs) ns) → (d : ℕ) → get_or (filter_map (λ m. position (λ l. l == m) outputs) ns) j d < length outputs)
        → (k : ℕ) → k < length (cons_option o (filter_map (λ m. position (λ l. l == m) outputs) ns)) → (d : ℕ) → get_or (cons_option o (filter_map (λ m. position (λ l. l == m) outputs) ns)) k d < length outputs
    by None e h k low d = h k low d
    by (Some p) e h zero low d = get_within outputs p n (first_there n outputs p (sym (position_first n outputs) ∙ e))
    by (Some p) e h (suc k) low d = h k (omega arith) d

reads_low : (outputs : List ℕ) (ss : List NumberedStatement) (v w : ℕ) → Contains (get_or (graph_over outputs ss) v []) w → w < length outputs
reads_low outputs [] v w (k, low, e) = absurd (omega arith)
reads_low outputs (s ∷ ss) v w h = by s.statement (λ u. reads_low outputs ss u w) v h
  where
    by : (t : Statement) → ((u : ℕ) → Contains (get_or (graph_over outputs ss) u []) w → w < length outputs) → (v : ℕ) → Contains (get_or (cons_option (node_reads outputs t) (graph_over outputs ss)) v []) w → w < length outputs
    by (Inputs names) r v h = r v h
    by (Outputs names) r v h = r v h
    by (Clock names) r v h = r v h
    by (Names inputs output cover) r zero (k, low, e) = subst (λ (x : ℕ). x < length outputs) e (places_low outputs inputs k low w)
    by (Names inputs output cover) r (suc v) h = r v h
    by (Latch input output control init) r v h = r v h

-- each read is of a `.names`
pub graph_inside : (ss : List NumberedStatement) → AreReads (node_graph ss)
graph_inside ss = λ v w h. let low = reads_low (all_of node_names ss) ss v w h in omega (arith, length_graph ss)

-- how many `.names` stand before a place
abbrev before : List NumberedStatement → ℕ → ℕ
before ss k = length (all_of node_names (take k ss))

-- a `.names` has one more behind it than before it
node_is_one : (t : Statement) → is_node t ≡ true → length (node_names t) ≡ 1
node_is_one (Inputs names) e = absurd (false≢true e)
node_is_one (Outputs names) e = absurd (false≢true e)
node_is_one (Clock names) e = absurd (false≢true e)
node_is_one (Names inputs output cover) e = refl
node_is_one (Latch input output control init) e = absurd (false≢true e)

before_less : (ss : List NumberedStatement) (j k : ℕ) → j < k → Passes is_node ss j → k ≤ length ss → before ss j < before ss k
before_less [] j k less is within = absurd (omega arith)
before_less (s ∷ ss) j zero less is within = absurd (omega arith)
before_less (s ∷ ss) zero (suc k) less is within =
    let one = node_is_one s.statement is in omega (arith, length-append (node_names s.statement) (all_of node_names (take k ss)))
before_less (s ∷ ss) (suc j) (suc k) less is within =
    let more = before_less ss j k (omega arith) is (omega arith) in
    omega (arith, length-append (node_names s.statement) (all_of node_names (take j ss)), length-append (node_names s.statement) (all_of node_names (take k ss)))

pub place_within : (ss : List NumberedStatement) (k line : ℕ) → option_map (λ (numbered : NumberedStatement). numbered.line) (slice_get ss k) ≡ Some line → k < length ss
place_within [] k line e = cc
place_within (s ∷ ss) zero line e = omega arith
place_within (s ∷ ss) (suc k) line e = let low = place_within ss k line e in omega arith

-- the `.names` of the first vertex on a ring is the first on a ring
pub ring_is_first : (ss : List NumberedStatement) (v : ℕ) (line : Option ℕ) → IsFirstOnRing (node_graph ss) v → IsNodeLine ss v line → IsFirstLine ss Loop line
ring_is_first ss v None ring at = let low = ring.inside in absurd (omega (arith, length_graph ss))
ring_is_first ss v (Some line) ring at = record {
  place = at.place;
  there = at.there;
  has = (at.is, subst (λ (u : ℕ). OnRing (node_graph ss) u) (sym at.before) ring.ring);
  first = λ j less has. ring.first (before ss j) (low j less has.0) has.1;
}
  where
    low : (j : ℕ) → j < at.place → Passes is_node ss j → before ss j < v
    low j less is = let within = place_within ss at.place line at.there in let more = before_less ss j at.place less is (omega arith) in omega (arith, at.before)

-- a vertex that reads another is one of the graph
pub reads_within : (reads : List (List ℕ)) (v w : ℕ) → Reads reads v w → v < length reads
reads_within [] v w (k, low, e) = absurd (omega arith)
reads_within (r ∷ reads) zero w h = omega arith
reads_within (r ∷ reads) (suc v) w h = let low = reads_within reads v w h in omega arith

-- and so is one on a ring
pub ring_within : (reads : List (List ℕ)) (v : ℕ) → OnRing reads v → v < length reads
ring_within reads v ring = by ring.path ring.leads
  where
    by : (path : List ℕ) → LeadsTo reads v path v → v < length reads
    by [] h = reads_within reads v v h
    by (u ∷ path) h = reads_within reads v u h.0

-- no `.names` is on a ring where no vertex is
pub no_loop : (ss : List NumberedStatement) → ((v : ℕ) → ¬ OnRing (node_graph ss) v) → IsFree ss Loop
no_loop ss none = λ k low has. none (before ss k) has.1
