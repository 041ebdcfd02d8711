-- In the netlist of whole statements no node depends on itself.
use Rattle.std.proofs.Common.{ℕ, suc, zero, ◌≡◌, ◌<◌, ◌+◌, ◌==◌, true, List, [], ◌∷◌, ◌++◌, length, map, take, Option, Some, None, refl, sym, ap, subst, ◌∙◌, arith}
use Rattle.std.specs.Prelude.{option_map, slice_get, slice_index_or, Contains}
use Rattle.std.specs.List.{cons_option, filter_map, list_all, position, range_with_len}
use Rattle.std.proofs.lemmas.Bool.{and_parts}
use Rattle.std.proofs.lemmas.List.FromFn.{get_or-map-range_with_len}
use Rattle.std.proofs.lemmas.Option.{get_or_from_slice_get}
use Rattle.act1_blif.specs.declared.blif.Node.{Node}
use Rattle.act1_blif.specs.Rules.{HasLevels}
use Rattle.act1_bliftext.specs.declared.fault.BlifKind.TheVariants.{Loop}
use Rattle.act1_bliftext.specs.declared.statement.NumberedStatement.{NumberedStatement}
use Rattle.act1_bliftext.specs.declared.statement.Statement.{Statement}
use Rattle.act1_bliftext.specs.declared.statement.Statement.TheVariants as said
use Rattle.act1_bliftext.specs.declared.statements.Statements.{Statements}
use Rattle.act1_order.specs.Laws.{AreLevels, LevelsWithoutRing}
use Rattle.act1_order.specs.Order.{OnRing, Reads}
use Rattle.act1_blifread.specs.Parts.{all_of, data_inputs, latch_names, node_names, signals_of}
use Rattle.act1_blifread.specs.Faults.{IsFree, IsWhole, Passes, is_among, is_node, node_graph, node_reads}
use Rattle.act1_blifread.specs.Netlist.{latches_of, name_at, node_of, nodes_of, signal_at}
use Rattle.act1_blifread.proofs.BuiltNetlists.{front_counted}
use Rattle.act1_blifread.proofs.FirstPlaces.{first, first_behind, first_front, first_there, position_first}
use Rattle.act1_blifread.proofs.NodeGraphs.{get_within, graph_inside, length_graph, reads_within, ring_within}
use Rattle.act1_blifread.proofs.SignalUse.{AreFine, IsFine, all_fine, free, has_number}
use Rattle.act1_blifread.proofs.StatementRules.{kept}

-- the statement of the `.names` of a number
node_place : (ss : List NumberedStatement) (v : ℕ) → v < length (all_of node_names ss) → (k : ℕ) × (k < length ss) × Passes is_node ss k × (length (all_of node_names (take k ss)) ≡ v)
node_place [] v low = absurd (omega arith)
node_place (s ∷ ss) v low = by s.statement refl v low (λ u. node_place ss u)
  where
    next : (t : Statement) → s.statement ≡ t → (v : ℕ) → node_names t ≡ [] → ((k : ℕ) × (k < length ss) × Passes is_node ss k × (length (all_of node_names (take k ss)) ≡ v))
        → (k : ℕ) × (k < length (s ∷ ss)) × Passes is_node (s ∷ ss) k × (length (all_of node_names (take k (s ∷ ss))) ≡ v)
    next t is v none (k, within, node, e) = (suc k, omega arith, node, ap (λ (u : Statement). length (node_names u ++ all_of node_names (take k ss))) is ∙ ap (λ (ns : List ℕ). length (ns ++ all_of node_names (take k ss))) none ∙ e)

    by : (t : Statement) → s.statement ≡ t → (v : ℕ) → v < length (node_names t ++ all_of node_names ss)
        → ((u : ℕ) → u < length (all_of node_names ss) → (k : ℕ) × (k < length ss) × Passes is_node ss k × (length (all_of node_names (take k ss)) ≡ u))
        → (k : ℕ) × (k < length (s ∷ ss)) × Passes is_node (s ∷ ss) k × (length (all_of node_names (take k (s ∷ ss))) ≡ v)
    by (said.Inputs ns) is v low r = next (said.Inputs ns) is v refl (r v low)
    by (said.Outputs ns) is v low r = next (said.Outputs ns) is v refl (r v low)
    by (said.Clock ns) is v low r = next (said.Clock ns) is v refl (r v low)
    by (said.Names inputs output cover) is zero low r = (0, omega arith, ap is_node is, refl)
    by (said.Names inputs output cover) is (suc v) low r = more (r v (omega arith))
      where
        more : ((k : ℕ) × (k < length ss) × Passes is_node ss k × (length (all_of node_names (take k ss)) ≡ v)) → (k : ℕ) × (k < length (s ∷ ss)) × Passes is_node (s ∷ ss) k × (length (all_of node_names (take k (s ∷ ss))) ≡ suc v)
        more (k, within, node, e) = (suc k, omega arith, node, ap (λ (u : Statement). length (node_names u ++ all_of node_names (take k ss))) is ∙ ap (λ (n : ℕ). suc n) e)
    by (said.Latch input output control init) is v low r = next (said.Latch input output control init) is v refl (r v low)

-- no vertex is on a ring where no statement has the fault
pub no_rings : (ss : List NumberedStatement) → IsFree ss Loop → (v : ℕ) → ¬ OnRing (node_graph ss) v
no_rings ss none v ring =
    let low = ring_within (node_graph ss) v ring in
    let at = node_place ss v (omega (arith, length_graph ss)) in
    none at.0 at.1 (at.2, subst (λ (u : ℕ). OnRing (node_graph ss) u) (sym at.3) ring)

-- what the node of a number comes from
abbrev FromInputs : List ℕ → List ℕ → List NumberedStatement → ℕ → Node → Type 0
FromInputs outputs signals ts k node =
    (inputs : List ℕ) × (node.inputs ≡ map (signal_at signals) inputs) × (list_all (is_among signals) inputs ≡ true)
    × (slice_get (filter_map (λ (numbered : NumberedStatement). node_reads outputs numbered.statement) ts) k ≡ Some (filter_map (λ n. position (λ m. m == n) outputs) inputs))

from_inputs : (count : ℕ) (names : List (List ℕ)) (outputs signals : List ℕ) (ts : List NumberedStatement) → AreFine count signals ts → (k : ℕ) (node : Node) → slice_get (nodes_of names signals ts) k ≡ Some node → FromInputs outputs signals ts k node
from_inputs count names outputs signals [] fine k node e = cc
from_inputs count names outputs signals (t ∷ ts) fine k node e = by t.statement fine.0 k e (λ j. from_inputs count names outputs signals ts fine.1 j node)
  where
    by : (u : Statement) → IsFine count signals u → (k : ℕ) → slice_get (cons_option (node_of names signals u) (nodes_of names signals ts)) k ≡ Some node
        → ((j : ℕ) → slice_get (nodes_of names signals ts) j ≡ Some node → FromInputs outputs signals ts j node)
        → (inputs : List ℕ) × (node.inputs ≡ map (signal_at signals) inputs) × (list_all (is_among signals) inputs ≡ true)
        × (slice_get (cons_option (node_reads outputs u) (filter_map (λ (numbered : NumberedStatement). node_reads outputs numbered.statement) ts)) k ≡ Some (filter_map (λ n. position (λ m. m == n) outputs) inputs))
    by (said.Inputs ns) f k e r = r k e
    by (said.Outputs ns) f k e r = r k e
    by (said.Clock ns) f k e r = r k e
    by (said.Names inputs output cover) f zero e r = (inputs, sym (ap (λ (n : Node). n.inputs) (some _ node e)), f.driven, refl)
      where
        some : (x y : Node) → Some x ≡ Some y → x ≡ y
        some x y e = cc
    by (said.Names inputs output cover) f (suc k) e r = r k e
    by (said.Latch input output control init) f k e r = r k e

-- a number of a mapped list is that of an element
from_mapped : (signals inputs : List ℕ) (x : ℕ) → list_all (is_among signals) inputs ≡ true → Contains (map (signal_at signals) inputs) x → (n : ℕ) × Contains inputs n × (is_among signals n ≡ true) × (signal_at signals n ≡ x)
from_mapped signals [] x h (k, low, e) = absurd (omega arith)
from_mapped signals (n ∷ inputs) x h (zero, low, e) = (n, (0, omega arith, refl), (and_parts (is_among signals n) (list_all (is_among signals) inputs) h).0, e)
from_mapped signals (n ∷ inputs) x h (suc k, low, e) = later (from_mapped signals inputs x (and_parts (is_among signals n) (list_all (is_among signals) inputs) h).1 (k, omega arith, e))
  where
    later : ((m : ℕ) × Contains inputs m × (is_among signals m ≡ true) × (signal_at signals m ≡ x)) → (m : ℕ) × Contains (n ∷ inputs) m × (is_among signals m ≡ true) × (signal_at signals m ≡ x)
    later (m, (j, small, f), a, b) = (m, (suc j, omega arith, f), a, b)

-- the place of an element is among the places
to_filtered : (outputs inputs : List ℕ) (n j : ℕ) → Contains inputs n → first n outputs ≡ Some j → Contains (filter_map (λ m. position (λ l. l == m) outputs) inputs) j
to_filtered outputs [] n j (k, low, e) f = absurd (omega arith)
to_filtered outputs (m ∷ inputs) n j (zero, low, e) f = by (position (λ l. l == m) outputs) (ap (λ (x : ℕ). position (λ l. l == x) outputs) e ∙ position_first n outputs ∙ f)
  where
    by : (o : Option ℕ) → o ≡ Some j → Contains (cons_option o (filter_map (λ x. position (λ l. l == x) outputs) inputs)) j
    by None g = cc
    by (Some i) g = let same : i ≡ j = cc in (0, omega arith, same)
to_filtered outputs (m ∷ inputs) n j (suc k, low, e) f = by (position (λ l. l == m) outputs) (to_filtered outputs inputs n j (k, omega arith, e) f)
  where
    by : (o : Option ℕ) → Contains (filter_map (λ x. position (λ l. l == x) outputs) inputs) j → Contains (cons_option o (filter_map (λ x. position (λ l. l == x) outputs) inputs)) j
    by None c = c
    by (Some i) (l, small, g) = (suc l, omega arith, g)

-- a signal behind the inputs and latches is the node of that number
node_number : (front outputs : List ℕ) (n j : ℕ) → first n (front ++ outputs) ≡ Some (length front + j) → first n outputs ≡ Some j
node_number front outputs n j e = by (first n front) refl
  where
    short : (o : Option ℕ) → o ≡ Some (length front + j) → ((p : ℕ) → o ≡ Some p → p < length front) → ⊥
    short o e low = let less = low (length front + j) e in omega arith

    within : (p : ℕ) → first n front ≡ Some p → p < length front
    within p e = get_within front p n (first_there n front p e)

    cut : (o : Option ℕ) → option_map (λ k. length front + k) o ≡ Some (length front + j) → o ≡ Some j
    cut None e = cc
    cut (Some k) e = let same : length front + k ≡ length front + j = cc in let is : k ≡ j = omega arith in ap (λ (i : ℕ). Some i) is

    by : (o : Option ℕ) → first n front ≡ o → first n outputs ≡ Some j
    by None f = cut (first n outputs) (sym (first_behind n front outputs f) ∙ e)
    by (Some p) f = let g : Some p ≡ Some (length front + j) = sym (first_front n front outputs p f) ∙ e in let same : p ≡ length front + j = cc in let low = within p f in absurd (omega arith)

-- no node of the netlist depends on itself
pub built_levels : LevelsWithoutRing → (s : Statements) → IsWhole s.statements → HasLevels (map (name_at s.names) (data_inputs s.statements)) (latches_of s.names (signals_of s.statements) s.statements) (nodes_of s.names (signals_of s.statements) s.statements)
built_levels leveled s whole = record { levels = levels; above = above }
  where
    graph_levels : (level : ℕ → ℕ) × AreLevels (node_graph s.statements) level
    graph_levels = leveled (node_graph s.statements) (graph_inside s.statements) (no_rings s.statements (free s.statements whole).ring)

    levels : List ℕ
    levels = map graph_levels.0 (range_with_len 0 (length (node_graph s.statements)))

    level_at : (k : ℕ) → k < length (node_graph s.statements) → slice_index_or levels k 0 ≡ graph_levels.0 k
    level_at k low = let e : 0 + k ≡ k = omega arith in get_or-map-range_with_len graph_levels.0 0 (length (node_graph s.statements)) k k 0 low e

    reads : (k j : ℕ) (node : Node) → FromInputs (all_of node_names s.statements) (signals_of s.statements) s.statements k node
        → Contains node.inputs (length (data_inputs s.statements ++ all_of latch_names s.statements) + j) → Reads (node_graph s.statements) k j
    reads k j node (inputs, is, driven, at) c =
        let from = from_mapped (signals_of s.statements) inputs (length (data_inputs s.statements ++ all_of latch_names s.statements) + j) driven (subst (λ (ns : List ℕ). Contains ns (length (data_inputs s.statements ++ all_of latch_names s.statements) + j)) is c) in
        let number = has_number (signals_of s.statements) from.0 from.2 in
        let place = number.at ∙ ap (λ (i : ℕ). Some i) (sym number.is ∙ from.3) in
        let found = to_filtered (all_of node_names s.statements) inputs from.0 j from.1 (node_number (data_inputs s.statements ++ all_of latch_names s.statements) (all_of node_names s.statements) from.0 j place) in
        subst (λ (ns : List ℕ). Contains ns j) (sym (get_or_from_slice_get (node_graph s.statements) k (filter_map (λ n. position (λ m. m == n) (all_of node_names s.statements)) inputs) [] at)) found

    above : (k j : ℕ) (node : Node) → slice_get (nodes_of s.names (signals_of s.statements) s.statements) k ≡ Some node
        → Contains node.inputs (length (map (name_at s.names) (data_inputs s.statements)) + length (latches_of s.names (signals_of s.statements) s.statements) + j)
        → slice_index_or levels j 0 < slice_index_or levels k 0
    above k j node at c =
        let from = from_inputs (length s.names) s.names (all_of node_names s.statements) (signals_of s.statements) s.statements (all_fine (length s.names) s.statements whole (kept s).within) k node at in
        let h = reads k j node from (subst (λ (n : ℕ). Contains node.inputs (n + j)) (front_counted s.names s.statements) c) in
        let less = graph_levels.1 k j h in
        let one = level_at j (graph_inside s.statements k j h) in
        let two = level_at k (reads_within (node_graph s.statements) k j h) in
        omega (arith, one, two, less)
