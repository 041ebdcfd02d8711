-- The nodes of a netlist's canonical text lie on no ring.
use Rattle.std.proofs.Common.{ℕ, zero, suc, ◌≡◌, ◌+◌, ◌<◌, Bool, true, false, ◌||◌, ◌==◌, List, [], ◌∷◌, ◌++◌, length, get_or, map, Option, Some, None, refl, sym, ap, subst, ◌∙◌, arith, length-append}
use Rattle.std.specs.Prelude.{Contains, nat_lt, slice_get, slice_index_or}
use Rattle.std.specs.List.{cons_option, filter_map, list_all, position}
use Rattle.std.proofs.Math.Logic.{∥∥₁_elim}
use Rattle.std.proofs.lemmas.Bool.{and_parts, false≢true}
use Rattle.std.proofs.lemmas.Bool.Decides.{nat_tests}
use Rattle.std.proofs.lemmas.List.{length-map}
use Rattle.std.proofs.lemmas.List.Elements.{filter_map-append}
use Rattle.act1_blif.specs.declared.blif.Blif.{Blif}
use Rattle.act1_blif.specs.declared.blif.Latch.{Latch}
use Rattle.act1_blif.specs.declared.blif.Node.{Node}
use Rattle.act1_blif.specs.Names.{signal_name, signal_names}
use Rattle.act1_blif.specs.Rules.{HasLevels, is_node}
use Rattle.act1_blif.specs.Text.{node_lines}
use Rattle.act1_bliftext.specs.declared.fault.BlifKind.TheVariants.{Loop}
use Rattle.act1_bliftext.specs.declared.statement.NumberedStatement.{NumberedStatement}
use Rattle.act1_order.specs.Order.{LeadsTo, OnRing, Reads}
use Rattle.act1_blifread.specs.Faults.{IsFree, is_among, node_graph, node_reads}
use Rattle.act1_blifread.specs.Netlist.{signal_at}
use Rattle.act1_blifread.proofs.FirstPlaces.{first, first_there, position_first}
use Rattle.act1_blifread.proofs.NodeGraphs.{no_loop}
use Rattle.act1_base.proofs.Elements.{among_contained, contained_among}
use Rattle.act1_blifread.proofs.NumberLists.{true_equal}
use Rattle.act1_blifread.proofs.CanonicalNames.{is_in, passes_in}
use Rattle.act1_blifread.proofs.CanonicalNet.{all_names, count_of, keeps, read_in, low_signal}
use Rattle.act1_blifread.proofs.CanonicalSaid.{place_in}
use Rattle.act1_blifread.proofs.CanonicalLines.{latches_said, nodes_said}
use Rattle.act1_blifread.proofs.CanonicalReads.{head_said, head_words, latch_lines_of, clock_said, blif_said}
use Rattle.act1_blifread.proofs.CanonicalParts.{latch_outputs, node_outputs, nodes_are, signals_known, number_back}

-- the graph of some statements, where the `.names` have these outputs
abbrev graph_of : List ℕ → List NumberedStatement → List (List ℕ)
graph_of outputs ss = filter_map (λ (numbered : NumberedStatement). node_reads outputs numbered.statement) ss

-- those of some numbers that are outputs, by their places
abbrev places_of : List ℕ → List ℕ → List ℕ
places_of outputs ns = filter_map (λ n. position (λ m. m == n) outputs) ns

-- what stands in a list of what comes from nodes comes from one of them
record IsFrom (f : Node → List ℕ) (nodes : List Node) (v w : ℕ) : Type 0 where
  node : Node
  there : slice_get nodes v ≡ Some node
  has : Contains (f node) w

from_node : (f : Node → List ℕ) (nodes : List Node) (v w : ℕ) → Contains (slice_index_or (map f nodes) v []) w → IsFrom f nodes v w
from_node f [] v w (k, low, e) = absurd (omega arith)
from_node f (node ∷ nodes) zero w h = record { node = node; there = refl; has = h }
from_node f (node ∷ nodes) (suc v) w h = let r = from_node f nodes v w h in record { node = r.node; there = r.there; has = r.has }

named_at : (nodes : List Node) (w n : ℕ) (f : List ℕ → ℕ) → slice_get (map f (node_outputs nodes)) w ≡ Some n → (node : Node) × (slice_get nodes w ≡ Some node) × (f node.name ≡ n)
named_at [] w n f e = absurd (cc)
named_at (node ∷ nodes) zero n f e = (node, refl, cc)
named_at (node ∷ nodes) (suc w) n f e = named_at nodes w n f e

within : (nodes : List Node) (w : ℕ) (node : Node) → slice_get nodes w ≡ Some node → w < length nodes
within [] w node e = absurd (cc)
within (x ∷ nodes) zero node e = omega arith
within (x ∷ nodes) (suc w) node e = let low = within nodes w node e in omega arith

node_name : (nodes : List Node) (w : ℕ) (node : Node) → slice_get nodes w ≡ Some node → get_or (node_outputs nodes) w [] ≡ node.name
node_name [] w node e = absurd (cc)
node_name (x ∷ nodes) zero node e = let same : x ≡ node = cc in ap (λ (n : Node). n.name) same
node_name (x ∷ nodes) (suc w) node e = node_name nodes w node e

behind : (xs ys : List (List ℕ)) (n w : ℕ) → n ≡ length xs + w → get_or (xs ++ ys) n [] ≡ get_or ys w []
behind [] ys n w e = let same : n ≡ w = omega arith in ap (λ (k : ℕ). get_or ys k []) same
behind (x ∷ xs) ys zero w e = absurd (omega arith)
behind (x ∷ xs) ys (suc n) w e = behind xs ys n w (omega arith)

low_test : (s n : ℕ) → s < n → nat_lt s n ≡ true
low_test s n h = grind (arith, nat_tests)

all_at : (p : ℕ → Bool) (xs : List ℕ) (n : ℕ) → list_all p xs ≡ true → is_among xs n ≡ true → p n ≡ true
all_at p [] n h e = absurd (false≢true e)
all_at p (x ∷ xs) n h e =
    let parts = and_parts (p x) (list_all p xs) h in
    by (x == n) refl parts.0 (λ f. all_at p xs n parts.1 f) e
  where
    by : (b : Bool) → (x == n) ≡ b → p x ≡ true → (is_among xs n ≡ true → p n ≡ true) → (b || is_among xs n) ≡ true → p n ≡ true
    by true f k r e = ap p (sym (true_equal x n f)) ∙ k
    by false f k r e = r e

node_at : (n : ℕ) (nodes : List Node) (v : ℕ) (node : Node) → list_all (is_node n) nodes ≡ true → slice_get nodes v ≡ Some node → is_node n node ≡ true
node_at n [] v node h e = absurd (cc)
node_at n (x ∷ nodes) zero node h e = let same : x ≡ node = cc in ap (is_node n) (sym same) ∙ (and_parts (is_node n x) (list_all (is_node n) nodes) h).0
node_at n (x ∷ nodes) (suc v) node h e = node_at n nodes v node (and_parts (is_node n x) (list_all (is_node n) nodes) h).1 e

module _ (net : Blif) (names : List (List ℕ)) (has : list_all (is_in names) (all_names net) ≡ true) where
  -- the outputs of nodes, as numbers
  abbrev outputs : List ℕ
  outputs = map (place_in names) (node_outputs net.nodes)

  -- what a node reads of the nodes
  abbrev node_places : Node → List ℕ
  node_places node = places_of outputs (map (place_in names) (map (signal_name net) node.inputs))

  graph_nodes : (number : ℕ) (nodes : List Node) → graph_of outputs (nodes_said net names number nodes) ≡ map node_places nodes
  graph_nodes number [] = refl
  graph_nodes number (node ∷ nodes) = ap (λ (g : List (List ℕ)). node_places node ∷ g) (graph_nodes (number + length (node_lines net node)) nodes)

  graph_latches : (number : ℕ) (latches : List Latch) → graph_of outputs (latches_said net names number latches) ≡ []
  graph_latches number [] = refl
  graph_latches number (latch ∷ latches) = graph_latches (number + 1) latches

  graph_clock : (clock : Option (List ℕ)) → graph_of outputs (clock_said net names clock) ≡ []
  graph_clock None = refl
  graph_clock (Some clock) = refl

  graph_is : node_graph (blif_said net names) ≡ map node_places net.nodes
  graph_is =
      let heads = head_said net names in
      let latches = latches_said net names (1 + length (head_words net names)) net.latches in
      let nodes = nodes_said net names (1 + length (head_words net names ++ latch_lines_of net names)) net.nodes in
      ap (λ (os : List ℕ). graph_of os (blif_said net names)) (nodes_are net names)
      ∙ filter_map-append (λ (numbered : NumberedStatement). node_reads outputs numbered.statement) (heads ++ latches) nodes
      ∙ ap (λ (g : List (List ℕ)). g ++ graph_of outputs nodes) (filter_map-append (λ (numbered : NumberedStatement). node_reads outputs numbered.statement) heads latches)
      ∙ ap (λ (g : List (List ℕ)). (g ++ graph_of outputs latches) ++ graph_of outputs nodes) (graph_clock net.clock)
      ∙ ap (λ (g : List (List ℕ)). g ++ graph_of outputs nodes) (graph_latches (1 + length (head_words net names)) net.latches)
      ∙ graph_nodes (1 + length (head_words net names ++ latch_lines_of net names)) net.nodes

  -- a place that is read is that of an input
  abbrev IsRead : List ℕ → ℕ → Type 0
  IsRead inputs w = (input : ℕ) × (is_among inputs input ≡ true) × (first (place_in names (signal_name net input)) outputs ≡ Some w)

  read_of : (inputs : List ℕ) (w : ℕ) → is_among (places_of outputs (map (place_in names) (map (signal_name net) inputs))) w ≡ true → IsRead inputs w
  read_of [] w h = absurd (false≢true h)
  read_of (s ∷ inputs) w h = by (position (λ m. m == place_in names (signal_name net s)) outputs) refl (λ e. read_of inputs w e) h
    where
      here : (b : Bool) → b ≡ true → (c : Bool) → (b || c) ≡ true
      here true e c = refl
      here false e c = absurd (false≢true e)

      later : IsRead inputs w → IsRead (s ∷ inputs) w
      later r = (r.0, right (s == r.0) (is_among inputs r.0) r.1, r.2)
        where
          right : (a b : Bool) → b ≡ true → (a || b) ≡ true
          right true b e = refl
          right false b e = e

      same : (k : ℕ) → (k == k) ≡ true
      same k = grind (arith, nat_tests)

      by : (o : Option ℕ) → position (λ m. m == place_in names (signal_name net s)) outputs ≡ o → (is_among (places_of outputs (map (place_in names) (map (signal_name net) inputs))) w ≡ true → IsRead inputs w)
          → is_among (cons_option o (places_of outputs (map (place_in names) (map (signal_name net) inputs)))) w ≡ true → IsRead (s ∷ inputs) w
      by None e r k = later (r k)
      by (Some p) e r k = last (p == w) refl k
        where
          last : (b : Bool) → (p == w) ≡ b → (b || is_among (places_of outputs (map (place_in names) (map (signal_name net) inputs))) w) ≡ true → IsRead (s ∷ inputs) w
          last true f k = (s, here (s == s) (same s) (is_among inputs s), sym (position_first (place_in names (signal_name net s)) outputs) ∙ e ∙ ap (λ (q : ℕ). Some q) (true_equal p w f))
          last false f k = later (r k)

  -- the signal of a node
  abbrev node_signal : ℕ → ℕ
  node_signal w = length net.inputs + length net.latches + w

  signal_of_node : (w : ℕ) (node : Node) → slice_get net.nodes w ≡ Some node → signal_name net (node_signal w) ≡ node.name
  signal_of_node w node e =
      behind (net.inputs ++ latch_outputs net.latches) (node_outputs net.nodes) (node_signal w) w (omega (arith, length-append net.inputs (latch_outputs net.latches), length-map net.latches (λ (latch : Latch). latch.name))) ∙ node_name net.nodes w node e

  known_signal : (s : ℕ) → nat_lt s (count_of net) ≡ true → is_in names (signal_name net s) ≡ true
  known_signal s h = passes_in (is_in names) (signal_names net) (signal_name net s) (signals_known net names has) (read_in (signal_names net) s (low_signal net s h))

  -- an input that stands at a node's place is the node's signal
  input_is : (s w : ℕ) → nat_lt s (count_of net) ≡ true → first (place_in names (signal_name net s)) outputs ≡ Some w → s ≡ node_signal w
  input_is s w low at =
      let there = first_there (place_in names (signal_name net s)) outputs w at in
      let node = named_at net.nodes w (place_in names (signal_name net s)) (place_in names) there in
      let inside = within net.nodes w node.0 node.1 in
      let low_node = low_test (node_signal w) (count_of net) (omega arith) in
      let same : place_in names (signal_name net s) ≡ place_in names (signal_name net (node_signal w)) = sym node.2 ∙ ap (place_in names) (sym (signal_of_node w node.0 node.1)) in
      sym (number_back net names has s low) ∙ ap (signal_at (map (place_in names) (signal_names net))) same ∙ number_back net names has (node_signal w) low_node

  module _ (levels : HasLevels net.inputs net.latches net.nodes) where
    lower : (v w : ℕ) → Reads (map node_places net.nodes) v w → slice_index_or levels.levels w 0 < slice_index_or levels.levels v 0
    lower v w r =
        let from = from_node node_places net.nodes v w r in
        let read = read_of from.node.inputs w (contained_among (node_places from.node) w from.has) in
        let fine = and_parts (from.node.cover.width == length from.node.inputs) (list_all (λ s. nat_lt s (count_of net)) from.node.inputs) (node_at (count_of net) net.nodes v from.node (keeps net).nodes from.there) in
        let low = all_at (λ s. nat_lt s (count_of net)) from.node.inputs read.0 fine.1 read.1 in
        let is = input_is read.0 w low read.2 in
        levels.above v w from.node from.there (subst (λ (s : ℕ). Contains from.node.inputs s) is (among_contained from.node.inputs read.0 read.1))

    falls : (v : ℕ) (path : List ℕ) (w : ℕ) → LeadsTo (map node_places net.nodes) v path w → slice_index_or levels.levels w 0 < slice_index_or levels.levels v 0
    falls v [] w r = lower v w r
    falls v (u ∷ path) w r =
        let one = lower v u r.0 in
        let rest = falls u path w r.1 in
        omega arith

    on_ring : (v : ℕ) → OnRing (map node_places net.nodes) v → ⊥
    on_ring v ring = let low = falls v ring.path v ring.leads in absurd (omega arith)

  no_ring : (v : ℕ) → ¬ OnRing (node_graph (blif_said net names)) v
  no_ring v ring = ∥∥₁_elim net.acyclic (λ a b. absurd a) (λ levels. on_ring levels v (subst (λ (g : List (List ℕ)). OnRing g v) graph_is ring))

  pub none_loop : IsFree (blif_said net names) Loop
  none_loop = no_loop (blif_said net names) no_ring
