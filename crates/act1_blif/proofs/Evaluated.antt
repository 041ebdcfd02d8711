-- The values of the nodes, as they are found in an order in which each stands after those that it reads.
use Rattle.std.proofs.Common.{ℕ, suc, ◌≡◌, ◌≢◌, ◌<◌, ◌≤◌, ◌+◌, ◌-◌, ◌⊎◌, Bool, false, List, [], ◌∷◌, ◌++◌, length, map, replicate, refl, arith, inl, inr, ap, sym, subst, ◌∙◌, Some, get_or-set_same, get_or-set_other}
use Rattle.std.specs.Prelude.{Contains, slice_get, slice_set}
use Rattle.std.proofs.lemmas.Bool.{cases_eq}
use Rattle.std.proofs.lemmas.List.{length-append, length-map, length-set, length-replicate}
use Rattle.act1_logic.specs.Cover.{value_of}
use Rattle.act1_order.specs.Order.{IsOrder}
use Rattle.act1_base.proofs.ListGets.{some_is, get_within, place_of}
use Rattle.act1_blif.specs.declared.blif.Blif.{Blif}
use Rattle.act1_blif.specs.declared.blif.Node.{Node}
use Rattle.act1_blif.specs.Run.{Fits, node_value, signal}
use Rattle.act1_blif.specs.Graph.{first_node, reads_of}
use Rattle.act1_blif.specs.ValuationSteps.{AreEvaluated}
use Rattle.act1_blif.proofs.NetGraph.{node_reads, length_reads}
use Rattle.act1_blif.proofs.OneValuation.{front, back, at_node, has_node, map_same, cases}

same_values : (v w : List Bool) → length v ≡ length w → ((s : ℕ) → s < length v → signal v s ≡ signal w s) → v ≡ w
same_values [] [] e h = refl
same_values [] (b ∷ w) e h = absurd (omega arith)
same_values (a ∷ v) [] e h = absurd (omega arith)
same_values (a ∷ v) (b ∷ w) e h = ap (λ (c : Bool). c ∷ v) (h 0 (omega arith)) ∙ ap (λ (u : List Bool). b ∷ u) (same_values v w (omega arith) (λ s low. h (suc s) (omega arith)))

-- before the first signal of the order
pub none_evaluated : (net : Blif) (q x : List Bool) (order : List ℕ) (values : List Bool) → length x ≡ length net.inputs → length q ≡ length net.latches
    → values ≡ x ++ q ++ replicate (length net.nodes) false → AreEvaluated net q x order 0 values
none_evaluated net q x order values given state is = record {
  all = ap (λ (v : List Bool). length v) is ∙ lengths;
  given = λ s low. ap (λ (v : List Bool). signal v s) is ∙ front (x ++ q) (replicate (length net.nodes) false) s (omega (arith, length-append x q));
  nodes = λ k j node under is_k there. absurd (omega arith);
}
  where
    lengths : length (x ++ q ++ replicate (length net.nodes) false) ≡ first_node net + length net.nodes
    lengths = omega (arith, length-append (x ++ q) (replicate (length net.nodes) false), length-append x q, length-replicate (length net.nodes) false)

module _ (net : Blif) (q x : List Bool) (order : List ℕ) (h : IsOrder (reads_of net) order) where
  -- a write at a later signal of the order changes no input of an earlier node
  unaffected : (p k s j : ℕ) (node : Node) (values : List Bool) (value : Bool) → slice_get order p ≡ Some s → k ≤ p → slice_get order k ≡ Some (first_node net + j) → slice_get net.nodes j ≡ Some node
      → node_value (slice_set values s value) node ≡ node_value values node
  unaffected p k s j node values value is_s before is_k there = ap (value_of node.cover) (map_same (signal (slice_set values s value)) (signal values) node.inputs (λ w c. same w c))
    where
      same : (w : ℕ) → Contains node.inputs w → signal (slice_set values s value) w ≡ signal values w
      same w c =
          let stand = h.after k (first_node net + j) w is_k (subst (λ (own : List ℕ). Contains own w) (sym (node_reads net j node there)) c) in
          let early = stand.before in
          get_or-set_other values s w value false (λ e. let at = h.once stand.place p s (stand.there ∙ ap (λ (u : ℕ). Some u) e) is_s in absurd (omega arith))

  -- an input or a latch is next in the order
  pub given_next : (p s : ℕ) (values : List Bool) → slice_get order p ≡ Some s → s < first_node net → AreEvaluated net q x order p values → AreEvaluated net q x order (p + 1) values
  given_next p s values is_s low e = record {
    all = e.all;
    given = e.given;
    nodes = λ k j node under is_k there. by k j node under is_k there (cases_eq k p);
  }
    where
      by : (k j : ℕ) (node : Node) → k < p + 1 → slice_get order k ≡ Some (first_node net + j) → slice_get net.nodes j ≡ Some node → (k ≡ p) ⊎ (k ≢ p) → signal values (first_node net + j) ≡ node_value values node
      by k j node under is_k there (inl at) = let same = some_is s (first_node net + j) (sym is_s ∙ ap (slice_get order) (sym at) ∙ is_k) in absurd (omega arith)
      by k j node under is_k there (inr apart) = e.nodes k j node (omega arith) is_k there

  -- a node is next in the order
  pub node_next : (p j : ℕ) (node : Node) (values : List Bool) → slice_get order p ≡ Some (first_node net + j) → slice_get net.nodes j ≡ Some node → AreEvaluated net q x order p values
      → AreEvaluated net q x order (p + 1) (slice_set values (first_node net + j) (node_value values node))
  node_next p j node values is_s there e = record {
    all = length-set values (first_node net + j) (node_value values node) ∙ e.all;
    given = λ t low. get_or-set_other values (first_node net + j) t (node_value values node) false (λ at. absurd (omega arith)) ∙ e.given t low;
    nodes = λ k i other under is_k at. by k i other under is_k at (cases_eq k p);
  }
    where
      within : first_node net + j < length values
      within = let low = get_within net.nodes j node there in let all = e.all in omega arith

      by : (k i : ℕ) (other : Node) → k < p + 1 → slice_get order k ≡ Some (first_node net + i) → slice_get net.nodes i ≡ Some other → (k ≡ p) ⊎ (k ≢ p)
          → signal (slice_set values (first_node net + j) (node_value values node)) (first_node net + i) ≡ node_value (slice_set values (first_node net + j) (node_value values node)) other
      by k i other under is_k at (inl e_k) =
          let same = some_is (first_node net + j) (first_node net + i) (sym is_s ∙ ap (slice_get order) (sym e_k) ∙ is_k) in
          let i_is : i ≡ j = omega arith in
          let node_is : node ≡ other = some_is node other (sym there ∙ ap (slice_get net.nodes) (sym i_is) ∙ at) in
          ap (λ (t : ℕ). signal (slice_set values (first_node net + j) (node_value values node)) (first_node net + t)) i_is
          ∙ get_or-set_same values (first_node net + j) (node_value values node) false within
          ∙ ap (node_value values) node_is
          ∙ sym (unaffected p k (first_node net + j) i other values (node_value values node) is_s (omega arith) is_k at)
      by k i other under is_k at (inr apart) =
          get_or-set_other values (first_node net + j) (first_node net + i) (node_value values node) false
          (λ same. apart (h.once k p (first_node net + j) (is_k ∙ ap (λ (u : ℕ). Some u) same) is_s))
          ∙ e.nodes k i other (omega arith) is_k at
          ∙ sym (unaffected p k (first_node net + j) i other values (node_value values node) is_s (omega arith) is_k at)

  -- after the last signal of the order the values fit
  pub all_fit : (values : List Bool) → length x ≡ length net.inputs → length q ≡ length net.latches → AreEvaluated net q x order (length order) values → Fits net q x values
  all_fit values given state e = record { inputs = given; latches = state; values = same_values values (x ++ q ++ map (node_value values) net.nodes) lengths (λ s low. by s low (cases s (first_node net))) }
    where
      lengths : length values ≡ length (x ++ q ++ map (node_value values) net.nodes)
      lengths = let all = e.all in omega (arith, length-append (x ++ q) (map (node_value values) net.nodes), length-append x q, length-map net.nodes (node_value values))

      by : (s : ℕ) → s < length values → (s < first_node net) ⊎ (first_node net ≤ s) → signal values s ≡ signal (x ++ q ++ map (node_value values) net.nodes) s
      by s low (inl before) = e.given s before ∙ sym (front (x ++ q) (map (node_value values) net.nodes) s (omega (arith, length-append x q)))
      by s low (inr behind) =
          let j : ℕ = s - first_node net in
          let place : s ≡ first_node net + j = omega arith in
          let all = e.all in
          let node = has_node net.nodes j (omega arith) in
          let long = length_reads net in
          let at = place_of order s (h.there s (omega arith)) in
          let value = e.nodes at.0 j node.0 (get_within order at.0 s at.1) (at.1 ∙ ap (λ (u : ℕ). Some u) place) node.1 in
          ap (signal values) place ∙ value
          ∙ sym (back (x ++ q) (map (node_value values) net.nodes) s j (omega (arith, length-append x q)) ∙ at_node (node_value values) net.nodes j node.0 node.1)

  -- the next signal of the order, with what is written for it
  pub signal_next : (p s : ℕ) (values new : List Bool) → slice_get order p ≡ Some s → AreEvaluated net q x order p values → (s < first_node net → new ≡ values)
      → ((j : ℕ) (node : Node) → s ≡ first_node net + j → slice_get net.nodes j ≡ Some node → new ≡ slice_set values s (node_value values node)) → AreEvaluated net q x order (p + 1) new
  signal_next p s values new is_s e kept written = by (cases s (first_node net))
    where
      by : (s < first_node net) ⊎ (first_node net ≤ s) → AreEvaluated net q x order (p + 1) new
      by (inl low) = subst (λ (v : List Bool). AreEvaluated net q x order (p + 1) v) (sym (kept low)) (given_next p s values is_s low e)
      by (inr behind) =
          let j : ℕ = s - first_node net in
          let place : s ≡ first_node net + j = omega arith in
          let long = length_reads net in
          let low = h.inside p s is_s in
          let node = has_node net.nodes j (omega arith) in
          subst (λ (v : List Bool). AreEvaluated net q x order (p + 1) v)
          (sym (written j node.0 place node.1 ∙ ap (λ (t : ℕ). slice_set values t (node_value values node.0)) place))
          (node_next p j node.0 values (is_s ∙ ap (λ (u : ℕ). Some u) place) node.1 e)
