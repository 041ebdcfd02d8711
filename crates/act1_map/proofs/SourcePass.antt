-- The sources of the nodes, as they are found in an order in which each stands after those that it reads.
use Rattle.std.proofs.Common.{ℕ, ◌≡◌, ◌≢◌, ◌<◌, ◌≤◌, ◌+◌, ◌-◌, ◌⊎◌, List, [], ◌++◌, length, replicate, refl, arith, inl, inr, ap, sym, subst, ◌∙◌, Some, get_or-set_same, get_or-set_other}
use Rattle.std.specs.Prelude.{Contains, slice_get, slice_index_or, slice_set}
use Rattle.std.proofs.lemmas.Bool.{cases_eq, cases_lt}
use Rattle.std.proofs.lemmas.List.{length-append, length-set, length-replicate}
use Rattle.std.proofs.lemmas.Option.{slice_get_within}
use Rattle.act1_blif.specs.declared.blif.Blif.{Blif}
use Rattle.act1_blif.specs.declared.blif.Node.{Node}
use Rattle.act1_blif.specs.Graph.{first_node, reads_of, signal_count}
use Rattle.act1_blif.specs.Laws.{IsWhole}
use Rattle.act1_circuit.specs.declared.circuit.Source.{Source}
use Rattle.act1_circuit.specs.declared.circuit.Source.TheVariants.{Zero, Input, Module}
use Rattle.act1_cover.specs.declared.forest.Term.{Term}
use Rattle.act1_cover.specs.declared.forest.Term.TheVariants as term
use Rattle.act1_order.specs.Order.{IsOrder}
use Rattle.act1_map.specs.declared.covers.Covered.{Covered}
use Rattle.act1_map.specs.CoverSteps.{AreCovered}
use Rattle.act1_map.specs.MapSteps.{AreSourced, AreSourcedAll, at_first, given_sources, node_source, part_source, slave_at}
use Rattle.act1_map.proofs.CoverInputs.{cover_asks}
use Rattle.act1_map.proofs.Gets.{contained_at, one_at, some_same, some_within}
use Rattle.act1_map.proofs.Passes.{first_count}

module _ (b : Blif) (covers : List Covered) (places : List (List ℕ)) (tiles : ℕ) where
  -- nothing is known of the nodes yet
  given_count : length (given_sources b tiles) ≡ signal_count b
  given_count =
      let i = first_count Input (length b.inputs) in
      let l = first_count (λ j. Module (slave_at tiles j)) (length b.latches) in
      let n = length-replicate (length b.nodes) Zero in
      let a = length-append (at_first Input (length b.inputs)) (at_first (λ j. Module (slave_at tiles j)) (length b.latches)) in
      let c = length-append (at_first Input (length b.inputs) ++ at_first (λ j. Module (slave_at tiles j)) (length b.latches)) (replicate (length b.nodes) Zero) in
      omega arith

  pub none_sourced : (order : List ℕ) (sources : List Source) → sources ≡ given_sources b tiles → AreSourced b covers places tiles order 0 sources
  none_sourced order sources is = record {
    all = ap (λ (ss : List Source). length ss) is ∙ given_count;
    given = λ s low. ap (λ (ss : List Source). slice_index_or ss s Zero) is;
    nodes = λ p i node c under at there here. absurd (omega arith);
  }

  module _ (whole : IsWhole b) (covered : AreCovered b.nodes (length b.nodes) covers) (order : List ℕ) (h : IsOrder (reads_of b) order) where
    -- the root of a node is no later signal of the order
    root_before : (k i v : ℕ) (node : Node) (c : Covered) → slice_get order k ≡ Some (first_node b + i) → slice_get b.nodes i ≡ Some node → slice_get covers i ≡ Some c → c.forest.root ≡ term.Var v
        → (p s : ℕ) → slice_get order p ≡ Some s → k ≤ p → slice_index_or node.inputs v 0 ≢ s
    root_before k i v node c at there here root p s is_s low same =
        let own = covered.each i node c there here in
        let wide = whole.widths i node there in
        let within : v < length node.inputs = (let l = (cover_asks node.cover c.forest own.forest).root v root in omega arith) in
        let reads = subst (λ (ws : List ℕ). Contains ws (slice_index_or node.inputs v 0)) (sym (whole.reads i node there)) (contained_at node.inputs v 0 within) in
        let stand = h.after k (first_node b + i) (slice_index_or node.inputs v 0) at reads in
        let early = stand.before in
        let here_too = h.once stand.place p s (stand.there ∙ ap (λ (u : ℕ). Some u) same) is_s in absurd (omega arith)

    -- a write at a later signal of the order changes the source of no earlier node
    unaffected : (p k s i : ℕ) (node : Node) (c : Covered) (sources : List Source) (x : Source) → slice_get order p ≡ Some s → k ≤ p → slice_get order k ≡ Some (first_node b + i) → slice_get b.nodes i ≡ Some node → slice_get covers i ≡ Some c
        → node_source (slice_set sources s x) places i node c ≡ node_source sources places i node c
    unaffected p k s i node c sources x is_s low at there here = by c.forest.root (λ v e. root_before k i v node c at there here e p s is_s low)
      where
        by : (e : Term) → ((v : ℕ) → e ≡ term.Var v → slice_index_or node.inputs v 0 ≢ s) → part_source (slice_set sources s x) node.inputs (slice_index_or places i []) e ≡ part_source sources node.inputs (slice_index_or places i []) e
        by term.Zero apart = refl
        by term.One apart = refl
        by (term.Var v) apart = get_or-set_other sources s (slice_index_or node.inputs v 0) x Zero (apart v refl)
        by (term.Fork j) apart = refl

    given_next : (p s : ℕ) (sources : List Source) → slice_get order p ≡ Some s → s < first_node b → AreSourced b covers places tiles order p sources → AreSourced b covers places tiles order (p + 1) sources
    given_next p s sources is_s low e = record { all = e.all; given = e.given; nodes = λ k i node c under at there here. by k i node c under at there here (cases_eq k p) }
      where
        by : (k i : ℕ) (node : Node) (c : Covered) → k < p + 1 → slice_get order k ≡ Some (first_node b + i) → slice_get b.nodes i ≡ Some node → slice_get covers i ≡ Some c → (k ≡ p) ⊎ (k ≢ p) → slice_index_or sources (first_node b + i) Zero ≡ node_source sources places i node c
        by k i node c under at there here (inl same) = let e_s = some_same s (first_node b + i) (sym is_s ∙ ap (slice_get order) (sym same) ∙ at) in absurd (omega arith)
        by k i node c under at there here (inr apart) = e.nodes k i node c (omega arith) at there here

    node_next : (p j : ℕ) (node : Node) (c : Covered) (sources : List Source) → slice_get order p ≡ Some (first_node b + j) → slice_get b.nodes j ≡ Some node → slice_get covers j ≡ Some c → AreSourced b covers places tiles order p sources
        → AreSourced b covers places tiles order (p + 1) (slice_set sources (first_node b + j) (node_source sources places j node c))
    node_next p j node c sources is_s there here e = record {
      all = length-set sources (first_node b + j) x ∙ e.all;
      given = λ t low. get_or-set_other sources (first_node b + j) t x Zero (λ at. absurd (omega arith)) ∙ e.given t low;
      nodes = λ k i other d under is_k at with_d. by k i other d under is_k at with_d (cases_eq k p);
    }
      where
        x : Source
        x = node_source sources places j node c

        within : first_node b + j < length sources
        within = let low = slice_get_within b.nodes j node there in let all = e.all in omega arith

        by : (k i : ℕ) (other : Node) (d : Covered) → k < p + 1 → slice_get order k ≡ Some (first_node b + i) → slice_get b.nodes i ≡ Some other → slice_get covers i ≡ Some d → (k ≡ p) ⊎ (k ≢ p)
            → slice_index_or (slice_set sources (first_node b + j) x) (first_node b + i) Zero ≡ node_source (slice_set sources (first_node b + j) x) places i other d
        by k i other d under is_k at with_d (inl e_k) =
            let same = some_same (first_node b + j) (first_node b + i) (sym is_s ∙ ap (slice_get order) (sym e_k) ∙ is_k) in
            let i_is : i ≡ j = omega arith in
            let node_is : node ≡ other = one_at b.nodes j node other there (ap (slice_get b.nodes) (sym i_is) ∙ at) in
            let cover_is : c ≡ d = one_at covers j c d here (ap (slice_get covers) (sym i_is) ∙ with_d) in
            ap (λ (t : ℕ). slice_index_or (slice_set sources (first_node b + j) x) (first_node b + t) Zero) i_is
            ∙ get_or-set_same sources (first_node b + j) x Zero within
            ∙ ap (λ (t : ℕ). node_source sources places t node c) (sym i_is)
            ∙ ap (λ (u : Node). node_source sources places i u c) node_is
            ∙ ap (node_source sources places i other) cover_is
            ∙ sym (unaffected p k (first_node b + j) i other d sources x is_s (omega arith) is_k at with_d)
        by k i other d under is_k at with_d (inr apart) =
            get_or-set_other sources (first_node b + j) (first_node b + i) x Zero (λ same. apart (h.once k p (first_node b + j) (is_k ∙ ap (λ (u : ℕ). Some u) same) is_s))
            ∙ e.nodes k i other d (omega arith) is_k at with_d
            ∙ sym (unaffected p k (first_node b + j) i other d sources x is_s (omega arith) is_k at with_d)

    -- the next signal of the order, with what is written for it
    pub signal_next : (p s : ℕ) (sources new : List Source) → slice_get order p ≡ Some s → AreSourced b covers places tiles order p sources → (s < first_node b → new ≡ sources)
        → ((i : ℕ) (node : Node) (c : Covered) → s ≡ first_node b + i → slice_get b.nodes i ≡ Some node → slice_get covers i ≡ Some c → new ≡ slice_set sources s (node_source sources places i node c))
        → AreSourced b covers places tiles order (p + 1) new
    signal_next p s sources new is_s e kept written = by (cases_lt s (first_node b))
      where
        by : (s < first_node b) ⊎ (first_node b ≤ s) → AreSourced b covers places tiles order (p + 1) new
        by (inl low) = subst (λ (ss : List Source). AreSourced b covers places tiles order (p + 1) ss) (sym (kept low)) (given_next p s sources is_s low e)
        by (inr behind) =
            let j : ℕ = s - first_node b in
            let place : s ≡ first_node b + j = omega arith in
            let all = whole.all in
            let low = h.inside p s is_s in
            let node = some_within b.nodes j (omega arith) in
            let count = covered.count in
            let c = some_within covers j (omega arith) in
            subst (λ (ss : List Source). AreSourced b covers places tiles order (p + 1) ss)
            (sym (written j node.0 c.0 place node.1 c.1 ∙ ap (λ (t : ℕ). slice_set sources t (node_source sources places j node.0 c.0)) place))
            (node_next p j node.0 c.0 sources (is_s ∙ ap (λ (u : ℕ). Some u) place) node.1 c.1 e)

    pub signal_within : (p s : ℕ) → slice_get order p ≡ Some s → s < signal_count b
    signal_within p s is = let l = h.inside p s is in let all = whole.all in omega arith

    pub all_sourced : (done : ℕ) (sources : List Source) → done ≡ length order → AreSourced b covers places tiles order done sources → AreSourcedAll b covers places tiles sources
    all_sourced done sources whole_order e = record { order = order; is_order = h; sourced = subst (λ (n : ℕ). AreSourced b covers places tiles order n sources) whole_order e }
