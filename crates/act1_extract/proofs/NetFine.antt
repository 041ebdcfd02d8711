-- The parts that are put together keep the rules of a netlist: latches and nodes have inputs among the signals.
use Rattle.std.proofs.Common.{ℕ, suc, zero, ◌≡◌, ◌<◌, ◌≤◌, ◌+◌, ◌⊎◌, ◌&&◌, not, Bool, true, false, List, [], ◌∷◌, ◌++◌, length, map, Some, None, Option, refl, sym, ap, subst, ◌∙◌, inl, inr, arith}
use Rattle.std.specs.Prelude.{Contains, codes, ◌==◌, slice_get, slice_index_or, if◌then◌else◌, nat_le, nat_lt}
use Rattle.std.specs.List.{list_all}
use Rattle.std.proofs.lemmas.Bool.{false≢true}
use Rattle.std.proofs.lemmas.List.{length-append, length-map}
use Rattle.std.proofs.lemmas.Option.{get_or_from_slice_get}
use Rattle.act1_base.proofs.ListGets.{contains_at, get_in, get_mapped, get_within}
use Rattle.act1_base.specs.Names.{are_different, are_different_numbers, is_name}
use Rattle.act1_blif.specs.declared.blif.Latch.{Latch}
use Rattle.act1_blif.specs.declared.blif.Node.{Node}
use Rattle.act1_blif.specs.Rules.{are_names, is_blif, is_latch, is_node, names_of, with_clock}
use Rattle.act1_circuit.specs.declared.circuit.Circuit.{Circuit}
use Rattle.act1_circuit.specs.declared.circuit.Output.{Output}
use Rattle.act1_circuit.specs.declared.circuit.Start.{Start}
use Rattle.act1_circuit.specs.declared.circuit.Source.{Source}
use Rattle.act1_circuit.specs.declared.circuit.Source.TheVariants.{Zero, One, Clock, Input, Module}
use Rattle.act1_circuit.specs.PairForm.{Edge, IsPair, has_clock, outside_reads, pins_of, rising, start_module}
use Rattle.act1_meaning.specs.Extracted.{count_below, different, first_node, is_outside, is_slave, signal_of}
use Rattle.act1_meaning.specs.ArrayNames.{has_name, is_own_signal, outside_count}
use Rattle.act1_extract.specs.declared.plan.Layout.{Layout}
use Rattle.act1_extract.specs.Layout.{IsLayout, found_signal, has_taken, latch_of, start_takes, taken_signal}
use Rattle.act1_extract.specs.Net.{AreNodes, IsExtractable}
use Rattle.act1_extract.specs.Picked.{IsOutNode, has_node, no_output, output_signals}
use Rattle.act1_extract.proofs.NetLevels.{none_in, output_reads}
use Rattle.act1_extract.proofs.NodeParts.{IsOfConstant, IsOfModule, IsOfOutput, each_node, nodes_long, one, one_there, outside_true, zero_there}
use Rattle.act1_extract.proofs.Picks.{below_most, counted, place_low, skipped}
use Rattle.act1_extract.proofs.ReadSignals.{IsSignal, node_reads, output_is_signal, signal_place, taken_is_signal}
use Rattle.act1_extract.proofs.Signals.{found_inputs, found_is}
use Rattle.act1_circuit.specs.Range.{HasSource}
use Rattle.act1_circuit.proofs.PairFacts.{takes_has}
use Rattle.act1_extract.proofs.Slaves.{start_count, takes_is, takes_taken}
use Rattle.act1_extract.proofs.Tests.{all_by, equal, joined, less, most}

module _ (c : Circuit) (ok : IsExtractable c) (l : Layout) (layout : IsLayout c l) (names inputs : List (List ℕ)) (latches : List Latch) (nodes : List Node) (e : inputs ≡ c.inputs)
    (f : latches ≡ map (latch_of c l) c.starts) (p : AreNodes c l names nodes) where
  abbrev signals : ℕ
  signals = length inputs + length latches + length nodes

  pub signals_are : signals ≡ first_node c + length nodes
  signals_are = let x = ap length e in let y = ap length f ∙ length-map c.starts (latch_of c l) ∙ start_count c ok.rules.range ok.form ok.rules.rise in omega arith

  -- the signal of a source that the netlist has is one of the signals
  pub signal_low : (s : Source) → IsSignal c ok.rules.range ok.form s → signal_of c s < signals
  signal_low s h = by (signal_place c ok.rules.range ok.form s h)
    where
      by : (signal_of c s < first_node c) ⊎ ((m : ℕ) × (s ≡ Module m) × (m < length c.modules) × (has_clock c m ≡ false) × (signal_of c s ≡ first_node c + count_below (is_outside c) m)) → signal_of c s < signals
      by (inl low) = let all = signals_are in omega arith
      by (inr (m, is, low, none, at)) =
          let less = place_low (is_outside c) (length c.modules) m low (outside_true c m none) in
          let long = nodes_long c l names nodes p in
          let all = signals_are in omega arith

  -- and so is what the latch of a pair takes
  pub taken_low : (edge : Edge) (takes : Source) (m s : ℕ) → IsPair c edge takes m s → taken_signal l takes < signals
  taken_low edge Zero m s q =
      let has = layout.has_zero ∙ takes_taken c ok.rules.range ok.form Zero (edge, m, s, q) in
      let r = zero_there c l names nodes p has in
      let low = get_within nodes (outside_count c) r.0 r.1 in
      let at = layout.zero_at in
      let all = signals_are in omega arith
  taken_low edge One m s q =
      let has = layout.has_one ∙ takes_taken c ok.rules.range ok.form One (edge, m, s, q) in
      let r = one_there c l names nodes p has in
      let low = get_within nodes (outside_count c + one l.has_zero) r.0 r.1 in
      let at = layout.zero_at in
      let behind = layout.one_at in
      let all = signals_are in omega arith
  taken_low edge Clock m s q = absurd (q.no_clock refl)
  taken_low edge (Input i) m s q = signal_low (Input i) (taken_is_signal c ok.rules.range ok.form edge (Input i) m s q refl)
  taken_low edge (Module k) m s q =
      let is = ap (λ (ns : List ℕ). found_signal ns (Module k)) layout.signals ∙ found_is c (Module k) (takes_has c ok.rules.range edge (Module k) m s q) in
      let low = signal_low (Module k) (taken_is_signal c ok.rules.range ok.form edge (Module k) m s q refl) in omega arith

  pub latches_fine : list_all (is_latch signals) latches ≡ true
  latches_fine = all_by (is_latch signals) latches each
    where
      each : (j : ℕ) (latch : Latch) → slice_get latches j ≡ Some latch → is_latch signals latch ≡ true
      each j latch h =
          let s = get_mapped (latch_of c l) c.starts j latch (ap (λ (ls : List Latch). slice_get ls j) (sym f) ∙ h) in
          let pair = ok.form.pairs j s.0 s.1 in
          let takes = takes_is c ok.rules.range ok.form pair.edge pair.takes pair.master pair.slave s.0 pair.pair (sym pair.here) in
          let low = taken_low pair.edge pair.takes pair.master pair.slave pair.pair in
          let at : taken_signal l (start_takes c s.0) ≡ taken_signal l pair.takes = ap (taken_signal l) takes in
          let init : s.0.init ≤ 3 = subst (λ (u : Start). u.init ≤ 3) (get_or_from_slice_get c.starts j s.0 s.0 s.1) (ok.rules.inits j s.0 (get_within c.starts j s.0 s.1)) in
          subst (λ (u : Latch). is_latch signals u ≡ true) s.2
          (joined (nat_lt (taken_signal l (start_takes c s.0)) signals) (nat_le s.0.init 3) (less (taken_signal l (start_takes c s.0)) signals (omega arith)) (most s.0.init 3 init))

  in_low : (s m : ℕ) → m < length c.modules → has_clock c m ≡ false → s ≡ first_node c + count_below (is_outside c) m → s < signals
  in_low s m low none at =
      let less = place_low (is_outside c) (length c.modules) m low (outside_true c m none) in
      let long = nodes_long c l names nodes p in
      let all = signals_are in omega arith

  first_low : (s : ℕ) → s < first_node c → s < signals
  first_low s low = let all = signals_are in omega arith

  input_low : (k s : ℕ) (node : Node) → slice_get nodes k ≡ Some node → Contains node.inputs s → s < signals
  input_low k s node there h = by (each_node c l names nodes p k node there)
    where
      by_module : (m : ℕ) → (s < first_node c) ⊎ ((w : ℕ) × (w < length c.modules) × (has_clock c w ≡ false) × (s ≡ first_node c + count_below (is_outside c) w) × Contains (slice_index_or (outside_reads c) m []) w) → s < signals
      by_module m (inl low) = first_low s low
      by_module m (inr (w, low, none, at, reads)) = in_low s w low none at

      by_output : (s < first_node c) ⊎ ((m : ℕ) × ((m < length c.modules) × (has_clock c m ≡ false) × (s ≡ first_node c + count_below (is_outside c) m))) → s < signals
      by_output (inl low) = first_low s low
      by_output (inr (m, (low, none, at))) = in_low s m low none at

      by : IsOfModule c l names nodes p k node ⊎ (IsOfConstant c l names nodes p k node ⊎ IsOfOutput c l names nodes p k node) → s < signals
      by (inl (m, low, none, at, is)) =
          let ins = is.inputs_are ∙ ap (λ (ns : List ℕ). map (found_signal ns) (different (pins_of c m))) layout.signals ∙ found_inputs c ok.rules.range m low in
          by_module m (node_reads c ok.rules.range ok.form m s low none (subst (λ (ns : List ℕ). Contains ns s) ins h))
      by (inr (inl (v, far, near, is))) = absurd (none_in s (subst (λ (ns : List ℕ). Contains ns s) is.inputs_are h))
      by (inr (inr (i, low, has, at, is))) =
          let o = get_in c.outputs i low in
          let node_is = subst (λ (u : Output). IsOutNode l.signals u.name u.source node) (get_or_from_slice_get c.outputs i o.0 no_output o.1) is in
          by_output (output_reads c ok l layout names nodes p i s o.0 node o.1 node_is h)

  out_width : (s : Source) (name : List ℕ) (node : Node) → (s ≡ Clock → ⊥) → IsOutNode l.signals name s node → node.cover.width ≡ length node.inputs
  out_width Zero name node none is = is.width ∙ sym (ap length is.inputs_are)
  out_width One name node none is = is.width ∙ sym (ap length is.inputs_are)
  out_width Clock name node none is = absurd (none refl)
  out_width (Input i) name node none is = is.width ∙ sym (ap length is.inputs_are)
  out_width (Module m) name node none is = is.width ∙ sym (ap length is.inputs_are)

  node_width : (k : ℕ) (node : Node) → slice_get nodes k ≡ Some node → node.cover.width ≡ length node.inputs
  node_width k node there = by (each_node c l names nodes p k node there)
    where
      by : IsOfModule c l names nodes p k node ⊎ (IsOfConstant c l names nodes p k node ⊎ IsOfOutput c l names nodes p k node) → node.cover.width ≡ length node.inputs
      by (inl (m, low, none, at, is)) = is.width ∙ sym (ap length is.inputs_are)
      by (inr (inl (v, far, near, is))) = is.width ∙ sym (ap length is.inputs_are)
      by (inr (inr (i, low, has, at, is))) = out_width (slice_index_or c.outputs i no_output).source (slice_index_or c.outputs i no_output).name node (ok.form.outputs i no_output low) is

  pub nodes_fine : list_all (is_node signals) nodes ≡ true
  nodes_fine = all_by (is_node signals) nodes each
    where
      each : (k : ℕ) (node : Node) → slice_get nodes k ≡ Some node → is_node signals node ≡ true
      each k node there =
          joined (node.cover.width == length node.inputs) (list_all (λ s. nat_lt s signals) node.inputs) (equal node.cover.width (length node.inputs) (node_width k node there))
          (all_by (λ s. nat_lt s signals) node.inputs (λ j s h. less s signals (input_low k s node there (contains_at node.inputs j s h))))

  own_low : (i : ℕ) (o : Output) → slice_get c.outputs i ≡ Some o → is_own_signal c o ≡ true → found_signal l.signals o.source < signals
  own_low i o there own = by o.source refl own
    where
      has : (m : ℕ) → o.source ≡ Module m → m < length c.modules
      has m is = subst (λ (t : Source). HasSource c t) is (subst (λ (u : Output). HasSource c u.source) (get_or_from_slice_get c.outputs i o o there) (ok.rules.range.outputs i o (get_within c.outputs i o there)))

      by : (t : Source) → o.source ≡ t → has_name c o.name t ≡ true → found_signal l.signals t < signals
      by Zero is e = absurd (false≢true e)
      by One is e = absurd (false≢true e)
      by Clock is e = absurd (false≢true e)
      by (Input k) is e = signal_low (Input k) (output_is_signal c ok.rules.range ok.form i o (Input k) there is refl)
      by (Module m) is e =
          let same = ap (λ (ns : List ℕ). found_signal ns (Module m)) layout.signals ∙ found_is c (Module m) (has m is) in
          let low = signal_low (Module m) (output_is_signal c ok.rules.range ok.form i o (Module m) there is refl) in omega arith

  all_low : (i next : ℕ) (os : List Output) → ((k : ℕ) (o : Output) → slice_get os k ≡ Some o → slice_get c.outputs (i + k) ≡ Some o)
      → next ≡ first_node c + (outside_count c + one l.has_zero + one l.has_one + count_below (has_node c) i) → list_all (λ s. nat_lt s signals) (output_signals c l.signals next os) ≡ true
  all_low i next [] there at = refl
  all_low i next (o ∷ os) there at = by (λ n r e. all_low (suc i) n os r e) (is_own_signal c o) refl
    where
      here : slice_get c.outputs i ≡ Some o
      here = let z : i ≡ i + 0 = omega arith in ap (λ (k : ℕ). slice_get c.outputs k) z ∙ there 0 o refl

      rest : (k : ℕ) (u : Output) → slice_get os k ≡ Some u → slice_get c.outputs (suc i + k) ≡ Some u
      rest k u e = let z : suc i + k ≡ i + suc k = omega arith in ap (λ (j : ℕ). slice_get c.outputs j) z ∙ there (suc k) u e

      test : (t : Bool) → is_own_signal c o ≡ t → has_node c i ≡ not t
      test t is = ap (λ (u : Output). not (is_own_signal c u)) (get_or_from_slice_get c.outputs i o no_output here) ∙ ap not is

      by : ((n : ℕ) → ((k : ℕ) (u : Output) → slice_get os k ≡ Some u → slice_get c.outputs (suc i + k) ≡ Some u) → n ≡ first_node c + (outside_count c + one l.has_zero + one l.has_one + count_below (has_node c) (suc i))
          → list_all (λ s. nat_lt s signals) (output_signals c l.signals n os) ≡ true) → (t : Bool) → is_own_signal c o ≡ t
          → list_all (λ s. nat_lt s signals) (if t then found_signal l.signals o.source ∷ output_signals c l.signals next os else next ∷ output_signals c l.signals (next + 1) os) ≡ true
      by again true e =
          let same = skipped (has_node c) i (test true e) in
          joined (nat_lt (found_signal l.signals o.source) signals) (list_all (λ s. nat_lt s signals) (output_signals c l.signals next os)) (less (found_signal l.signals o.source) signals (own_low i o here e)) (again next rest (omega arith))
      by again false e =
          let more = counted (has_node c) i (test false e) in
          let place = place_low (has_node c) (length c.outputs) i (get_within c.outputs i o here) (test false e) in
          let long = nodes_long c l names nodes p in
          let all = signals_are in
          joined (nat_lt next signals) (list_all (λ s. nat_lt s signals) (output_signals c l.signals (next + 1) os)) (less next signals (omega arith)) (again (next + 1) rest (omega arith))

  pub outputs_fine : (outputs : List ℕ) → outputs ≡ output_signals c l.signals l.outputs_at c.outputs → list_all (λ s. nat_lt s signals) outputs ≡ true
  outputs_fine outputs is =
      let x = layout.outputs_at in
      let y = layout.one_at in
      let z = layout.zero_at in
      subst (λ (ns : List ℕ). list_all (λ s. nat_lt s signals) ns ≡ true) (sym is)
      (all_low 0 l.outputs_at c.outputs (λ k o h. let w : 0 + k ≡ k = omega arith in ap (λ (j : ℕ). slice_get c.outputs j) w ∙ h) (omega arith))

  one_most : (t : Bool) → one t ≤ 1
  one_most true = omega arith
  one_most false = omega arith

  signals_few : signals ≤ 10000
  signals_few =
      let all = signals_are in
      let long = nodes_long c l names nodes p in
      let slaves = below_most (is_slave c) (length c.modules) in
      let others = below_most (is_outside c) (length c.modules) in
      let own = below_most (has_node c) (length c.outputs) in
      let x = one_most l.has_zero in
      let y = one_most l.has_one in
      let few = ok.rules.modules in
      let ports = ok.rules.ports in omega arith

  names_long : length (names_of inputs latches nodes) ≡ signals
  names_long =
      omega (
        arith,
        length-append (inputs ++ map (λ (u : Latch). u.name) latches) (map (λ (u : Node). u.name) nodes),
        length-append inputs (map (λ (u : Latch). u.name) latches),
        length-map latches (λ (u : Latch). u.name),
        length-map nodes (λ (u : Node). u.name),
      )

  pub names_few : (clock : Option (List ℕ)) → length (with_clock clock (names_of inputs latches nodes)) ≤ 65535
  names_few None = let h = names_long in let k = signals_few in omega arith
  names_few (Some name) = let h = names_long in let k = signals_few in omega arith

  -- with names that are names and differ, and outputs that differ, the parts keep the rules
  pub valid_by : (model : List ℕ) (clock : Option (List ℕ)) (outputs : List ℕ) → model ≡ codes "array" → outputs ≡ output_signals c l.signals l.outputs_at c.outputs
      → list_all is_name (with_clock clock (names_of inputs latches nodes)) ≡ true → are_different (with_clock clock (names_of inputs latches nodes)) ≡ true → are_different_numbers outputs ≡ true
      → is_blif model clock inputs latches nodes outputs ≡ true
  valid_by model clock outputs named is fine differ apart =
      let model_fine : is_name model ≡ true = ap is_name named in
      let few = most (length (with_clock clock (names_of inputs latches nodes))) 65535 (names_few clock) in
      let low = outputs_fine outputs is in
      λ i. model_fine i && (fine i && differ i && few i) && latches_fine i && nodes_fine i && (low i && apart i)
