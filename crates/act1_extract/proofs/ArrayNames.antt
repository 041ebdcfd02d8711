-- The netlist that is put together has the names and places of the extracted one.
use Rattle.std.proofs.Common.{ℕ, suc, zero, ◌≡◌, ◌≢◌, ◌<◌, ◌≤◌, ◌+◌, ◌⊎◌, not, Bool, true, false, List, [], ◌∷◌, ◌++◌, length, map, take, Some, refl, sym, ap, subst, ◌∙◌, inl, inr, arith}
use Rattle.std.specs.Prelude.{Contains, codes, slice_get, slice_index_or, if◌then◌else◌, ◌↔◌}
use Rattle.std.proofs.lemmas.Bool.{false≢true}
use Rattle.std.proofs.lemmas.Option.{get_or_from_slice_get}
use Rattle.act1_base.proofs.ListGets.{contains_at, get_in, get_map, get_within, one_at, place_of, some_is}
use Rattle.act1_blif.specs.declared.blif.Blif.{Blif}
use Rattle.act1_blif.specs.declared.blif.Latch.{Latch}
use Rattle.act1_blif.specs.declared.blif.Node.{Node}
use Rattle.act1_circuit.specs.declared.circuit.Circuit.{Circuit}
use Rattle.act1_circuit.specs.declared.circuit.Output.{Output}
use Rattle.act1_circuit.specs.declared.circuit.Source.{Source}
use Rattle.act1_circuit.specs.declared.circuit.Source.TheVariants.{Zero, One, Clock, Input, Module}
use Rattle.act1_circuit.specs.PairForm.{Edge, rising, IsPair, has_clock}
use Rattle.act1_circuit.specs.Range.{HasSource}
use Rattle.act1_meaning.specs.Extracted.{IsNodeAt, Takes, count_below, first_bit, first_node, is_outside, is_slave, signal_of}
use Rattle.act1_meaning.specs.ArrayNames.{HasArrayNames, IsFreeName, IsOutputNode, constant_source, is_own_signal, outside_count, output_nodes}
use Rattle.act1_extract.specs.declared.plan.Layout.{Layout}
use Rattle.act1_extract.specs.Layout.{found_signal, latch_of, start_takes, taken_signal}
use Rattle.act1_extract.specs.Parts.{constant_of, free_names}
use Rattle.act1_extract.specs.Picked.{IsNode, IsOutNode, has_node, no_output}
use Rattle.act1_extract.proofs.Assembly.{ArePartsOf, latches_are, node_is, signals_are}
use Rattle.act1_extract.proofs.NetOutputs.{source_there, test_at}
use Rattle.act1_extract.proofs.NodeParts.{free_name, module_there, nodes_long, one, one_there, output_there, zero_there}
use Rattle.act1_extract.proofs.Picks.{counted, place_low, skipped}
use Rattle.act1_extract.proofs.SignalNames.{out_name}
use Rattle.act1_extract.proofs.Slaves.{start_rank, taken_takes, takes_is, takes_taken}

abbrev constants_of : Bool → Bool → List Bool
constants_of true true = false ∷ true ∷ []
constants_of true false = false ∷ []
constants_of false true = true ∷ []
constants_of false false = []

constants_long : (z w : Bool) → length (constants_of z w) ≡ one z + one w
constants_long true true = refl
constants_long true false = refl
constants_long false true = refl
constants_long false false = refl

orders : (z w : Bool) → (constants_of z w ≡ []) ⊎ (constants_of z w ≡ false ∷ []) ⊎ (constants_of z w ≡ true ∷ []) ⊎ (constants_of z w ≡ false ∷ true ∷ [])
orders true true = inr (inr (inr refl))
orders true false = inr (inl refl)
orders false true = inr (inr (inl refl))
orders false false = inl refl

abbrev IsConstantAt : Bool → Bool → ℕ → Bool → Type 0
IsConstantAt z w i v = ((v ≡ false) × (z ≡ true) × (i ≡ 0)) ⊎ ((v ≡ true) × (w ≡ true) × (i ≡ one z))

constant_at : (z w : Bool) (i : ℕ) (v : Bool) → slice_get (constants_of z w) i ≡ Some v → IsConstantAt z w i v
constant_at true true zero v e = inl (sym (some_is false v e), refl, refl)
constant_at true true (suc zero) v e = inr (sym (some_is true v e), refl, refl)
constant_at true true (suc (suc i)) v e = cc
constant_at true false zero v e = inl (sym (some_is false v e), refl, refl)
constant_at true false (suc i) v e = cc
constant_at false true zero v e = inr (sym (some_is true v e), refl, refl)
constant_at false true (suc i) v e = cc
constant_at false false i v e = cc

zero_in : (z w : Bool) → z ≡ true → Contains (constants_of z w) false
zero_in true true e = contains_at (false ∷ true ∷ []) 0 false refl
zero_in true false e = contains_at (false ∷ []) 0 false refl
zero_in false w e = absurd (false≢true e)

one_in : (z w : Bool) → w ≡ true → Contains (constants_of z w) true
one_in true true e = contains_at (false ∷ true ∷ []) 1 true refl
one_in false true e = contains_at (true ∷ []) 0 true refl
one_in true false e = absurd (false≢true e)
one_in false false e = absurd (false≢true e)

take_all : {X : Type 0} (xs : List X) → take (length xs) xs ≡ xs
take_all [] = refl
take_all (x ∷ xs) = ap (λ (ys : List _). x ∷ ys) (take_all xs)

module _ (c : Circuit) (l : Layout) (names : List (List ℕ)) (b : Blif) (p : ArePartsOf c l names b) (limit : ℕ) (found : names ≡ free_names c limit) (enough : l.outside + 2 ≤ length names) where
  abbrev constants : List Bool
  constants = constants_of l.has_zero l.has_one

  long : length constants ≡ one l.has_zero + one l.has_one
  long = constants_long l.has_zero l.has_one

  module_named : (m : ℕ) (node : Node) → m < length c.modules → has_clock c m ≡ false → slice_get b.nodes (count_below (is_outside c) m) ≡ Some node → IsFreeName c (count_below (is_outside c) m) node.name
  module_named m node low none at =
      let r = module_there c l names b.nodes p.nodes m low none in
      let same : r.0 ≡ node = one_at b.nodes (count_below (is_outside c) m) r.0 node r.1 at in
      let place = place_low (is_outside c) (length c.modules) m low (ap not none) in
      let outside = p.layout.outside in
      subst (λ (n : List ℕ). IsFreeName c (count_below (is_outside c) m) n) (sym r.2.named ∙ ap (λ (u : Node). u.name) same) (free_name c names limit (count_below (is_outside c) m) found (omega arith))

  abbrev HasConstantNode : ℕ → Bool → Type 0
  HasConstantNode k v = (node : Node) × (slice_get b.nodes k ≡ Some node) × IsNode (slice_index_or names k []) [] (constant_of v) node

  node_of : (i : ℕ) (v : Bool) → IsConstantAt l.has_zero l.has_one i v → HasConstantNode (outside_count c + i) v
  node_of i v (inl (is, has, at)) =
      let k : outside_count c ≡ outside_count c + i = omega arith in
      subst (λ (u : Bool). HasConstantNode (outside_count c + i) u) (sym is) (subst (λ (j : ℕ). HasConstantNode j false) k (zero_there c l names b.nodes p.nodes has))
  node_of i v (inr (is, has, at)) =
      let k : outside_count c + one l.has_zero ≡ outside_count c + i = omega arith in
      subst (λ (u : Bool). HasConstantNode (outside_count c + i) u) (sym is) (subst (λ (j : ℕ). HasConstantNode j true) k (one_there c l names b.nodes p.nodes has))

  constant_node : (i : ℕ) (v : Bool) → slice_get constants i ≡ Some v → IsNodeAt b (outside_count c + i) [] (λ ys. v)
  constant_node i v e = let r = node_of i v (constant_at l.has_zero l.has_one i v e) in node_is _ [] (constant_of v) b (outside_count c + i) r.0 r.1 r.2

  constant_named : (i : ℕ) (node : Node) → i < length constants → slice_get b.nodes (outside_count c + i) ≡ Some node → IsFreeName c (outside_count c + i) node.name
  constant_named i node low at =
      let v = get_in constants i low in
      let r = node_of i v.0 (constant_at l.has_zero l.has_one i v.0 v.1) in
      let same : r.0 ≡ node = one_at b.nodes (outside_count c + i) r.0 node r.1 at in
      let few = long in
      let x = one_most l.has_zero in
      let y = one_most l.has_one in
      let outside = p.layout.outside in
      subst (λ (n : List ℕ). IsFreeName c (outside_count c + i) n) (sym r.2.named ∙ ap (λ (u : Node). u.name) same) (free_name c names limit (outside_count c + i) found (omega arith))
    where
      one_most : (t : Bool) → one t ≤ 1
      one_most true = omega arith
      one_most false = omega arith

  signal_at : (i : ℕ) (v : Bool) → IsConstantAt l.has_zero l.has_one i v → taken_signal l (constant_source v) ≡ first_node c + outside_count c + i
  signal_at i v (inl (is, has, at)) = let x : taken_signal l (constant_source v) ≡ l.zero_at = ap (λ (u : Bool). taken_signal l (constant_source u)) is in let z = p.layout.zero_at in omega arith
  signal_at i v (inr (is, has, at)) =
      let x : taken_signal l (constant_source v) ≡ l.one_at = ap (λ (u : Bool). taken_signal l (constant_source u)) is in
      let z = p.layout.zero_at in
      let w = p.layout.one_at in omega arith

  constant_latch : (edge : Edge) (v : Bool) (m s i : ℕ) (latch : Latch) → IsPair c edge (constant_source v) m s → slice_get constants i ≡ Some v
      → slice_get b.latches (count_below (is_slave c) s) ≡ Some latch → latch.input ≡ first_node c + outside_count c + i
  constant_latch rising v m s i latch q e at =
      let h = p.ok.form.starts s (record { edge = rising; takes = constant_source v; master = m; slave = s; pair = q; here = refl }) in
      let rank = start_rank c p.ok.rules.range p.ok.form p.ok.rules.rise h.0 h.1 h.2 in
      let place : count_below (is_slave c) s ≡ h.0 = ap (count_below (is_slave c)) (sym h.3) ∙ rank in
      let own = ap (λ (k : ℕ). slice_get b.latches k) place ∙ ap (λ (ls : List Latch). slice_get ls h.0) p.latches ∙ get_map (latch_of c l) c.starts h.0 h.1 h.2 in
      let same : latch_of c l h.1 ≡ latch = one_at b.latches (count_below (is_slave c) s) (latch_of c l h.1) latch own at in
      ap (λ (u : Latch). u.input) (sym same) ∙ ap (taken_signal l) (takes_is c p.ok.rules.range p.ok.form rising (constant_source v) m s h.1 q h.3) ∙ signal_at i v (constant_at l.has_zero l.has_one i v e)

  taken_there : (v : Bool) → Takes c (constant_source v) → Contains constants v
  taken_there false h = zero_in l.has_zero l.has_one (p.layout.has_zero ∙ takes_taken c p.ok.rules.range p.ok.form Zero h)
  taken_there true h = one_in l.has_zero l.has_one (p.layout.has_one ∙ takes_taken c p.ok.rules.range p.ok.form One h)

  there_taken : (v : Bool) → Contains constants v → Takes c (constant_source v)
  there_taken v h = let at = place_of constants v h in by (constant_at l.has_zero l.has_one at.0 v at.1)
    where
      by : IsConstantAt l.has_zero l.has_one (place_of constants v h).0 v → Takes c (constant_source v)
      by (inl (is, has, at)) = subst (λ (u : Bool). Takes c (constant_source u)) (sym is) (taken_takes c p.ok.rules.range p.ok.form Zero (sym p.layout.has_zero ∙ has))
      by (inr (is, has, at)) = subst (λ (u : Bool). Takes c (constant_source u)) (sym is) (taken_takes c p.ok.rules.range p.ok.form One (sym p.layout.has_one ∙ has))

  counts : (i k : ℕ) (os : List Output) → ((j : ℕ) (o : Output) → slice_get os j ≡ Some o → slice_get c.outputs (i + j) ≡ Some o) → k ≤ length os → output_nodes c (take k os) + count_below (has_node c) i ≡ count_below (has_node c) (i + k)
  counts i zero [] there low = let z : i ≡ i + 0 = omega arith in let w : count_below (has_node c) i ≡ count_below (has_node c) (i + 0) = ap (count_below (has_node c)) z in omega arith
  counts i zero (o ∷ os) there low = let z : i ≡ i + 0 = omega arith in let w : count_below (has_node c) i ≡ count_below (has_node c) (i + 0) = ap (count_below (has_node c)) z in omega arith
  counts i (suc k) [] there low = absurd (omega arith)
  counts i (suc k) (o ∷ os) there low = by (counts (suc i) k os rest (omega arith)) (is_own_signal c o) refl
    where
      here : slice_get c.outputs i ≡ Some o
      here = let z : i ≡ i + 0 = omega arith in ap (λ (j : ℕ). slice_get c.outputs j) z ∙ there 0 o refl

      rest : (j : ℕ) (u : Output) → slice_get os j ≡ Some u → slice_get c.outputs (suc i + j) ≡ Some u
      rest j u e = let z : suc i + j ≡ i + suc j = omega arith in ap (λ (n : ℕ). slice_get c.outputs n) z ∙ there (suc j) u e

      by : output_nodes c (take k os) + count_below (has_node c) (suc i) ≡ count_below (has_node c) (suc i + k) → (t : Bool) → is_own_signal c o ≡ t
          → (if t then 0 else 1) + output_nodes c (take k os) + count_below (has_node c) i ≡ count_below (has_node c) (i + suc k)
      by r true e =
          let z : suc i + k ≡ i + suc k = omega arith in
          let w = ap (count_below (has_node c)) z in
          let same = skipped (has_node c) i (test_at c i o true here e) in omega arith
      by r false e =
          let z : suc i + k ≡ i + suc k = omega arith in
          let w = ap (count_below (has_node c)) z in
          let more = counted (has_node c) i (test_at c i o false here e) in omega arith

  counts_all : (k : ℕ) → k ≤ length c.outputs → output_nodes c (take k c.outputs) ≡ count_below (has_node c) k
  counts_all k low =
      let h = counts 0 k c.outputs (λ j o e. let y : 0 + j ≡ j = omega arith in ap (λ (n : ℕ). slice_get c.outputs n) y ∙ e) low in
      let z : 0 + k ≡ k = omega arith in
      let w = ap (count_below (has_node c)) z in omega arith

  abbrev output_place : ℕ → ℕ
  output_place i = outside_count c + length constants + output_nodes c (take i c.outputs)

  own_node : (i : ℕ) (o : Output) → slice_get c.outputs i ≡ Some o → is_own_signal c o ≡ false → (node : Node) × (slice_get b.nodes (output_place i) ≡ Some node) × IsOutNode l.signals o.name o.source node
  own_node i o e none =
      let low = get_within c.outputs i o e in
      let r = output_there c l names b.nodes p.nodes i low (test_at c i o false e none) in
      let few = long in
      let count = counts_all i (omega arith) in
      let place : output_place i ≡ outside_count c + one l.has_zero + one l.has_one + count_below (has_node c) i = omega arith in
      (r.0, ap (λ (k : ℕ). slice_get b.nodes k) place ∙ r.1, subst (λ (u : Output). IsOutNode l.signals u.name u.source r.0) (get_or_from_slice_get c.outputs i o no_output e) r.2)

  out_node : (s : Source) (name : List ℕ) (j : ℕ) (node : Node) → HasSource c s → s ≢ Clock → slice_get b.nodes j ≡ Some node → IsOutNode l.signals name s node → IsOutputNode c b j s
  out_node Zero name j node has none at is = node_is name [] (constant_of false) b j node at is
  out_node One name j node has none at is = node_is name [] (constant_of true) b j node at is
  out_node Clock name j node has none at is = absurd (none refl)
  out_node (Input i) name j node has none at is = node_is name (i ∷ []) first_bit b j node at is
  out_node (Module m) name j node has none at is =
      subst (λ (k : ℕ). IsNodeAt b j (k ∷ []) first_bit) (signals_are c l names b p (Module m) has) (node_is name (found_signal l.signals (Module m) ∷ []) first_bit b j node at is)

  output_node : (i : ℕ) (o : Output) → slice_get c.outputs i ≡ Some o → is_own_signal c o ≡ false → IsOutputNode c b (output_place i) o.source
  output_node i o e none = let r = own_node i o e none in let s = source_there c p.ok i o e in out_node o.source o.name (output_place i) r.0 s.0 s.1 r.1 r.2

  output_named : (i : ℕ) (o : Output) (node : Node) → slice_get c.outputs i ≡ Some o → is_own_signal c o ≡ false → slice_get b.nodes (output_place i) ≡ Some node → node.name ≡ o.name
  output_named i o node e none at =
      let r = own_node i o e none in
      let same : node ≡ r.0 = one_at b.nodes (output_place i) node r.0 at r.1 in
      ap (λ (u : Node). u.name) same ∙ out_name l.signals o.source o.name r.0 (source_there c p.ok i o e).1 r.2

  node_count : length b.nodes ≡ outside_count c + length constants + output_nodes c c.outputs
  node_count =
      let few = long in
      let all = nodes_long c l names b.nodes p.nodes in
      let count = counts_all (length c.outputs) (omega arith) in
      let whole : output_nodes c (take (length c.outputs) c.outputs) ≡ output_nodes c c.outputs = ap (output_nodes c) (take_all c.outputs) in omega arith

  pub array_names : b.model ≡ codes "array" → HasArrayNames c b
  array_names model = record {
    model = model;
    constants = constants;
    in_order = orders l.has_zero l.has_one;
    taken = λ v. (there_taken v, taken_there v);
    modules = module_named;
    constant_nodes = constant_node;
    constant_names = constant_named;
    constant_latches = constant_latch;
    outputs = output_node;
    output_names = output_named;
    count = node_count;
  }
