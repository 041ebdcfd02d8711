-- The netlist that a circuit is extracted to, with its names, and an output whose name clashes.
use Rattle.std.proofs.Common.{ℕ, suc, zero, ◌≡◌, ◌≢◌, ◌+◌, ◌<◌, Bool, true, false, [], ◌∷◌, map, Some, None, refl, sym, subst, inl, inr, arith}
use Rattle.std.specs.Prelude.{◌⊎◌, ◌↔◌, codes, Contains, slice_get, slice_index_or, take}
use Rattle.std.specs.Fmt.{digits}
use Rattle.std.proofs.lemmas.List.Elements.{All-contains, All-from_recursion}
use Rattle.act1_blif.specs.declared.blif.Blif.{Blif}
use Rattle.act1_blif.specs.declared.blif.Latch.{Latch}
use Rattle.act1_blif.specs.declared.blif.Node.{Node}
use Rattle.act1_circuit.specs.declared.circuit.Circuit.{Circuit}
use Rattle.act1_circuit.specs.declared.circuit.Output.{Output}
use Rattle.act1_circuit.specs.declared.circuit.Start.{Start}
use Rattle.act1_circuit.specs.declared.circuit.Source.{Source}
use Rattle.act1_circuit.specs.declared.circuit.Source.TheVariants.{Zero, One, Clock, Input, Module}
use Rattle.act1_circuit.specs.PairForm.{Edge, rising, has_clock, pin_of, pins_of, IsPair}
use Rattle.act1_logic.specs.declared.cover.Cover.{Cover}
use Rattle.act1_logic.specs.declared.cover.Mark.TheVariants as mark
use Rattle.act1_meaning.specs.ArrayNames.{constant_source, is_own_signal, output_nodes, outside_count, HasArrayNames, IsFirstClash, IsFreeName, IsOutputNode}
use Rattle.act1_meaning.specs.Extracted.{count_below, different, first_node, is_outside, is_slave, module_in, signal_of, IsArrayLatch, IsArrayNet, IsNodeAt, Takes}
use Rattle.act1_samples.proofs.Netlists.{not_cover, one_cover, some, zero_cover}
use Rattle.act1_samples.proofs.PairForms.{no_pin}

-- an inverter, and a latch that takes the constant one. An input has the name that the inverter's node would have, and one output has the latch's name
abbrev pub start_q : Start
start_q = record { «module» = 2; init = 0; name = codes "q" }

abbrev pub out_q : Output
out_q = record { name = codes "q"; source = Module 2 }

abbrev pub out_y : Output
out_y = record { name = codes "y"; source = Module 0 }

abbrev pub out_z : Output
out_z = record { name = codes "z"; source = Zero }

abbrev pub circuit : Circuit
circuit = record {
  clock = Some (codes "clk");
  inputs = codes "m0" ∷ [];
  modules = (One ∷ Zero ∷ Zero ∷ Zero ∷ Zero ∷ Zero ∷ Input 0 ∷ Zero ∷ [])
      ∷ (One ∷ Zero ∷ Zero ∷ Module 1 ∷ Zero ∷ Zero ∷ Clock ∷ Zero ∷ [])
      ∷ (Module 2 ∷ Zero ∷ Zero ∷ Module 1 ∷ Zero ∷ Zero ∷ Clock ∷ Zero ∷ []) ∷ [];
  outputs = out_q ∷ out_y ∷ out_z ∷ [];
  starts = start_q ∷ [];
}

-- its one input
abbrev pub copy_cover : Cover
copy_cover = record { width = 1; output = true; rows = record { marks = mark.One ∷ [] } ∷ []; valid = refl }

abbrev pub latch_q : Latch
latch_q = record { name = codes "q"; input = 3; init = 0 }

abbrev pub node_0 : Node
node_0 = record { name = codes "m1"; inputs = 0 ∷ []; cover = not_cover }

abbrev pub node_one : Node
node_one = record { name = codes "m2"; inputs = []; cover = one_cover }

abbrev pub node_y : Node
node_y = record { name = codes "y"; inputs = 2 ∷ []; cover = copy_cover }

abbrev pub node_z : Node
node_z = record { name = codes "z"; inputs = []; cover = zero_cover }

-- no input of these nodes is a node, but that of the third, which is the first
pub above : (k j : ℕ) (node : Node) → slice_get (node_0 ∷ node_one ∷ node_y ∷ node_z ∷ []) k ≡ Some node → Contains node.inputs (2 + j) → slice_index_or (0 ∷ 0 ∷ 1 ∷ 0 ∷ []) j 0 < slice_index_or (0 ∷ 0 ∷ 1 ∷ 0 ∷ []) k 0
above zero j node is h =
    let c : Contains (0 ∷ []) (2 + j) = subst (λ (n : Node). Contains n.inputs (2 + j)) (sym (some node_0 node is)) h in
    let e : 2 + j ≡ 0 = All-contains (λ s. s ≡ 0) (0 ∷ []) (2 + j) (All-from_recursion (λ s. s ≡ 0) (0 ∷ []) (refl, tt)) c in
    absurd (omega arith)
above (suc zero) j node is h = let c : Contains [] (2 + j) = subst (λ (n : Node). Contains n.inputs (2 + j)) (sym (some node_one node is)) h in absurd (omega (arith, c.1))
above (suc (suc zero)) j node is h =
    let c : Contains (2 ∷ []) (2 + j) = subst (λ (n : Node). Contains n.inputs (2 + j)) (sym (some node_y node is)) h in
    let e : 2 + j ≡ 2 = All-contains (λ s. s ≡ 2) (2 ∷ []) (2 + j) (All-from_recursion (λ s. s ≡ 2) (2 ∷ []) (refl, tt)) c in
    let first : 0 ≡ j = omega arith in
    subst (λ (i : ℕ). slice_index_or (0 ∷ 0 ∷ 1 ∷ 0 ∷ []) i 0 < 1) first (omega arith)
above (suc (suc (suc zero))) j node is h = let c : Contains [] (2 + j) = subst (λ (n : Node). Contains n.inputs (2 + j)) (sym (some node_z node is)) h in absurd (omega (arith, c.1))
above (suc (suc (suc (suc k)))) j node is h = cc

abbrev pub net : Blif
net = record {
  model = codes "array";
  clock = Some (codes "clk");
  inputs = codes "m0" ∷ [];
  latches = latch_q ∷ [];
  nodes = node_0 ∷ node_one ∷ node_y ∷ node_z ∷ [];
  outputs = 1 ∷ 4 ∷ 5 ∷ [];
  valid = refl;
  acyclic = ∣ record { levels = 0 ∷ 0 ∷ 1 ∷ 0 ∷ []; above = above } ∣₁;
}

-- its one pair has module 2 as its slave, and takes the constant one
slave_is : (edge : Edge) (takes : Source) (m s : ℕ) → IsPair circuit edge takes m s → s ≡ 2
slave_is rising takes m zero p = let e = p.slave in cc
slave_is rising takes m (suc zero) p = let e = p.slave in cc
slave_is rising takes m (suc (suc zero)) p = refl
slave_is rising takes m (suc (suc (suc s))) p = let e = p.slave in cc

takes_is : (edge : Edge) (takes : Source) (m s : ℕ) → IsPair circuit edge takes m s → One ≡ takes
takes_is rising takes zero s p = let e = p.«master» in cc
takes_is rising takes (suc zero) s p = let e = p.«master» in cc
takes_is rising takes (suc (suc zero)) s p =
    let e = subst (λ (k : ℕ). slice_get circuit.modules k ≡ Some (Module k ∷ Zero ∷ Zero ∷ Module 2 ∷ Zero ∷ Zero ∷ Clock ∷ Zero ∷ [])) (slave_is rising takes 2 s p) p.slave in
    cc
takes_is rising takes (suc (suc (suc m))) s p = let e = p.«master» in cc

one_node : IsNodeAt net 1 [] (λ ys. true)
one_node = record { node = node_one; there = refl; inputs_are = refl; function = record { output = refl; rows = refl } }

zero_node : IsNodeAt net 3 [] (λ ys. false)
zero_node = record { node = node_z; there = refl; inputs_are = refl; function = record { output = refl; rows = refl } }

-- what the netlist computes
pub is_net : IsArrayNet circuit net
is_net = record {
  clock = refl;
  inputs = refl;
  latch_count = refl;
  latches = λ edge takes m s j start p at here. latches takes s j start (takes_is edge takes m s p) (slave_is edge takes m s p) at;
  nodes = nodes;
  output_names = refl;
  outputs = (inl refl, (inr (2, 2, refl, record { node = node_y; there = refl; inputs_are = refl; function = record { output = refl; rows = refl } }, refl), (inl (3, refl, zero_node), tt)));
}
  where
    latch : (takes : Source) (s : ℕ) (start : Start) → One ≡ takes → s ≡ 2 → start_q ≡ start → (found : Latch) × (slice_get net.latches (count_below (is_slave circuit) s) ≡ Some found) × IsArrayLatch circuit net takes found start
    latch takes s start t e is =
        subst (λ (u : Source). (found : Latch) × (slice_get net.latches (count_below (is_slave circuit) s) ≡ Some found) × IsArrayLatch circuit net u found start) t
        (subst (λ (k : ℕ). (found : Latch) × (slice_get net.latches (count_below (is_slave circuit) k) ≡ Some found) × IsArrayLatch circuit net One found start) (sym e)
        (subst (λ (u : Start). (found : Latch) × (slice_get net.latches (count_below (is_slave circuit) 2) ≡ Some found) × IsArrayLatch circuit net One found u) is
        (latch_q, refl, record { name = refl; init = refl; takes = (1, refl, one_node) })))

    latches : (takes : Source) (s j : ℕ) (start : Start) → One ≡ takes → s ≡ 2 → slice_get circuit.starts j ≡ Some start
        → (found : Latch) × (slice_get net.latches (count_below (is_slave circuit) s) ≡ Some found) × IsArrayLatch circuit net takes found start
    latches takes s zero start t e at = latch takes s start t e (some start_q start at)
    latches takes s (suc j) start t e at = cc

    nodes : (m : ℕ) → m < 3 → has_clock circuit m ≡ false → IsNodeAt net (count_below (is_outside circuit) m) (map (signal_of circuit) (different (pins_of circuit m))) (module_in (pins_of circuit m))
    nodes zero low e = record { node = node_0; there = refl; inputs_are = refl; function = record { output = refl; rows = refl } }
    nodes (suc zero) low e = cc
    nodes (suc (suc zero)) low e = cc
    nodes (suc (suc (suc m))) low e = absurd (omega arith)

pins : (k pin : ℕ) → pin_of circuit k pin ≡ Module 1 → (k ≡ 1) ⊎ (k ≡ 2)
pins zero pin e =
    absurd (no_pin (One ∷ Zero ∷ Zero ∷ Zero ∷ Zero ∷ Zero ∷ Input 0 ∷ Zero ∷ []) 1 ((λ f. cc), ((λ f. cc), ((λ f. cc), ((λ f. cc), ((λ f. cc), ((λ f. cc), ((λ f. cc), ((λ f. cc), tt)))))))) pin e)
pins (suc zero) pin e = inl refl
pins (suc (suc zero)) pin e = inr refl
pins (suc (suc (suc k))) pin e = cc

pair : IsPair circuit rising One 1 2
pair = record {
  apart = λ e. omega arith;
  no_clock = λ e. cc;
  no_own = λ e. cc;
  «master» = refl;
  «slave» = refl;
  pins = pins;
  outputs = All-from_recursion (λ (o : Output). o.source ≢ Module 1) circuit.outputs ((λ e. cc), ((λ e. cc), ((λ e. cc), tt)));
}

-- how its nodes are named: the module's is `m1`, since an input is `m0`, and that of the constant `m2`
pub has_names : HasArrayNames circuit net
unfolding digits
has_names = record {
  model = refl;
  constants = true ∷ [];
  in_order = inr (inr (inl refl));
  taken = taken;
  modules = modules;
  constant_nodes = constant_nodes;
  constant_names = constant_names;
  constant_latches = λ edge v m s i latch p at there. constant_latches s i latch (slave_is edge (constant_source v) m s p) at there;
  outputs = outputs;
  output_names = output_names;
  count = refl;
}
  where
    taken : (v : Bool) → Contains (true ∷ []) v ↔ Takes circuit (constant_source v)
    taken true = ((λ c. (rising, 1, 2, pair)), (λ t. (0, omega arith, refl)))
    taken false = ((λ c. none (All-contains (λ b. b ≡ true) (true ∷ []) false (All-from_recursion (λ b. b ≡ true) (true ∷ []) (refl, tt)) c)), (λ t. let e = takes_is t.0 Zero t.1 t.2 t.3 in cc))
      where
        none : false ≡ true → Takes circuit Zero
        none e = cc

    modules : (m : ℕ) (node : Node) → m < 3 → has_clock circuit m ≡ false → slice_get net.nodes (count_below (is_outside circuit) m) ≡ Some node → IsFreeName circuit (count_below (is_outside circuit) m) node.name
    modules zero node low e at = subst (λ (n : Node). IsFreeName circuit 0 n.name) (some node_0 node at) (record { number = 1; free = refl; before = refl; is = refl })
    modules (suc zero) node low e at = cc
    modules (suc (suc zero)) node low e at = cc
    modules (suc (suc (suc m))) node low e at = absurd (omega arith)

    constant_nodes : (i : ℕ) (v : Bool) → slice_get (true ∷ []) i ≡ Some v → IsNodeAt net (outside_count circuit + i) [] (λ ys. v)
    constant_nodes zero v at = subst (λ (b : Bool). IsNodeAt net 1 [] (λ ys. b)) (some true v at) one_node
    constant_nodes (suc i) v at = cc

    constant_names : (i : ℕ) (node : Node) → i < 1 → slice_get net.nodes (outside_count circuit + i) ≡ Some node → IsFreeName circuit (outside_count circuit + i) node.name
    constant_names zero node low at = subst (λ (n : Node). IsFreeName circuit 1 n.name) (some node_one node at) (record { number = 2; free = refl; before = refl; is = refl })
    constant_names (suc i) node low at = absurd (omega arith)

    constant_latches : (s i : ℕ) {v : Bool} (latch : Latch) → s ≡ 2 → slice_get (true ∷ []) i ≡ Some v → slice_get net.latches (count_below (is_slave circuit) s) ≡ Some latch → latch.input ≡ first_node circuit + outside_count circuit + i
    constant_latches s zero latch e at there =
        let here : slice_get net.latches 0 ≡ Some latch = subst (λ (k : ℕ). slice_get net.latches (count_below (is_slave circuit) k) ≡ Some latch) e there in
        subst (λ (l : Latch). l.input ≡ 3) (some latch_q latch here) refl
    constant_latches s (suc i) latch e at there = cc

    outputs : (i : ℕ) (o : Output) → slice_get circuit.outputs i ≡ Some o → is_own_signal circuit o ≡ false → IsOutputNode circuit net (outside_count circuit + 1 + output_nodes circuit (take i circuit.outputs)) o.source
    outputs zero o at own = let e = subst (λ (u : Output). is_own_signal circuit u ≡ false) (sym (some out_q o at)) own in cc
    outputs (suc zero) o at own =
        subst (λ (u : Output). IsOutputNode circuit net 2 u.source) (some out_y o at) (record { node = node_y; there = refl; inputs_are = refl; function = record { output = refl; rows = refl } })
    outputs (suc (suc zero)) o at own = subst (λ (u : Output). IsOutputNode circuit net 3 u.source) (some out_z o at) zero_node
    outputs (suc (suc (suc i))) o at own = cc

    output_names : (i : ℕ) (o : Output) (node : Node) → slice_get circuit.outputs i ≡ Some o → is_own_signal circuit o ≡ false
        → slice_get net.nodes (outside_count circuit + 1 + output_nodes circuit (take i circuit.outputs)) ≡ Some node → node.name ≡ o.name
    output_names zero o node at own there = let e = subst (λ (u : Output). is_own_signal circuit u ≡ false) (sym (some out_q o at)) own in cc
    output_names (suc zero) o node at own there = subst (λ (n : Node). n.name ≡ o.name) (some node_y node there) (subst (λ (u : Output). node_y.name ≡ u.name) (some out_y o at) refl)
    output_names (suc (suc zero)) o node at own there = subst (λ (n : Node). n.name ≡ o.name) (some node_z node there) (subst (λ (u : Output). node_z.name ≡ u.name) (some out_z o at) refl)
    output_names (suc (suc (suc i))) o node at own there = cc

-- an inverter whose output has the name of the input
abbrev pub clashing : Circuit
clashing = record {
  clock = None;
  inputs = codes "a" ∷ [];
  modules = (One ∷ Zero ∷ Zero ∷ Zero ∷ Zero ∷ Zero ∷ Input 0 ∷ Zero ∷ []) ∷ [];
  outputs = record { name = codes "a"; source = Module 0 } ∷ [];
  starts = [];
}

pub is_clash : IsFirstClash clashing 0
is_clash = record {
  clash = record { output = record { name = codes "a"; source = Module 0 }; there = refl; named = (0, omega arith, refl); other = refl };
  first = λ j low h. absurd (omega arith);
}
