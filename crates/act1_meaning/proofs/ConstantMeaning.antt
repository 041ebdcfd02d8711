-- A circuit without modules means its netlist of constants.
use Rattle.std.proofs.Common.{ℕ, ◌≡◌, ◌⊎◌, ◌<◌, Bool, true, false, Some, slice_get, List, [], ◌∷◌, length, map, refl, sym, ap, ◌∙◌, inl, inr, arith}
use Rattle.std.specs.List.{AllByRecursion}
use Rattle.std.proofs.lemmas.List.{nil_from_length, length-map}
use Rattle.std.proofs.lemmas.List.Elements.{recursion_from_All, All-weaker}
use Rattle.act1_circuit.specs.declared.circuit.Circuit.{Circuit}
use Rattle.act1_circuit.specs.declared.circuit.Output.{Output}
use Rattle.act1_circuit.specs.declared.circuit.Source.{Source}
use Rattle.act1_circuit.specs.declared.circuit.Source.TheVariants.{Zero, One}
use Rattle.act1_circuit.specs.declared.circuit.Start.{Start}
use Rattle.act1_circuit.specs.Firing.{Waves, source_value, run, low_bits, high_bits, IsAtRest, RestsAlong}
use Rattle.act1_circuit.specs.Range.{HasSource, InRange}
use Rattle.act1_meaning.specs.Meaning.{Means, StartsLatch}
use Rattle.act1_meaning.specs.Constant.{IsConstantCircuit}
use Rattle.act1_meaning.specs.Laws.{ConstantsMean}
use Rattle.act1_blif.specs.declared.blif.Blif.{Blif}
use Rattle.act1_blif.specs.declared.blif.Node.{Node}
use Rattle.act1_blif.specs.declared.blif.Latch.{Latch}
use Rattle.act1_blif.specs.Laws.{PortsAreFew}
use Rattle.act1_blif.specs.Names.{signal_name}
use Rattle.act1_blif.specs.Run.{Fits, Shows, signal, signals, node_value, next_state}
use Rattle.act1_logic.specs.Cover.{value_of}

-- a node without inputs has one value
one_value : (v w : List Bool) (node : Node) → node.inputs ≡ [] → node_value v node ≡ node_value w node
one_value v w node none = ap (λ (ss : List ℕ). value_of node.cover (signals v ss)) none ∙ sym (ap (λ (ss : List ℕ). value_of node.cover (signals w ss)) none)

one_values : (v w : List Bool) (nodes : List Node) → AllByRecursion (λ (node : Node). node.inputs ≡ []) nodes → map (node_value v) nodes ≡ map (node_value w) nodes
one_values v w [] h = refl
one_values v w (node ∷ nodes) h = rw (one_value v w node h.0, one_values v w nodes h.1) refl

-- a constant has one value
source_same : (clock : Bool) (x bits : List Bool) (s : Source) → (s ≡ Zero) ⊎ (s ≡ One) → source_value clock x bits s ≡ source_value false [] [] s
source_same clock x bits s (inl e) = rw e refl
source_same clock x bits s (inr e) = rw e refl

shown_same : (x bits : List Bool) (os : List Output) → AllByRecursion (λ (o : Output). (o.source ≡ Zero) ⊎ (o.source ≡ One)) os
    → map (λ (o : Output). source_value false x bits o.source) os ≡ map (λ (o : Output). source_value false [] [] o.source) os
shown_same x bits [] h = refl
shown_same x bits (o ∷ os) h = rw (source_same false x bits o.source h.0, shown_same x bits os h.1) refl

module _ (ports : PortsAreFew) (c : Circuit) (b : Blif) (h : IsConstantCircuit c b) where
  abbrev valuation : List Bool
  valuation = map (node_value []) b.nodes

  shows_all : (q bits : List Bool) (xs : List (List Bool)) (ws : List Waves) → q ≡ [] → AllByRecursion (λ x. length x ≡ length c.inputs) xs → length ws ≡ length xs → Shows b q xs (run c bits xs ws)
  shows_all q bits [] ws none vectors long = tt
  shows_all q bits (x ∷ xs) [] none vectors long = absurd (omega arith)
  shows_all q bits (x ∷ xs) (w ∷ ws) none vectors long =
      let inputs : length c.inputs ≡ 0 = ap length (h.ports.inputs ∙ h.inputs) in
      let no_x : x ≡ [] = nil_from_length x (vectors.0 ∙ inputs) in
      let fits : Fits b q x valuation = record {
        inputs = vectors.0 ∙ ap length h.ports.inputs;
        latches = ap length none ∙ sym (ap length h.latches);
        values = rw (no_x, none) (one_values [] valuation b.nodes (recursion_from_All _ b.nodes h.nodes));
      } in
      (valuation, fits, shown_same x (low_bits c bits x w) c.outputs (recursion_from_All _ c.outputs h.sources) ∙ h.values, shows_all (next_state b valuation) (high_bits c bits x w) xs ws (ap (map (λ (l : Latch). signal valuation l.input)) h.latches) vectors.1 (let l = long in omega arith))

  rests_all : (bits : List Bool) (xs : List (List Bool)) (ws : List Waves) → RestsAlong c bits xs ws
  rests_all bits [] ws = tt
  rests_all bits (x ∷ xs) [] = tt
  rests_all bits (x ∷ xs) (w ∷ ws) = (none false (low_bits c bits x w), none true (high_bits c bits x w), rests_all (high_bits c bits x w) xs ws)
    where
      none : (clock : Bool) (now : List Bool) → IsAtRest c clock x now
      none clock now = λ m within. let empty : length c.modules ≡ 0 = ap length h.modules in absurd (omega arith)

  -- there are no modules, and no starts, since there are no latches
  no_start : (start : Start) → ((k : ℕ) × (latch : Latch) × StartsLatch b start k latch) → start.module < length c.modules
  no_start start (k, latch, is) =
      let none : slice_get [] k ≡ Some latch = ap (λ (ls : List Latch). slice_get ls k) (sym h.latches) ∙ is.is in
      cc

  constant_is_there : (o : Output) → (o.source ≡ Zero) ⊎ (o.source ≡ One) → HasSource c o.source
  constant_is_there o (inl e) = rw e tt
  constant_is_there o (inr e) = rw e tt

  in_range : InRange c
  in_range =
      let few = ports b in
      let inputs : length c.inputs ≡ length b.inputs = ap (λ (names : List (List ℕ)). length names) h.ports.inputs in
      let outputs : length c.outputs ≡ length b.outputs = sym (length-map c.outputs (λ (o : Output). o.name)) ∙ ap (λ (names : List (List ℕ)). length names) h.ports.outputs ∙ length-map b.outputs (signal_name b) in
      let modules : length c.modules ≡ 0 = ap (λ (ms : List (List Source)). length ms) h.modules in
      record {
        pins = λ k d low. absurd (omega arith);
        outputs = All-weaker (λ (o : Output). (o.source ≡ Zero) ⊎ (o.source ≡ One)) (λ (o : Output). HasSource c o.source) constant_is_there c.outputs h.sources;
        starts = All-weaker (λ (start : Start). (k : ℕ) × (latch : Latch) × StartsLatch b start k latch) (λ (start : Start). start.module < length c.modules) no_start c.starts h.ports.starts;
        few_inputs = omega arith;
        few_outputs = omega arith;
        few_modules = omega arith;
      }

  means : Means c b
  means = record {
    in_range = in_range;
    ports = h.ports;
    shows = λ q bits xs ws k. shows_all q bits xs ws (nil_from_length q (k.state.one_each ∙ ap length h.latches)) (recursion_from_All _ xs k.vectors) k.waves.count;
    rests = λ q bits xs ws k. rests_all bits xs ws;
  }

pub constants_mean : PortsAreFew → ConstantsMean
constants_mean ports c b h = means ports c b h
