-- The signal of each output of the netlist that is put together has the output's name, and so outputs have different signals.
use Rattle.std.proofs.Common.{ℕ, suc, zero, ◌≡◌, ◌≢◌, ◌<◌, ◌≤◌, ◌+◌, ◌⊎◌, ◌&&◌, ◌||◌, not, Bool, true, false, List, [], ◌∷◌, ◌++◌, length, map, Some, refl, sym, ap, subst, ◌∙◌, inl, inr, arith}
use Rattle.std.specs.Prelude.{slice_get, slice_index_or, if◌then◌else◌, ◌==◌}
use Rattle.std.specs.List.{list_any}
use Rattle.std.specs.Str.{bytes_eq}
use Rattle.std.proofs.lemmas.Bool.{false≢true}
use Rattle.std.proofs.lemmas.List.{length-append, length-map}
use Rattle.std.proofs.lemmas.Option.{get_or_from_slice_get}
use Rattle.std.proofs.lemmas.Slice.Eq.{bytes_eq-Decides}
use Rattle.act1_base.proofs.ListGets.{get_in, get_map, get_within}
use Rattle.act1_base.specs.Names.{are_different_numbers}
use Rattle.act1_blif.specs.declared.blif.Latch.{Latch}
use Rattle.act1_blif.specs.declared.blif.Node.{Node}
use Rattle.act1_blif.specs.Rules.{names_of}
use Rattle.act1_circuit.specs.declared.circuit.Circuit.{Circuit}
use Rattle.act1_circuit.specs.declared.circuit.Output.{Output}
use Rattle.act1_circuit.specs.declared.circuit.Start.{Start}
use Rattle.act1_circuit.specs.declared.circuit.Source.{Source}
use Rattle.act1_circuit.specs.declared.circuit.Source.TheVariants.{Zero, One, Clock, Input, Module}
use Rattle.act1_circuit.specs.PairForm.{has_clock}
use Rattle.act1_circuit.specs.Range.{HasSource}
use Rattle.act1_meaning.specs.Extracted.{count_below, first_node, is_slave, signal_of}
use Rattle.act1_meaning.specs.ArrayNames.{has_name, is_own_signal, outside_count}
use Rattle.act1_extract.specs.declared.plan.Layout.{Layout}
use Rattle.act1_extract.specs.Layout.{IsLayout, found_signal, latch_of}
use Rattle.act1_extract.specs.Net.{AreNodes, IsExtractable, output_names}
use Rattle.act1_extract.specs.Picked.{IsOutNode, has_node, no_output, output_signals}
use Rattle.act1_extract.proofs.NetOutputs.{source_there, test_at}
use Rattle.act1_extract.proofs.NodeParts.{one, output_there}
use Rattle.act1_extract.proofs.Picks.{counted, skipped}
use Rattle.act1_extract.proofs.Signals.{clocked_signal, found_is}
use Rattle.act1_extract.proofs.Slaves.{clock_there, slave_here, start_count, start_rank}
use Rattle.act1_extract.proofs.Stops.{any_at, halves}
use Rattle.act1_extract.proofs.Tests.{different_numbers_by, equals, from_pairs, get_behind, get_front}

pub out_name : (signals : List ℕ) (s : Source) (name : List ℕ) (node : Node) → s ≢ Clock → IsOutNode signals name s node → node.name ≡ name
out_name signals Zero name node none is = is.named
out_name signals One name node none is = is.named
out_name signals Clock name node none is = absurd (none refl)
out_name signals (Input i) name node none is = is.named
out_name signals (Module m) name node none is = is.named

module _ (c : Circuit) (ok : IsExtractable c) (l : Layout) (layout : IsLayout c l) (names inputs : List (List ℕ)) (latches : List Latch) (nodes : List Node) (e : inputs ≡ c.inputs)
    (f : latches ≡ map (latch_of c l) c.starts) (p : AreNodes c l names nodes) where
  abbrev latch_name : Latch → List ℕ
  latch_name latch = latch.name

  abbrev node_name : Node → List ℕ
  node_name node = node.name

  abbrev output_name : Output → List ℕ
  output_name o = o.name

  -- the name of a signal
  abbrev pub name_at : ℕ → List ℕ
  name_at k = slice_index_or (names_of inputs latches nodes) k []

  nodes_at : length (inputs ++ map latch_name latches) ≡ first_node c
  nodes_at =
      let x = ap length e in
      let y = ap length f ∙ length-map c.starts (latch_of c l) ∙ start_count c ok.rules.range ok.form ok.rules.rise in
      omega (arith, length-append inputs (map latch_name latches), length-map latches latch_name)

  named_input : (i : ℕ) (name : List ℕ) → slice_get c.inputs i ≡ Some name → name_at i ≡ name
  named_input i name h =
      get_or_from_slice_get (inputs ++ map latch_name latches ++ map node_name nodes) i name []
      (get_front (inputs ++ map latch_name latches) (map node_name nodes) i name (get_front inputs (map latch_name latches) i name (ap (λ (ns : List (List ℕ)). slice_get ns i) e ∙ h)))

  named_latch : (j k : ℕ) (start : Start) → slice_get c.starts j ≡ Some start → k ≡ length c.inputs + j → name_at k ≡ start.name
  named_latch j k start h at =
      let x = ap length e in
      let here = ap (λ (ls : List Latch). slice_get ls j) f ∙ get_map (latch_of c l) c.starts j start h in
      get_or_from_slice_get (inputs ++ map latch_name latches ++ map node_name nodes) k start.name []
      (get_front (inputs ++ map latch_name latches) (map node_name nodes) k start.name
      (get_behind inputs (map latch_name latches) k j start.name (get_map latch_name latches j (latch_of c l start) here) (omega arith)))

  named_node : (j k : ℕ) (node : Node) → slice_get nodes j ≡ Some node → k ≡ first_node c + j → name_at k ≡ node.name
  named_node j k node h at =
      let x = nodes_at in
      get_or_from_slice_get (inputs ++ map latch_name latches ++ map node_name nodes) k node.name []
      (get_behind (inputs ++ map latch_name latches) (map node_name nodes) k j node.name (get_map node_name nodes j node h) (omega arith))

  own_name : (o : Output) → HasSource c o.source → is_own_signal c o ≡ true → name_at (found_signal l.signals o.source) ≡ o.name
  own_name o has own = by o.source has own
    where
      by : (s : Source) → HasSource c s → has_name c o.name s ≡ true → name_at (found_signal l.signals s) ≡ o.name
      by Zero has h = absurd (false≢true h)
      by One has h = absurd (false≢true h)
      by Clock has h = absurd (false≢true h)
      by (Input i) has h =
          let at = get_in c.inputs i has in
          named_input i at.0 at.1 ∙ sym (get_or_from_slice_get c.inputs i at.0 [] at.1) ∙ (bytes_eq-Decides (slice_index_or c.inputs i []) o.name).0 h
      by (Module m) has h =
          let r = any_at c (λ (s : Start). s.module == m && bytes_eq s.name o.name) c.starts h in
          let both = halves (r.1.module == m) (bytes_eq r.1.name o.name) r.3 in
          let here : r.1.module ≡ m = equals r.1.module m both.0 in
          let slave = slave_here c ok.rules.range ok.form r.1.module (ok.form.pairs r.0 r.1 r.2) in
          let clock = clock_there c ok.rules.range ok.form r.1.module slave in
          let rank = start_rank c ok.rules.range ok.form ok.rules.rise r.0 r.1 r.2 in
          let count : count_below (is_slave c) m ≡ r.0 = ap (count_below (is_slave c)) (sym here) ∙ rank in
          let found = ap (λ (ns : List ℕ). found_signal ns (Module m)) layout.signals ∙ found_is c (Module m) has in
          let at = clocked_signal c m (ap (has_clock c) (sym here) ∙ clock) in
          named_latch r.0 (found_signal l.signals (Module m)) r.1 r.2 (omega arith) ∙ (bytes_eq-Decides r.1.name o.name).0 both.1

  abbrev base : ℕ
  base = outside_count c + one l.has_zero + one l.has_one

  all_names : (i next : ℕ) (os : List Output) → ((k : ℕ) (o : Output) → slice_get os k ≡ Some o → slice_get c.outputs (i + k) ≡ Some o) → next ≡ first_node c + (base + count_below (has_node c) i)
      → map output_name os ≡ map name_at (output_signals c l.signals next os)
  all_names i next [] there at = refl
  all_names i next (o ∷ os) there at = by (λ n r h. all_names (suc i) n os r h) (is_own_signal c o) refl
    where
      here : slice_get c.outputs i ≡ Some o
      here = let z : i ≡ i + 0 = omega arith in ap (λ (k : ℕ). slice_get c.outputs k) z ∙ there 0 o refl

      rest : (k : ℕ) (u : Output) → slice_get os k ≡ Some u → slice_get c.outputs (suc i + k) ≡ Some u
      rest k u h = let z : suc i + k ≡ i + suc k = omega arith in ap (λ (j : ℕ). slice_get c.outputs j) z ∙ there (suc k) u h

      joined : (x y : List ℕ) (xs ys : List (List ℕ)) → x ≡ y → xs ≡ ys → x ∷ xs ≡ y ∷ ys
      joined x y xs ys a b = λ i. a i ∷ b i

      by : ((n : ℕ) → ((k : ℕ) (u : Output) → slice_get os k ≡ Some u → slice_get c.outputs (suc i + k) ≡ Some u) → n ≡ first_node c + (base + count_below (has_node c) (suc i))
          → map output_name os ≡ map name_at (output_signals c l.signals n os)) → (t : Bool) → is_own_signal c o ≡ t
          → map output_name (o ∷ os) ≡ map name_at (if t then found_signal l.signals o.source ∷ output_signals c l.signals next os else next ∷ output_signals c l.signals (next + 1) os)
      by again true h =
          let same = skipped (has_node c) i (test_at c i o true here h) in
          joined o.name (name_at (found_signal l.signals o.source)) (map output_name os) (map name_at (output_signals c l.signals next os))
          (sym (own_name o (source_there c ok i o here).0 h)) (again next rest (omega arith))
      by again false h =
          let test = test_at c i o false here h in
          let more = counted (has_node c) i test in
          let r = output_there c l names nodes p i (get_within c.outputs i o here) test in
          let node = subst (λ (u : Output). IsOutNode l.signals u.name u.source r.0) (get_or_from_slice_get c.outputs i o no_output here) r.2 in
          joined o.name (name_at next) (map output_name os) (map name_at (output_signals c l.signals (next + 1) os))
          (sym (named_node (base + count_below (has_node c) i) next r.0 r.1 at ∙ out_name l.signals o.source o.name r.0 (source_there c ok i o here).1 node)) (again (next + 1) rest (omega arith))

  pub outputs_named : (outputs : List ℕ) → outputs ≡ output_signals c l.signals l.outputs_at c.outputs → map output_name c.outputs ≡ map name_at outputs
  outputs_named outputs is =
      let x = layout.outputs_at in
      let y = layout.one_at in
      let z = layout.zero_at in
      all_names 0 l.outputs_at c.outputs (λ k o h. let w : 0 + k ≡ k = omega arith in ap (λ (j : ℕ). slice_get c.outputs j) w ∙ h) (omega arith)
      ∙ ap (map name_at) (sym is)

  pub outputs_differ : (outputs : List ℕ) → outputs ≡ output_signals c l.signals l.outputs_at c.outputs → are_different_numbers outputs ≡ true
  outputs_differ outputs is = different_numbers_by outputs apart
    where
      named : (i s : ℕ) → slice_get outputs i ≡ Some s → slice_get (output_names c) i ≡ Some (name_at s)
      named i s h = ap (λ (ns : List (List ℕ)). slice_get ns i) (outputs_named outputs is) ∙ get_map name_at outputs i s h

      apart : (i j s t : ℕ) → slice_get outputs i ≡ Some s → slice_get outputs j ≡ Some t → i < j → s ≢ t
      apart i j s t g h low same =
          from_pairs (λ (a b : List ℕ). a ≢ b) (output_names c) ok.rules.names.outputs i j (name_at s) (name_at t) (named i s g) (named j t h) low (ap name_at same)
