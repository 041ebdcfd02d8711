-- The netlist of an extractable circuit, put together from its parts, is what the circuit is extracted to.
use Rattle.std.proofs.Common.{ℕ, suc, zero, ◌≡◌, ◌≢◌, ◌<◌, ◌≤◌, ◌+◌, ◌^◌, ◌⊎◌, not, Bool, true, false, List, [], ◌∷◌, ◌++◌, length, map, take, Some, Option, refl, sym, ap, subst, ◌∙◌, inl, inr, arith}
use Rattle.std.specs.Prelude.{All, Contains, slice_get, slice_index_or, if◌then◌else◌}
use Rattle.std.specs.List.{AllZip}
use Rattle.std.proofs.lemmas.Bool.{cases_lt, false≢true}
use Rattle.std.proofs.lemmas.List.{length-map}
use Rattle.std.proofs.lemmas.Option.{get_or_from_slice_get, slice_get-get_or}
use Rattle.act1_base.proofs.ListGets.{get_in, get_map, get_within, some_is}
use Rattle.act1_blif.specs.declared.blif.Blif.{Blif}
use Rattle.act1_blif.specs.declared.blif.Latch.{Latch}
use Rattle.act1_blif.specs.declared.blif.Node.{Node}
use Rattle.act1_circuit.specs.declared.circuit.Circuit.{Circuit}
use Rattle.act1_circuit.specs.declared.circuit.Output.{Output}
use Rattle.act1_circuit.specs.declared.circuit.Start.{Start}
use Rattle.act1_circuit.specs.declared.circuit.Source.{Source}
use Rattle.act1_circuit.specs.declared.circuit.Source.TheVariants.{Zero, One, Clock, Input, Module}
use Rattle.act1_circuit.specs.PairForm.{Edge, rising, IsPair, has_clock, pins_of, start_module}
use Rattle.act1_circuit.specs.Range.{HasSource}
use Rattle.act1_circuit.proofs.PairFacts.{takes_has}
use Rattle.act1_meaning.specs.Extracted.{IsArrayLatch, IsNodeAt, IsSignalOf, Takes, count_below, different, first_bit, first_node, is_outside, is_slave, module_in, signal_of}
use Rattle.act1_meaning.specs.ArrayNames.{outside_count}
use Rattle.act1_extract.specs.declared.plan.Layout.{Layout}
use Rattle.act1_extract.specs.Layout.{IsLayout, found_signal, has_taken, latch_of, start_takes, taken_signal}
use Rattle.act1_extract.specs.Net.{AreNodes, IsExtractable}
use Rattle.act1_extract.specs.Parts.{constant_of, free_names, module_signals}
use Rattle.act1_extract.specs.Picked.{IsModuleNode, IsNode}
use Rattle.act1_extract.proofs.NodeParts.{module_there, one, one_there, zero_there}
use Rattle.act1_extract.proofs.Signals.{found_inputs, found_is}
use Rattle.act1_extract.proofs.Slaves.{start_count, start_rank, takes_is, takes_taken}

-- the parts of the netlist are the circuit's
pub record ArePartsOf (c : Circuit) (l : Layout) (names : List (List ℕ)) (b : Blif) : Type 0 where
  pub ok : IsExtractable c
  pub layout : IsLayout c l
  pub nodes : AreNodes c l names b.nodes
  pub clock : b.clock ≡ c.clock
  pub inputs : b.inputs ≡ c.inputs
  pub latches : b.latches ≡ map (latch_of c l) c.starts

pub node_is : (name : List ℕ) (ins : List ℕ) (f : List Bool → Bool) (b : Blif) (j : ℕ) (node : Node) → slice_get b.nodes j ≡ Some node → IsNode name ins f node → IsNodeAt b j ins f
node_is name ins f b j node e h = record { node = node; there = e; inputs_are = h.inputs_are; function = h.function }

module _ (c : Circuit) (l : Layout) (names : List (List ℕ)) (b : Blif) (p : ArePartsOf c l names b) where
  pub signals_are : (s : Source) → HasSource c s → found_signal l.signals s ≡ signal_of c s
  signals_are s h = ap (λ (ns : List ℕ). found_signal ns s) p.layout.signals ∙ found_is c s h

  pub latch_count : length b.latches ≡ count_below (is_slave c) (length c.modules)
  latch_count = ap length p.latches ∙ length-map c.starts (latch_of c l) ∙ start_count c p.ok.rules.range p.ok.form p.ok.rules.rise

  pub nodes_are : (m : ℕ) → m < length c.modules → has_clock c m ≡ false → IsNodeAt b (count_below (is_outside c) m) (map (signal_of c) (different (pins_of c m))) (module_in (pins_of c m))
  nodes_are m low none =
      let r = module_there c l names b.nodes p.nodes m low none in
      let ins = ap (λ (ns : List ℕ). map (found_signal ns) (different (pins_of c m))) p.layout.signals ∙ found_inputs c p.ok.rules.range m low in
      subst (λ (is : List ℕ). IsNodeAt b (count_below (is_outside c) m) is (module_in (pins_of c m))) ins
      (node_is _ (map (found_signal l.signals) (different (pins_of c m))) (module_in (pins_of c m)) b (count_below (is_outside c) m) r.0 r.1 r.2)

  zero_node : Takes c Zero → IsNodeAt b (outside_count c) [] (λ ys. false)
  zero_node h = let r = zero_there c l names b.nodes p.nodes (p.layout.has_zero ∙ takes_taken c p.ok.rules.range p.ok.form Zero h) in node_is _ [] (constant_of false) b (outside_count c) r.0 r.1 r.2

  one_node : Takes c One → IsNodeAt b (outside_count c + one l.has_zero) [] (λ ys. true)
  one_node h = let r = one_there c l names b.nodes p.nodes (p.layout.has_one ∙ takes_taken c p.ok.rules.range p.ok.form One h) in node_is _ [] (constant_of true) b (outside_count c + one l.has_zero) r.0 r.1 r.2

  taken_is : (edge : Edge) (takes : Source) (m s : ℕ) → IsPair c edge takes m s → IsSignalOf c b takes (taken_signal l takes)
  taken_is edge Zero m s q = (outside_count c, p.layout.zero_at, zero_node (edge, m, s, q))
  taken_is edge One m s q =
      let a = p.layout.one_at in
      let z = p.layout.zero_at in
      (outside_count c + one l.has_zero, omega arith, one_node (edge, m, s, q))
  taken_is edge Clock m s q = absurd (q.no_clock refl)
  taken_is edge (Input i) m s q = refl
  taken_is edge (Module k) m s q = signals_are (Module k) (takes_has c p.ok.rules.range edge (Module k) m s q)

  pub latches_are : (edge : Edge) (takes : Source) (m s j : ℕ) (start : Start) → IsPair c edge takes m s → slice_get c.starts j ≡ Some start → start.module ≡ start_module edge m s
      → (latch : Latch) × (slice_get b.latches (count_below (is_slave c) s) ≡ Some latch) × IsArrayLatch c b takes latch start
  latches_are rising takes m s j start q there here =
      let rank = start_rank c p.ok.rules.range p.ok.form p.ok.rules.rise j start there in
      let place : count_below (is_slave c) s ≡ j = ap (count_below (is_slave c)) (sym here) ∙ rank in
      let own : taken_signal l (start_takes c start) ≡ taken_signal l takes = ap (taken_signal l) (takes_is c p.ok.rules.range p.ok.form rising takes m s start q here) in (
        latch_of c l start,
        ap (λ (k : ℕ). slice_get b.latches k) place ∙ ap (λ (ls : List Latch). slice_get ls j) p.latches ∙ get_map (latch_of c l) c.starts j start there,
        record { name = refl; init = refl; takes = subst (λ (k : ℕ). IsSignalOf c b takes k) (sym own) (taken_is rising takes m s q) },
      )
