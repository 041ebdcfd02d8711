-- The outputs of the netlist that is put together: each has a signal with the value of its source.
use Rattle.std.proofs.Common.{ℕ, suc, zero, ◌≡◌, ◌≢◌, ◌<◌, ◌≤◌, ◌+◌, ◌⊎◌, not, Bool, true, false, List, [], ◌∷◌, ◌++◌, length, map, Some, refl, sym, ap, subst, ◌∙◌, inl, inr, arith}
use Rattle.std.specs.Prelude.{All, slice_get, slice_index_or, if◌then◌else◌}
use Rattle.std.specs.List.{AllZip}
use Rattle.std.proofs.lemmas.Bool.{false≢true}
use Rattle.std.proofs.lemmas.Option.{get_or_from_slice_get}
use Rattle.act1_base.proofs.ListGets.{get_within}
use Rattle.act1_blif.specs.declared.blif.Blif.{Blif}
use Rattle.act1_blif.specs.declared.blif.Node.{Node}
use Rattle.act1_circuit.specs.declared.circuit.Circuit.{Circuit}
use Rattle.act1_circuit.specs.declared.circuit.Output.{Output}
use Rattle.act1_circuit.specs.declared.circuit.Source.{Source}
use Rattle.act1_circuit.specs.declared.circuit.Source.TheVariants.{Zero, One, Clock, Input, Module}
use Rattle.act1_circuit.specs.Range.{HasSource}
use Rattle.act1_meaning.specs.Extracted.{IsNodeAt, IsOutputSignal, count_below, first_bit, first_node, signal_of}
use Rattle.act1_meaning.specs.ArrayNames.{has_name, is_own_signal, outside_count}
use Rattle.act1_extract.specs.declared.plan.Layout.{Layout}
use Rattle.act1_extract.specs.Layout.{found_signal}
use Rattle.act1_extract.specs.Net.{IsExtractable}
use Rattle.act1_extract.specs.Parts.{constant_of}
use Rattle.act1_extract.specs.Picked.{IsNode, IsOutNode, IsOutputNode, has_node, no_output, output_signals}
use Rattle.act1_extract.proofs.Assembly.{ArePartsOf, node_is, signals_are}
use Rattle.act1_extract.proofs.NodeParts.{one, output_there}
use Rattle.act1_extract.proofs.Picks.{counted, skipped}

-- the source of an output is one of the circuit's, and not the clock
pub source_there : (c : Circuit) (ok : IsExtractable c) (i : ℕ) (o : Output) → slice_get c.outputs i ≡ Some o → (HasSource c o.source) × (o.source ≢ Clock)
source_there c ok i o e =
    let at = get_or_from_slice_get c.outputs i o o e in
    let low = get_within c.outputs i o e in
    (subst (λ (u : Output). HasSource c u.source) at (ok.rules.range.outputs i o low), subst (λ (u : Output). u.source ≢ Clock) at (ok.form.outputs i o low))

pub test_at : (c : Circuit) (i : ℕ) (o : Output) (t : Bool) → slice_get c.outputs i ≡ Some o → is_own_signal c o ≡ t → has_node c i ≡ not t
test_at c i o t e is = ap (λ (u : Output). not (is_own_signal c u)) (get_or_from_slice_get c.outputs i o no_output e) ∙ ap not is

module _ (c : Circuit) (l : Layout) (names : List (List ℕ)) (b : Blif) (p : ArePartsOf c l names b) where
  abbrev base : ℕ
  base = outside_count c + one l.has_zero + one l.has_one

  -- the source of an output with a node of its own
  made : (s : Source) (name : List ℕ) (j k : ℕ) (node : Node) → HasSource c s → s ≢ Clock → k ≡ first_node c + j → slice_get b.nodes j ≡ Some node → IsOutNode l.signals name s node → IsOutputSignal c b s k
  made Zero name j k node has none at there h = inl (j, at, node_is name [] (constant_of false) b j node there h)
  made One name j k node has none at there h = inl (j, at, node_is name [] (constant_of true) b j node there h)
  made Clock name j k node has none at there h = absurd (none refl)
  made (Input i) name j k node has none at there h = inr (j, i, at, node_is name (i ∷ []) first_bit b j node there h, refl)
  made (Module m) name j k node has none at there h =
      inr (j, found_signal l.signals (Module m), at, node_is name (found_signal l.signals (Module m) ∷ []) first_bit b j node there h, signals_are c l names b p (Module m) has)

  -- one whose source has its name
  own : (o : Output) → HasSource c o.source → is_own_signal c o ≡ true → IsOutputSignal c b o.source (found_signal l.signals o.source)
  own o has e = by o.source has e
    where
      by : (s : Source) → HasSource c s → has_name c o.name s ≡ true → IsOutputSignal c b s (found_signal l.signals s)
      by Zero has e = absurd (false≢true e)
      by One has e = absurd (false≢true e)
      by Clock has e = absurd (false≢true e)
      by (Input i) has e = inl refl
      by (Module m) has e = inl (signals_are c l names b p (Module m) has)

  all_outputs : (i next : ℕ) (os : List Output) → ((k : ℕ) (o : Output) → slice_get os k ≡ Some o → slice_get c.outputs (i + k) ≡ Some o) → next ≡ first_node c + (base + count_below (has_node c) i)
      → AllZip (λ (o : Output) (s : ℕ). IsOutputSignal c b o.source s) os (output_signals c l.signals next os)
  all_outputs i next [] there at = tt
  all_outputs i next (o ∷ os) there at = by (λ n r e. all_outputs (suc i) n os r e) (is_own_signal c o) refl
    where
      here : slice_get c.outputs i ≡ Some o
      here = let z : i ≡ i + 0 = omega arith in ap (λ (k : ℕ). slice_get c.outputs k) z ∙ there 0 o refl

      rest : (k : ℕ) (u : Output) → slice_get os k ≡ Some u → slice_get c.outputs (suc i + k) ≡ Some u
      rest k u e = let z : suc i + k ≡ i + suc k = omega arith in ap (λ (j : ℕ). slice_get c.outputs j) z ∙ there (suc k) u e

      by : ((n : ℕ) → ((k : ℕ) (u : Output) → slice_get os k ≡ Some u → slice_get c.outputs (suc i + k) ≡ Some u) → n ≡ first_node c + (base + count_below (has_node c) (suc i))
          → AllZip (λ (u : Output) (s : ℕ). IsOutputSignal c b u.source s) os (output_signals c l.signals n os)) → (t : Bool) → is_own_signal c o ≡ t → AllZip (λ (u : Output) (s : ℕ). IsOutputSignal c b u.source s) (o ∷ os) (if t then found_signal l.signals o.source ∷ output_signals c l.signals next os else next ∷ output_signals c l.signals (next + 1) os)
      by again true e =
          let same = skipped (has_node c) i (test_at c i o true here e) in
          (own o (source_there c p.ok i o here).0 e, again next rest (omega arith))
      by again false e =
          let test = test_at c i o false here e in
          let more = counted (has_node c) i test in
          let r = output_there c l names b.nodes p.nodes i (get_within c.outputs i o here) test in
          let node = subst (λ (u : Output). IsOutNode l.signals u.name u.source r.0) (get_or_from_slice_get c.outputs i o no_output here) r.2 in
          (made o.source o.name (base + count_below (has_node c) i) next r.0 (source_there c p.ok i o here).0 (source_there c p.ok i o here).1 at r.1 node, again (next + 1) rest (omega arith))

  pub outputs_are : (outputs : List ℕ) → outputs ≡ output_signals c l.signals l.outputs_at c.outputs → AllZip (λ (o : Output) (s : ℕ). IsOutputSignal c b o.source s) c.outputs outputs
  outputs_are outputs is =
      let x = p.layout.outputs_at in
      let y = p.layout.one_at in
      let z = p.layout.zero_at in
      subst (λ (ss : List ℕ). AllZip (λ (o : Output) (s : ℕ). IsOutputSignal c b o.source s) c.outputs ss) (sym is)
      (all_outputs 0 l.outputs_at c.outputs (λ k o e. let w : 0 + k ≡ k = omega arith in ap (λ (j : ℕ). slice_get c.outputs j) w ∙ e) (omega arith))
