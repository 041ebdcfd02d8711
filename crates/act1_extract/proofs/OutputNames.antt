-- The netlist that is put together is the one that the circuit is extracted to.
use Rattle.std.proofs.Common.{ℕ, ◌≡◌, List, sym}
use Rattle.act1_blif.specs.declared.blif.Blif.{Blif}
use Rattle.act1_circuit.specs.declared.circuit.Circuit.{Circuit}
use Rattle.act1_meaning.specs.Extracted.{IsArrayNet}
use Rattle.act1_extract.specs.declared.plan.Layout.{Layout}
use Rattle.act1_extract.specs.Picked.{output_signals}
use Rattle.act1_extract.proofs.Assembly.{ArePartsOf, latch_count, latches_are, nodes_are}
use Rattle.act1_extract.proofs.NetOutputs.{outputs_are}
use Rattle.act1_extract.proofs.SignalNames.{outputs_named}

pub array_net : (c : Circuit) (l : Layout) (names : List (List ℕ)) (b : Blif) (p : ArePartsOf c l names b) → b.outputs ≡ output_signals c l.signals l.outputs_at c.outputs → IsArrayNet c b
array_net c l names b p is = record {
  clock = sym p.clock;
  inputs = sym p.inputs;
  latch_count = latch_count c l names b p;
  latches = latches_are c l names b p;
  nodes = nodes_are c l names b p;
  output_names = outputs_named c p.ok l p.layout names b.inputs b.latches b.nodes p.inputs p.latches p.nodes b.outputs is;
  outputs = outputs_are c l names b p b.outputs is;
}
