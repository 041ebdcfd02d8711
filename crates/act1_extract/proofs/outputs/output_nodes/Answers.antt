use Rattle.std.proofs.Common.{◌+◌, ◌<◌, ◌≡◌, List, length, get_or, refl, sym, subst, ◌∙◌}
use Rattle.std.proofs.lemmas.Option.{get_or_from_slice_get}
use Rattle.act1_base.proofs.ListGets.{get_read}
use Rattle.act1_circuit.specs.declared.circuit.Output.{Output}
use Rattle.act1_extract.specs.Picked.{no_output}
use Rattle.act1_extract.proofs.Steps.{output_added}
use Rattle.act1_extract.proofs.outputs.output_nodes.Goals as goal

pub loop-output-preserved : goal.loop-output-preserved
loop-output-preserved c =
    let o = c.output-item.result in
    let i = c.loop-output.output-index in
    let low = subst (λ (os : List Output). i < length os) c.as_slice-output-items.ensures c.loop-output-test.true in
    let read = subst (λ (os : List Output). o ≡ get_or os i o) c.as_slice-output-items.ensures c.output-item.is in
    output_added c.args.circuit.now c.args.signals.now i (i + 1) o c.loop-output.nodes c.add_output.new.nodes refl
    (sym (get_or_from_slice_get c.args.circuit.now.outputs i o no_output (get_read c.args.circuit.now.outputs i o low read))) c.loop-output.invariant c.in_ok-add_output.ensures
