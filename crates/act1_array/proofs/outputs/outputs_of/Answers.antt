use Rattle.std.proofs.Common.{◌+◌, List, take, sym, subst, ◌∙◌}
use Rattle.act1_circuit.specs.declared.circuit.Output.{Output}
use Rattle.act1_fuses.specs.declared.fuses.Port.{Port}
use Rattle.act1_fuses.specs.Array.{IsSource, pad_wire}
use Rattle.act1_array.specs.PartSteps.{AreOutputs}
use Rattle.act1_base.proofs.ListGets.{get_read}
use Rattle.act1_array.proofs.CircuitLemmas.{outputs_more, first_unfed, item_at, of_item, taken_all}
use Rattle.act1_array.proofs.outputs.outputs_of.Goals as goal

pub returns-in-None : goal.returns-in-None
returns-in-None c = λ dev h apart.
    let outs = c.args.file.now.outs in
    let port = c.port-item.result in
    let i = c.loop-number.number in
    let at = item_at c.as_slice-port-items.result.now outs i port c.as_slice-port-items.ensures c.loop-number-test.true c.port-item.is in
    let other = of_item (λ (p : Port). ¬ IsSource c.args.file.now (pad_wire p.pad)) outs i port apart at.0 at.1 in
    first_unfed dev c.args.file.now c.args.network.now h i port c.loop-number.outputs (get_read outs i port at.0 at.1) (c.loop-number.invariant dev h apart) (c.in-None.ensures dev c.args.file.now h other)

pub loop-number-preserved : goal.loop-number-preserved
loop-number-preserved c = λ dev h apart.
    let outs = c.args.file.now.outs in
    let port = c.port-item.result in
    let i = c.loop-number.number in
    let at = item_at c.as_slice-port-items.result.now outs i port c.as_slice-port-items.ensures c.loop-number-test.true c.port-item.is in
    let other = of_item (λ (p : Port). ¬ IsSource c.args.file.now (pad_wire p.pad)) outs i port apart at.0 at.1 in
    let drives = c.in-Some.ensures dev c.args.file.now h other in
    let output : Output = record { name = c.in_ok-name-in-Some.name; source = c.in-Some.source } in
    let more = outputs_more dev c.args.file.now c.args.network.now h i port port c.loop-number.outputs output at.0 at.1 (c.in_ok-name-in-Some.ensures ∙ c.as_bytes.ensures.value) (c.loop-number.invariant dev h apart) drives in
    subst (λ (outputs : List Output). AreOutputs dev c.args.file.now c.args.network.now.spots (take (i + 1) outs) outputs) (sym c.in_ok-push-in-Some.ensures.ok) more

pub returns : goal.returns
returns c = λ dev h apart.
    let outs = c.args.file.now.outs in
    subst (λ (ports : List Port). AreOutputs dev c.args.file.now c.args.network.now.spots ports c.loop-number.outputs) (taken_all c.as_slice-port-items.result.now outs c.loop-number.number c.as_slice-port-items.ensures c.loop-number-test.false)
    (c.loop-number.invariant dev h apart)
