use Rattle.std.proofs.Common.{ℕ, ◌+◌, List, get_or, ap, sym, ◌∙◌, arith}
use Rattle.act1_base.proofs.ListGets.{get_read}
use Rattle.act1_circuit.specs.declared.circuit.Output.{Output}
use Rattle.act1_circuit.specs.PairFormSteps.{noted}
use Rattle.act1_circuit.proofs.ReaderTables.{all_seen, modules_seen, more_outputs, more_seen}
use Rattle.act1_circuit.proofs.readers.readers_of.Goals as goal

pub loop-module-preserved : goal.loop-module-preserved
loop-module-preserved c =
    let low = c.loop-module-test.true in
    let all = c.len-modules.ensures in
    more_seen c.args.circuit.now c.requires c.loop-module.module c.loop-module.readers.items c.note_pins.new.readers.items (omega arith) c.loop-module.invariant c.note_pins.ensures

pub loop-output-init : goal.loop-output-init
loop-output-init c =
    let high = c.loop-module-test.false in
    let low = c.loop-module.auto.module-end in
    let all = c.len-modules.ensures in
    modules_seen c.args.circuit.now c.loop-module.module c.loop-module.readers.items (omega arith) c.loop-module.invariant

pub loop-output-preserved : goal.loop-output-preserved
loop-output-preserved c =
    let low = c.loop-output-test.true in
    let all = c.len-output-end.ensures in
    more_outputs c.args.circuit.now c.loop-output.output c.index-as_slice-output.result c.loop-output.readers.items c.note.new.readers.items
    (get_read c.args.circuit.now.outputs c.loop-output.output c.index-as_slice-output.result (omega arith) (c.index-as_slice-output.is ∙ ap (λ (xs : List Output). get_or xs c.loop-output.output c.index-as_slice-output.result) c.as_slice.ensures)) c.loop-output.invariant
    (c.note.ensures ∙ ap (λ (o : Output). noted (c.len-modules.result + c.loop-output.output) o.source c.loop-output.readers.items) (sym c.index-as_slice-output.is) ∙ ap (λ (k : ℕ). noted (k + c.loop-output.output) c.index-as_slice-output.result.source c.loop-output.readers.items) c.len-modules.ensures)

pub returns : goal.returns
returns c =
    let high = c.loop-output-test.false in
    let all = c.len-output-end.ensures in
    all_seen c.args.circuit.now c.loop-output.output c.loop-output.readers.items (omega arith) c.loop-output.invariant
