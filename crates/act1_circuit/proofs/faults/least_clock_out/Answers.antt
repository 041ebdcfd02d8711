use Rattle.std.proofs.Common.{List, get_or, below_more, length, sym, ap, ◌∙◌, arith}
use Rattle.std.proofs.lemmas.Bool.{false≢true}
use Rattle.act1_base.proofs.ListGets.{get_read}
use Rattle.act1_circuit.specs.declared.circuit.Output.{Output}
use Rattle.act1_circuit.specs.PairForm.{is_clock}
use Rattle.act1_circuit.proofs.FormLemmas.{no_clock_out, output_within}
use Rattle.act1_circuit.proofs.faults.least_clock_out.Goals as goal

pub loop-output-preserved : goal.loop-output-preserved
loop-output-preserved c =
    let low = c.loop-output-test.true in
    let all = ap (λ (xs : List Output). length xs) c.as_slice-outputs.ensures in
    let outputs = c.args.circuit.now.outputs in
    let there = get_read outputs c.loop-output.output c.index-outputs-output.result (omega arith)
    (c.index-outputs-output.is ∙ ap (λ (xs : List Output). get_or xs c.loop-output.output c.index-outputs-output.result) c.as_slice-outputs.ensures) in
    below_more _ _ c.loop-output.invariant (no_clock_out c.args.circuit.now c.loop-output.output c.index-outputs-output.result there
    (λ e. false≢true (sym c.if-is_clock.false ∙ c.is_clock.ensures ∙ ap (λ (o : Output). is_clock o.source) (sym c.index-outputs-output.is) ∙ ap is_clock e)))

pub returns : goal.returns
returns c =
    let high = c.loop-output-test.false in
    let all = ap (λ (xs : List Output). length xs) c.as_slice-outputs.ensures in
    λ o h. c.loop-output.invariant o (let low = output_within c.args.circuit.now o h in omega arith) h
