use Rattle.std.proofs.Common.{ℕ, ◌+◌, ◌<◌, ◌≡◌, List, length, get_or, refl, sym, ap, subst, ◌∙◌, arith}
use Rattle.act1_circuit.specs.declared.circuit.Output.{Output}
use Rattle.act1_extract.proofs.Stops.{clash_none, clash_step}
use Rattle.act1_extract.proofs.clashes.first_clash.Goals as goal

pub loop-output-preserved : goal.loop-output-preserved
loop-output-preserved c =
    let o = c.index-outputs-output.result in
    clash_step c.args.circuit.now c.loop-output.output (c.loop-output.output + 1) o refl (subst (λ (os : List Output). c.loop-output.output < length os) c.as_slice-outputs.ensures c.loop-output-test.true)
    (subst (λ (os : List Output). o ≡ get_or os c.loop-output.output o) c.as_slice-outputs.ensures c.index-outputs-output.is) (sym c.is_clash.ensures ∙ c.if-is_clash.false) c.loop-output.invariant

pub returns : goal.returns
returns c = clash_none c.args.circuit.now (λ k low. c.loop-output.invariant k (let e = ap length c.as_slice-outputs.ensures in let high = c.loop-output-test.false in omega arith))
