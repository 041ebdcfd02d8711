use Rattle.std.proofs.Common.{below_more, sym, ◌∙◌, arith}
use Rattle.std.proofs.lemmas.Bool.{false≢true}
use Rattle.act1_circuit.proofs.FormLemmas.{start_within}
use Rattle.act1_circuit.proofs.faults.least_start.Goals as goal

pub loop-module-preserved : goal.loop-module-preserved
loop-module-preserved c = below_more _ _ c.loop-module.invariant (λ h. false≢true (sym c.if-is_misplaced.false ∙ c.is_misplaced.ensures.1 h))

pub returns : goal.returns
returns c =
    let high = c.loop-module-test.false in
    let all = c.requires.started.all in
    λ m h. c.loop-module.invariant m (let low = start_within c.args.circuit.now c.requires.range m h in omega arith) h
