use Rattle.std.proofs.Common.{List, ◌+◌, subst, sym, arith}
use Rattle.act1_circuit.specs.declared.pairs.Pair.{Pair}
use Rattle.act1_circuit.specs.FormFaults.{ArePairs}
use Rattle.act1_circuit.specs.PairFormSteps.{ArePairsBelow}
use Rattle.act1_circuit.proofs.FormSteps.{all_pairs, more_pairs}
use Rattle.act1_circuit.proofs.forms.pairs_of.Goals as goal

pub loop-slave-preserved : goal.loop-slave-preserved
loop-slave-preserved c =
    let circuit = c.args.circuit.now in
    let k = c.loop-slave.slave in
    subst (λ (ps : List Pair). ArePairsBelow circuit (k + 1) ps) (sym c.in_ok-add_pair.ensures) (more_pairs circuit k c.pair_of.result c.loop-slave.pairs.items c.pair_of.ensures c.loop-slave.invariant)

pub returns : goal.returns
returns c =
    let circuit = c.args.circuit.now in
    let high = c.loop-slave-test.false in
    let all = c.len-slave-end.ensures in
    subst (λ (ps : List Pair). ArePairs circuit ps) (sym c.from_vec.ensures) (all_pairs circuit c.loop-slave.slave c.loop-slave.pairs.items (omega arith) c.loop-slave.invariant)
