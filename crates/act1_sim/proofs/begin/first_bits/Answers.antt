use Rattle.std.proofs.Common.{◌≢◌, ◌<◌, List, length, All, AllPairs, sym, subst}
use Rattle.act1_circuit.specs.declared.circuit.Start.{Start}
use Rattle.act1_sim.proofs.FirstBits.{next_start}
use Rattle.act1_sim.proofs.begin.first_bits.Goals as goal

pub loop-start-preserved : goal.loop-start-preserved
loop-start-preserved c =
    let is = sym c.as_slice-start-items.ensures in
    let count = length c.args.circuit.now.modules in
    next_start c.as_slice-start-items.result.now c.loop-start.start-index c.start-item.result count c.args.fill _ _ c.loop-start-test.true c.start-item.is
    (subst (λ (xs : List Start). AllPairs (λ (s t : Start). s.module ≢ t.module) xs) is c.requires.apart) (subst (λ (xs : List Start). All (λ (s : Start). s.module < count) xs) is c.requires.modules)
    c.loop-start.invariant c.declare.ensures
