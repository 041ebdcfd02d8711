use Rattle.std.proofs.Common.{ℕ, ◌≡◌, ◌++◌, List, length, sym, ap, ◌∙◌, append-nil, arith}
use Rattle.act1_circuit.specs.declared.circuit.Source.{Source}
use Rattle.act1_circuit.specs.declared.circuit.Source.TheVariants.{Input, Module}
use Rattle.act1_map.specs.MapSteps.{at_first, slave_at}
use Rattle.act1_map.proofs.Passes.{slave_more}
use Rattle.act1_map.proofs.sources.given_sources.Goals as goal

pub loop-latch-preserved : goal.loop-latch-preserved
loop-latch-preserved c =
    slave_more c.args.tiles c.loop-latch.latch c.slave_at.result (at_first Input (length c.args.blif.now.inputs)) c.loop-latch.sources.items c.push-in-loop-latch.new.self.items c.in_ok-push-2.ensures.items c.slave_at.ensures c.loop-latch.invariant

pub loop-node-init : goal.loop-node-init
loop-node-init c =
    let past = c.loop-latch-test.false in
    let end = c.loop-latch.auto.latch-end in
    let long = c.len-latch-end.ensures in
    let all : c.loop-latch.latch ≡ length c.args.blif.now.latches = omega arith in
    let inputs : List Source = at_first Input (length c.args.blif.now.inputs) in
    c.loop-latch.invariant ∙ ap (λ (n : ℕ). inputs ++ at_first (λ j. Module (slave_at c.args.tiles j)) n) all
    ∙ sym (append-nil (inputs ++ at_first (λ j. Module (slave_at c.args.tiles j)) (length c.args.blif.now.latches)))
