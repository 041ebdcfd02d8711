use Rattle.std.proofs.Common.{length, ◌∙◌, ap, sym, subst, ◌≡◌, ℕ}
use Rattle.act1_circuit.specs.Firing.{fire_all, site_order}
use Rattle.act1_circuit.proofs.Fires.{next_round, rested}
use Rattle.act1_circuit.proofs.firing.fire_wave.Goals as goal

pub returns-then-not-fire_round-clause-wave : goal.returns-then-not-fire_round-clause-wave
returns-then-not-fire_round-clause-wave c =
    let n = length c.args.modules.now in
    let round = subst (λ (k : ℕ). c.fire_round.new.bits ≡ fire_all c.args.circuit.now c.args.clock c.args.inputs.now c.loop-round.modules (site_order k)) c.loop-round.auto.modules c.fire_round.ensures.fires in
    rested c.args.circuit.now c.args.clock c.args.inputs.now c.args.modules.now c.loop-round.modules c.fire_round.new.bits n c.loop-round._round c.loop-round-test.true
    (sym c.requires.one_each) c.loop-round.invariant round (c.fire_round.ensures.rests c.if-not-fire_round.true).1

pub loop-round-preserved : goal.loop-round-preserved
loop-round-preserved c =
    let round = subst (λ (k : ℕ). c.fire_round.new.bits ≡ fire_all c.args.circuit.now c.args.clock c.args.inputs.now c.loop-round.modules (site_order k)) c.loop-round.auto.modules c.fire_round.ensures.fires in
    round ∙ ap (λ b. fire_all c.args.circuit.now c.args.clock c.args.inputs.now b (site_order (length c.args.modules.now))) c.loop-round.invariant
    ∙ sym (next_round c.args.circuit.now c.args.clock c.args.inputs.now c.args.modules.now (length c.args.modules.now) c.loop-round._round)
