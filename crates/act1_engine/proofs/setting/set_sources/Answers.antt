use Rattle.std.proofs.Common.{ℕ, ◌≡◌, ◌+◌, length, set, ap, sym, ◌∙◌, subst, arith}
use Rattle.act1_engine.specs.Marking.{Adds, AreReadersMarked}
use Rattle.act1_engine.specs.Turns.{value}
use Rattle.act1_engine.proofs.EngineSteps.{SetTo, all_set, next_set}
use Rattle.act1_engine.proofs.setting.set_sources.Goals as goal

pub loop-input-preserved : goal.loop-input-preserved
loop-input-preserved c =
    let n = c.len-modules.ensures in
    let b = c.input_at.ensures in
    let input = c.loop-input.input in
    let values = c.loop-input.values.items in
    let slots = c.args.wiring.now.slots.items in
    let words = c.set_value.new.marks.words.items in
    let low = c.loop-input-test.true in
    let width = c.len-width.ensures in
    next_set c.args.circuit.now c.args.wiring.now c.args.inputs.now c.args.values.now.items values c.set_value.new.values.items c.loop-input.marks c.set_value.new.marks input (omega arith) c.requires.wiring c.loop-input.invariant
    (c.set_value.ensures.values ∙ ap (λ (k : ℕ). set values (k + input) c.input_at.result) n ∙ ap (set values (length c.args.circuit.now.modules + input)) b)
    (λ ne. subst (λ (k : ℕ). AreReadersMarked slots (k + input) words) n (c.set_value.ensures.readers (λ f. ne (ap (λ (k : ℕ). value values (k + input)) (sym n) ∙ f ∙ b))))
    (λ k e. subst (λ (at : ℕ). Adds k at c.loop-input.marks c.set_value.new.marks) n (c.set_value.ensures.adds k e))

pub returns-clause-ready : goal.returns-clause-ready
returns-clause-ready c =
    let n = c.len-modules.ensures in
    let width = c.len-width.ensures in
    let done = c.loop-input-test.false in
    let end = c.loop-input.auto.input-end in
    let slot : c.len-modules.result + c.len-width.result + 2 ≡ length c.args.circuit.now.modules + length c.args.circuit.now.inputs + 2 = omega arith in
    let input : c.loop-input.input ≡ length c.args.circuit.now.inputs = omega arith in
    let values = c.loop-input.values.items in
    let slots = c.args.wiring.now.slots.items in
    let words = c.set_value-2.new.marks.words.items in
    let so_far = subst (λ (i : ℕ). SetTo c.args.circuit.now c.args.wiring.now c.args.inputs.now i c.args.values.now.items values c.loop-input.marks) input c.loop-input.invariant in
    (all_set c.args.circuit.now c.args.wiring.now c.args.clock c.args.inputs.now c.args.values.now.items values c.set_value-2.new.values.items c.loop-input.marks c.set_value-2.new.marks c.requires.wiring so_far
    (c.set_value-2.ensures.values ∙ ap (λ (k : ℕ). set values k c.args.clock) slot)
    (λ ne. subst (λ (k : ℕ). AreReadersMarked slots k words) slot (c.set_value-2.ensures.readers (λ f. ne (ap (value values) (sym slot) ∙ f))))
    (λ k e. subst (λ (at : ℕ). Adds k at c.loop-input.marks c.set_value-2.new.marks) n (c.set_value-2.ensures.adds k e))).0
