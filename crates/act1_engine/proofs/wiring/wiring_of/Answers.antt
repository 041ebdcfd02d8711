use Rattle.std.proofs.Common.{ℕ, ◌≡◌, ◌+◌, ◌<◌, List, [], ◌∷◌, ◌++◌, length, set, ap, sym, ◌∙◌, subst, arith}
use Rattle.std.proofs.lemmas.List.{get_or_default}
use Rattle.act1_engine.specs.Slots.{entry, slot_of}
use Rattle.act1_engine.proofs.WiringSteps.{WiringAt, more_pins}
use Rattle.act1_engine.proofs.wiring.wiring_of.Goals as goal

pub loop-pin-preserved : goal.loop-pin-preserved
loop-pin-preserved c =
    let circuit = c.args.circuit.now in
    let pin = c.loop-pin.pin in
    let slots = c.loop-pin.slots.items in
    let lasts = c.loop-pin.lasts.items in
    let befores = c.loop-pin.befores.items in
    let s = c.slot_of-slot.result in
    let link = c.index.result.now in
    let count = c.loop-pin.invariant.count in
    let within = c.slot_of-slot.ensures.within in
    let low : s < length lasts = omega arith in
    let is = c.slot_of-slot.ensures.is ∙ ap (slot_of circuit) c.source_at.ensures.is in
    let link_is : link ≡ entry lasts s = c.index.ensures ∙ get_or_default lasts s link 0 low in
    subst (λ (xs : List ℕ). WiringAt circuit (pin + 1) xs (set lasts s (pin + 1)) c.push.new.self.items) (sym c.in_ok-push-2.ensures.items)
    (subst (λ (ys : List ℕ). WiringAt circuit (pin + 1) (slots ++ s ∷ []) (set lasts s (pin + 1)) ys) (sym c.in_ok-push.ensures.items)
    (more_pins circuit pin slots lasts befores s link c.loop-pin.invariant is within link_is))
