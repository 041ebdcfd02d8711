use Rattle.std.proofs.Common.{ℕ, ◌≡◌, ◌-◌, ◌<◌, length, sym, ◌∙◌, subst, arith}
use Rattle.std.proofs.lemmas.List.{get_or_default}
use Rattle.act1_engine.specs.Slots.{entry, IsLast}
use Rattle.act1_engine.proofs.ReaderSteps.{walk_goes}
use Rattle.act1_engine.proofs.setting.mark_readers.Goals as goal

pub loop-link-preserved : goal.loop-link-preserved
loop-link-preserved c =
    let wiring = c.args.wiring.now in
    let slots = wiring.slots.items in
    let link = c.loop-link.link in
    let next = c.index-in-loop-link.result.now in
    let some = c.loop-link-test.true in
    let before = c.loop-link.invariant.before in
    let long = c.requires.linked.long in
    let low : link - 1 < length slots = omega arith in
    let inside : link - 1 < length wiring.befores.items = omega arith in
    let is : next ≡ entry wiring.befores.items (link - 1) = c.index-in-loop-link.ensures ∙ get_or_default wiring.befores.items (link - 1) next 0 inside in
    let last = subst (λ (k : ℕ). IsLast (entry slots) (entry slots (link - 1)) (link - 1) k) (sym is) (c.requires.linked.befores (link - 1) low) in
    walk_goes slots c.args.slot link next c.args.at c.args.marks.now c.loop-link.marks c.note.new.marks some c.loop-link.invariant last c.note.ensures.here c.note.ensures.adds
