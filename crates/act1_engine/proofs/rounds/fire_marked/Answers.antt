use Rattle.std.proofs.Common.{ℕ, ◌≡◌, Bool, List, set, refl, ap, sym, ◌∙◌, subst, arith}
use Rattle.act1_engine.specs.Marking.{IsQuiet}
use Rattle.act1_engine.specs.Turns.{gives, turn}
use Rattle.act1_engine.proofs.RoundSteps.{marked_within, quiet_fired, turn_taken}
use Rattle.act1_engine.proofs.rounds.fire_marked.Goals as goal

pub returns-clause-marks : goal.returns-clause-marks
returns-clause-marks c =
    let adds = c.set_value.ensures.adds c.args.modules c.requires.table.pins in
    adds.goes (turn_taken c.args.modules c.args.from c.args.module c.args.marks.now _ c.requires.marks c.requires.first c.clear_mark.ensures.long refl refl refl c.clear_mark.ensures.here c.clear_mark.ensures.others)

pub returns-clause-quiet : goal.returns-clause-quiet
returns-clause-quiet c =
    let slots = c.args.wiring.now.slots.items in
    let values = c.args.values.now.items in
    let m = c.args.module in
    let bit : c.given-bit.result ≡ gives slots values m =
    c.given-bit.ensures ∙ ap (λ (s : List ℕ). gives s c.deref-2.result.now m) c.deref.ensures.value ∙ ap (λ (v : List Bool). gives slots v m) c.deref-2.ensures.value in
    let fires : c.set_value.new.values.items ≡ turn slots values m = c.set_value.ensures.values ∙ ap (set values m) bit in
    let adds = c.set_value.ensures.adds c.args.modules c.requires.table.pins in
    let count = c.requires.table.modules in
    let within = marked_within c.args.modules c.args.from m c.args.marks.now c.requires.marks c.requires.first.marked in
    subst (λ (v : List Bool). IsQuiet slots v c.set_value.new.marks.words.items c.args.modules) (sym fires)
    (quiet_fired c.args.modules m slots values c.args.marks.now.words.items c.clear_mark.new.words.items c.set_value.new.marks.words.items c.requires.table.pins (omega arith) c.requires.quiet
    c.clear_mark.ensures.others adds.keeps (λ ne. c.set_value.ensures.readers (λ e. ne (e ∙ bit))))
