use Rattle.std.proofs.Common.{ℕ, List, refl, subst}
use Rattle.act1_engine.specs.Marking.{AreUnmarked, IsFirstMarked}
use Rattle.act1_engine.proofs.RoundSteps.{round_done, round_goes, round_starts}
use Rattle.act1_engine.proofs.rounds.fire_round.Goals as goal

pub loop-module-init : goal.loop-module-init
loop-module-init c = round_starts c.args.modules c.args.wiring.now c.args.values.now.items c.args.marks.now _ c.requires.table c.requires.marks c.requires.quiet refl refl refl refl

pub loop-module-preserved : goal.loop-module-preserved
loop-module-preserved c =
    let first = subst (λ (words : List ℕ). IsFirstMarked words c.loop-module.from c.in-Some.module) c.deref.ensures.value c.in-Some.ensures.some in
    let after = c.fire_marked.ensures in
    round_goes c.args.modules c.loop-module.from c.in-Some.module c.args.wiring.now c.args.values.now.items c.loop-module.values.items c.fire_marked.new.values.items c.loop-module.marks c.fire_marked.new.marks
    c.loop-module.invariant first after.fires after.table after.marks after.quiet

pub returns-clause-fires : goal.returns-clause-fires
returns-clause-fires c =
    let none = subst (λ (words : List ℕ). AreUnmarked words c.loop-module.from c.loop-module.marks.end) c.deref.ensures.value c.in_default.ensures.none in
    round_done c.args.modules c.loop-module.from c.args.wiring.now c.args.values.now.items c.loop-module.values.items c.loop-module.marks c.loop-module.invariant none
