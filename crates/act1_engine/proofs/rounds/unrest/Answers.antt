use Rattle.std.proofs.Common.{ℕ, ◌≡◌, ◌≢◌, Bool, true, false, not, List, refl, ap, sym, ◌∙◌, subst, arith}
use mathlib.Core.Bool.{beq}
use Rattle.act1_engine.specs.Marking.{AreUnmarked, IsFirstMarked}
use Rattle.act1_engine.specs.Turns.{gives}
use Rattle.act1_engine.proofs.RoundSteps.{least_unstill, marked_within, still_all, still_more, unmarked_below}
use Rattle.act1_engine.proofs.rounds.unrest.Goals as goal

differ : (a b : Bool) → not (beq a b) ≡ true → a ≢ b
differ true true h = cc
differ true false h = λ f. cc
differ false true h = λ f. cc
differ false false h = cc

same : (a b : Bool) → not (beq a b) ≡ false → a ≡ b
same true true h = refl
same true false h = cc
same false true h = cc
same false false h = refl

pub loop-module-init : goal.loop-module-init
loop-module-init c =
    let low = c.requires.marks.low_within in
    record {
      up = low;
      still = λ k below. c.requires.quiet k (omega arith) (unmarked_below c.args.modules c.args.marks.now c.requires.marks k below);
    }

pub returns-then-given-values-clause-some : goal.returns-then-given-values-clause-some
returns-then-given-values-clause-some c =
    let m = c.in-Some.module in
    let first = subst (λ (words : List ℕ). IsFirstMarked words c.loop-module.next m) c.deref.ensures.value c.in-Some.ensures.some in
    let gives_is = c.given.ensures ∙ ap (λ (s : List ℕ). gives s c.args.values.now m) c.deref-in-Some.ensures.value in
    least_unstill c.args.modules c.loop-module.next m c.args.wiring.now.slots.items c.args.values.now c.args.marks.now.words.items
    (marked_within c.args.modules c.args.modules m c.args.marks.now c.requires.marks first.marked) first c.requires.quiet c.loop-module.invariant.still
    (λ e. differ _ _ c.if-given-values.true (gives_is ∙ e))

pub loop-module-preserved : goal.loop-module-preserved
loop-module-preserved c =
    let m = c.in-Some.module in
    let first = subst (λ (words : List ℕ). IsFirstMarked words c.loop-module.next m) c.deref.ensures.value c.in-Some.ensures.some in
    let gives_is = c.given.ensures ∙ ap (λ (s : List ℕ). gives s c.args.values.now m) c.deref-in-Some.ensures.value in
    let within = marked_within c.args.modules c.args.modules m c.args.marks.now c.requires.marks first.marked in
    record {
      up = omega arith;
      still = still_more c.args.modules c.loop-module.next m c.args.wiring.now.slots.items c.args.values.now c.args.marks.now.words.items within first c.requires.quiet c.loop-module.invariant.still
          (sym gives_is ∙ same _ _ c.if-given-values.false);
    }

pub returns-clause-none : goal.returns-clause-none
returns-clause-none c =
    let none = subst (λ (words : List ℕ). AreUnmarked words c.loop-module.next c.args.marks.now.high) c.deref.ensures.value c.in_default.ensures.none in
    still_all c.args.modules c.loop-module.next c.args.wiring.now.slots.items c.args.values.now c.args.marks.now c.requires.marks none c.requires.quiet c.loop-module.invariant.still
