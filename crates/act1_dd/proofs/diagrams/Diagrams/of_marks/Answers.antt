use Rattle.std.proofs.Common.{ℕ, ◌≡◌, ◌<◌, ◌+◌, ◌-◌, length, get_or, subst, ◌∙◌, arith}
use Rattle.std.proofs.lemmas.Option.{slice_get-get_or}
use Rattle.act1_logic.specs.declared.cover.Mark.TheVariants as mark
use Rattle.act1_dd.proofs.Growing.{keeps_all, keeps_then}
use Rattle.act1_dd.proofs.Rows.{AreMarksFrom, marks_more, no_marks}
use Rattle.act1_dd.proofs.diagrams.Diagrams.of_marks.Goals as goal

pub loop-var-init : goal.loop-var-init
loop-var-init c = record { within = omega arith; keeps = keeps_all c.args.self.now; is_ref = tt; later = tt; value = no_marks c.args.self.now c.args.marks.now }

pub loop-var-preserved : goal.loop-var-preserved
loop-var-preserved c =
    let marks = c.args.marks.now in
    let v = c.loop-var.var - 1 in
    let r = c.loop-var.r in
    let new = c.with_mark.new.self in
    let some = c.loop-var-test.true in
    let within = c.loop-var.invariant.within in
    let more : c.loop-var.var ≡ v + 1 = omega arith in
    let low : v < length marks = omega arith in
    let rest : AreMarksFrom new marks (v + 1) r = subst (λ (n : ℕ). AreMarksFrom new marks n r) more (λ x. c.in_ok-r.ensures.keeps.values r c.loop-var.invariant.is_ref x ∙ c.loop-var.invariant.value x) in
    record {
      within = omega arith;
      keeps = keeps_then c.args.self.now c.loop-var.self new c.loop-var.invariant.keeps c.in_ok-r.ensures.keeps;
      is_ref = c.in_ok-r.ensures.is_ref;
      later = c.in_ok-r.ensures.later;
      value = marks_more new marks v (get_or marks v mark.Zero) r c.in_ok-r.r (slice_get-get_or marks v mark.Zero low) rest c.in_ok-r.ensures.value;
    }
