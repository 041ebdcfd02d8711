use Rattle.std.proofs.Common.{ℕ, ◌≡◌, ◌<◌, List, length, sym, subst, ap, ◌∙◌, arith}
use Rattle.act1_logic.specs.declared.cover.Row.{Row}
use Rattle.act1_dd.specs.Inputs.{Inputs}
use Rattle.act1_dd.specs.Diagram.{value_at}
use Rattle.act1_dd.specs.Limit.{cover_function}
use Rattle.act1_dd.specs.Steps.{AreSeen}
use Rattle.act1_dd.proofs.Seen.{none_seen, still_seen}
use Rattle.act1_dd.proofs.Growing.{keeps_all, keeps_then}
use Rattle.act1_dd.proofs.Rows.{all_rows, cover_listed, cover_within, few_more, few_none, get_read, row_is_few, row_is_more, row_made}
use Rattle.act1_dd.proofs.diagrams.Diagrams.from_cover.Goals as goal

pub loop-done-init : goal.loop-done-init
loop-done-init c = record {
  keeps = keeps_all c.args.self.now;
  is_ref = (c.constant-all.ensures c.args.self.now).0;
  value = (c.constant-all.ensures c.args.self.now).1;
  few = few_none c.args.cover.now c.args.limit;
  seen = subst (λ (found : List ℕ). AreSeen c.args.self.now found) (sym c.new-seen.ensures.empty) (none_seen c.args.self.now);
}

pub exceeds-requires-clause-seen : goal.exceeds-requires-clause-seen
exceeds-requires-clause-seen c =
    let old = c.loop-done.self in
    let mid = c.of_marks.new.self in
    let now = c.ite.new.self in
    still_seen old now (keeps_then old mid now c.in_ok-agrees.ensures.keeps c.in_ok-all.ensures.keeps) c.loop-done.seen.keys c.loop-done.invariant.seen

pub ite-requires-clause-g : goal.ite-requires-clause-g
ite-requires-clause-g c = (c.constant-output.ensures c.of_marks.new.self).0

pub loop-done-preserved : goal.loop-done-preserved
loop-done-preserved c =
    let cover = c.args.cover.now in
    let i = c.loop-done.done in
    let row = c.row-item.result in
    let low : i < length c.as_slice-row-items.result.now = omega arith in
    let at = get_read cover.rows c.as_slice-row-items.result.now i row c.as_slice-row-items.ensures low c.row-item.is in
    let old = c.loop-done.self in
    let mid = c.of_marks.new.self in
    let now = c.ite.new.self in
    record {
      keeps = keeps_then c.args.self.now old now c.loop-done.invariant.keeps (keeps_then old mid now c.in_ok-agrees.ensures.keeps c.in_ok-all.ensures.keeps);
      is_ref = c.in_ok-all.ensures.is_ref;
      value = row_made cover old mid now c.in_ok-agrees.ensures.keeps c.in_ok-all.ensures.keeps i row c.as_slice.result.now at c.as_slice.ensures c.in_ok-agrees.agrees c.constant-output.result c.loop-done.all c.in_ok-all.all
          c.in_ok-agrees.ensures.is_ref c.in_ok-agrees.ensures.value c.constant-output.ensures c.loop-done.invariant.is_ref c.loop-done.invariant.value c.in_ok-all.ensures.value;
      few = few_more cover c.args.limit i c.loop-done.invariant.few
          (row_is_few cover old mid now c.in_ok-agrees.ensures.keeps c.in_ok-all.ensures.keeps i row c.as_slice.result.now at c.as_slice.ensures c.in_ok-agrees.agrees c.constant-output.result c.loop-done.all c.in_ok-all.all
          c.in_ok-agrees.ensures.is_ref c.in_ok-agrees.ensures.value c.constant-output.ensures c.loop-done.invariant.is_ref c.loop-done.invariant.value c.in_ok-all.ensures.value
          c.args.limit c.in_ok-exceeds.field-0 c.in_ok-exceeds.ensures.more c.if-branch.false);
      seen = c.in_ok-exceeds.ensures.seen;
    }

pub returns-then-branch-clause-diagram : goal.returns-then-branch-clause-diagram
returns-then-branch-clause-diagram c =
    let cover = c.args.cover.now in
    let i = c.loop-done.done in
    let row = c.row-item.result in
    let low : i < length c.as_slice-row-items.result.now = omega arith in
    let at = get_read cover.rows c.as_slice-row-items.result.now i row c.as_slice-row-items.ensures low c.row-item.is in
    let as_long = ap (λ (rows : List Row). length rows) c.as_slice-row-items.ensures in
    record {
      within = omega arith;
      more = row_is_more cover c.loop-done.self c.of_marks.new.self c.ite.new.self c.in_ok-agrees.ensures.keeps c.in_ok-all.ensures.keeps i row c.as_slice.result.now at c.as_slice.ensures
          c.in_ok-agrees.agrees c.constant-output.result c.loop-done.all c.in_ok-all.all
          c.in_ok-agrees.ensures.is_ref c.in_ok-agrees.ensures.value c.constant-output.ensures c.loop-done.invariant.is_ref c.loop-done.invariant.value c.in_ok-all.ensures.value
          c.args.limit c.in_ok-exceeds.field-0 c.in_ok-exceeds.ensures.more c.if-branch.true;
      least = λ j less. c.loop-done.invariant.few j (omega arith);
    }

pub returns-clause-diagram : goal.returns-clause-diagram
returns-clause-diagram c =
    let cover = c.args.cover.now in
    let as_long = ap (λ (rows : List Row). length rows) c.as_slice-row-items.ensures in
    let ended = c.loop-done-test.false in
    let end = c.loop-done.auto.done-end in
    let is : c.loop-done.done ≡ length cover.rows = omega arith in
    let value : (x : Inputs) → value_at c.loop-done.self c.loop-done.all x ≡ cover_function cover x = λ x. c.loop-done.invariant.value x ∙ all_rows cover c.loop-done.done x is in
    (record { ref = c.loop-done.invariant.is_ref; value = value; listed = cover_listed cover c.loop-done.self c.loop-done.all value; within = cover_within cover c.loop-done.self c.loop-done.all value }, λ k low. c.loop-done.invariant.few k (omega arith))
