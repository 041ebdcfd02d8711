use Rattle.std.proofs.Common.{sym, ◌∙◌, ◌+◌, ◌≤◌, length}
use Rattle.act1_bliftext.specs.ReadingSteps.{left, open_marks}
use Rattle.act1_bliftext.specs.declared.reading.Reading.{Reading}
use Rattle.act1_bliftext.proofs.FaultParts.{byte_first}
use Rattle.act1_bliftext.proofs.TakesForm.{takes_form, gives_marks, no_row}
use Rattle.act1_bliftext.proofs.WordLists.{texts}
use Rattle.act1_bliftext.proofs.TakesRow.{takes_row, row_marks_fit, holds_of}
use Rattle.act1_bliftext.proofs.step.after_line.Goals as goal

pub returns-then-is_byte_fault-clause-takes : goal.returns-then-is_byte_fault-clause-takes
returns-then-is_byte_fault-clause-takes c = λ above r. byte_first above _ (sym c.is_byte_fault.ensures ∙ c.if-is_byte_fault.true)

pub returns-in-Row-clause-takes : goal.returns-in-Row-clause-takes
returns-in-Row-clause-takes c = λ above r. takes_row above _ c.args.reading.now (left c.after_row.new.reading c.after_row.result) r (sym c.form_of.ensures ∙ c.in-Row.is) (sym c.is_byte_fault.ensures ∙ c.if-is_byte_fault.false) c.after_row.ensures

pub returns-in-Row-clause-marks : goal.returns-in-Row-clause-marks
returns-in-Row-clause-marks c =
    holds_of (λ (r : Reading). open_marks r.open_names ≤ open_marks c.args.reading.now.open_names + length c.args.first.now) c.after_row.new.reading c.after_row.result
    (row_marks_fit c.args.first.now _ c.args.reading.now (left c.after_row.new.reading c.after_row.result) c.after_row.ensures)

pub returns-in_ok-close-in_default : goal.returns-in_ok-close-in_default
returns-in_ok-close-in_default c =
    let free = no_row c.form_of.result c.in_default.not-Row in
    let given = left c.after_form.new.reading c.after_form.result in
    record {
      takes = λ above r. takes_form above (record { number = c.args.number; first = c.args.first.now; rest = texts c.args.rest.now }) c.form_of.result c.args.reading.now c.close.new.reading given r c.in_ok-close-in_default.ensures
          (sym c.form_of.ensures) free (sym c.is_byte_fault.ensures ∙ c.if-is_byte_fault.false) c.after_form.ensures;
      marks = holds_of (λ (r : Reading). open_marks r.open_names ≤ open_marks c.args.reading.now.open_names + length c.args.first.now) c.after_form.new.reading c.after_form.result
          (gives_marks c.form_of.result c.args.number (texts c.args.rest.now) c.close.new.reading given _ free c.after_form.ensures);
    }
