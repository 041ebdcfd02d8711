use Rattle.std.proofs.Common.{List, sym, ap, ◌∙◌}
use Rattle.act1_report.proofs.StepForms.{no_step_read}
use Rattle.act1_report.proofs.table.read_report_line.Goals as goal
use Rattle.act1_table.specs.Lines.{read_line}
use Rattle.act1_table.specs.Table.{Form}

pub line_of-requires : goal.line_of-requires
line_of-requires c =
    no_step_read c.args.bytes.now c.in-Some.given (sym c.is_step_line.ensures ∙ c.if-is_step_line.false)
    (sym (sym c.in-Some.is ∙ c.in_ok-given.ensures ∙ ap (λ (table : List Form). read_line table c.args.bytes.now) c.report_table.ensures))
