use Rattle.std.proofs.Common.{List, sym, ap, ◌∙◌}
use Rattle.act1_table.specs.Lines.{read_line}
use Rattle.act1_table.specs.Table.{Form}
use Rattle.act1_logtext.proofs.StepForms.{no_step_read}
use Rattle.act1_logtext.proofs.answer_table.read_answer_line.Goals as goal

pub line_of-requires : goal.line_of-requires
line_of-requires c =
    no_step_read c.args.bytes.now c.in-Some.given (sym c.is_step_line.ensures ∙ c.if-is_step_line.false)
    (sym (sym c.in-Some.is ∙ c.in_ok-given.ensures ∙ ap (λ (table : List Form). read_line table c.args.bytes.now) c.answer_table.ensures))
