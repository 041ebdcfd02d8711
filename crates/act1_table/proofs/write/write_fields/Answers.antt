use Rattle.std.proofs.Common.{◌∙◌, ◌++◌, ap, get_or, arith}
use Rattle.act1_table.specs.declared.forms.Field as coded_field
use Rattle.act1_table.specs.declared.forms.Field.TheVariants.{Name}
use Rattle.act1_table.specs.declared.forms.Given.{Given}
use Rattle.act1_table.specs.Table.{field_of}
use Rattle.act1_table.specs.Forms.{spell}
use Rattle.act1_table.specs.WriteSteps.{spaced}
use Rattle.act1_table.proofs.WriteLaws.{one_more, next_field, next_rest}
use Rattle.act1_table.proofs.write.write_fields.Goals as goal
use Rattle.act1_table.proofs.write.write_fields.Goals.{then-at-fields, else-at-fields}

pub loop-at-preserved : goal.loop-at-preserved
loop-at-preserved c =
    let i = c.loop-at.at in
    let g = c.index-words-at.result in
    let done = c.in_ok-write_next.ensures ∙ ap (λ (x : Given). c.loop-at.text.items ++ spaced i (spell (field_of c.if-at-fields.field) x)) c.index-words-at.is in
    elim c.if-at-fields.branch [
      | then-at-fields w ↦
          one_more _ _ _ _ _ _ _ c.loop-at.invariant (next_field c.args.fields.now (field_of c.args.rest) c.args.words.now i Name g (omega arith) (omega arith))
          (done ∙ ap (λ (f : coded_field.Field). c.loop-at.text.items ++ spaced i (spell (field_of f) (get_or c.args.words.now i g))) w.field-is)
      | else-at-fields w ↦
          one_more _ _ _ _ _ _ _ c.loop-at.invariant (next_rest c.args.fields.now (field_of c.args.rest) c.args.words.now i g (omega arith) (omega arith))
          (done ∙ ap (λ (f : coded_field.Field). c.loop-at.text.items ++ spaced i (spell (field_of f) (get_or c.args.words.now i g))) w.field-is)
    ]
