use Rattle.std.proofs.Common.{◌≡◌, ◌++◌, drop}
use Rattle.act1_table.specs.Table.{fields_of, field_of}
use Rattle.act1_table.specs.Forms.{spell_fields}
use Rattle.act1_table.specs.WriteSteps.{spaced_words}
use Rattle.act1_table.proofs.write.write_fields.Given as goal

-- what is to come is left to write
abbrev pub invariant-loop-at : goal.invariant-loop-at
invariant-loop-at l = l.initial.text.items ++ spaced_words 0 (spell_fields (fields_of l.fields) (field_of l.fn.rest) l.words) ≡ l.text.items ++ spaced_words l.at (spell_fields (fields_of (drop l.at l.fields)) (field_of l.fn.rest) (drop l.at l.words))
