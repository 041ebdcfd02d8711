use Rattle.std.proofs.Common.{◌≡◌, [], drop, length}
use Rattle.act1_base.specs.Words.{words_of}
use Rattle.act1_table.specs.Reads.{read_fields}
use Rattle.act1_table.specs.Table.{fields_of, field_of}
use Rattle.act1_table.proofs.read.read_fields.Given as goal

-- what is to come decides, among the first words and behind them
abbrev pub invariant-loop-field : goal.invariant-loop-field
invariant-loop-field l = read_fields [] (fields_of l.fields) (field_of l.fn.rest) (words_of l.line) ≡ read_fields l.said.items (fields_of (drop l.field-index l.fields)) (field_of l.fn.rest) l.words

abbrev pub invariant-loop-word : goal.invariant-loop-word
invariant-loop-word l = read_fields [] (fields_of l.fields) (field_of l.fn.rest) (words_of l.line) ≡ read_fields l.said.items [] (field_of l.fn.rest) l.words

-- a word fewer is left
abbrev pub decreases-loop-word : goal.decreases-loop-word
decreases-loop-word l = length l.words
