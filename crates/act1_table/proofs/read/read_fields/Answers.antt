use Rattle.std.proofs.Common.{ℕ, sym, ap, ◌∙◌, length}
use Rattle.act1_base.specs.Words.{words_of}
use Rattle.act1_table.specs.ReadSteps.{may_have}
use Rattle.act1_table.specs.Table.{field_of}
use Rattle.act1_table.proofs.WordCounts.{none_read, no_word_left}
use Rattle.act1_table.proofs.read.read_fields.Goals as goal

pub returns-then-not-may_have : goal.returns-then-not-may_have
returns-then-not-may_have c =
    none_read c.args.fields.now (field_of c.args.rest) (words_of c.args.line.now)
    (sym (ap (λ (n : ℕ). may_have (length c.args.fields.now) (field_of c.args.rest) n) c.requires.counted) ∙ sym c.may_have.ensures ∙ c.if-not-may_have.true)

pub returns-in_default : goal.returns-in_default
returns-in_default c =
    no_word_left c.loop-field.said.items c.args.fields.now c.loop-field.field-index (field_of c.args.rest) c.loop-field.words c.loop-field-test.true c.in_default.ensures.0
    ∙ sym c.loop-field.invariant
