use Rattle.std.proofs.Common.{refl}
use Rattle.act1_bliftext.proofs.Valid.{says_valid, closed_says}
use Rattle.act1_bliftext.proofs.finish.statements_of.Goals as goal

pub invariant_of-result : goal.invariant_of-result
invariant_of-result c = record {
  valid = says_valid c.requires.above c.close.new.reading.model c.in_ok-into_items.field-0 c.close.new.reading.statements c.requires.faultless
      (closed_says c.requires.above c.args.reading c.close.new.reading c.in_ok-into_items.field-0 c.close.new.reading.statements c.requires.read c.in_ok-close.ensures c.in_ok-into_items.ensures refl);
}

pub returns : goal.returns
returns c = λ above r.
    closed_says above c.args.reading c.close.new.reading c.in_ok-into_items.field-0 c.close.new.reading.statements r c.in_ok-close.ensures c.in_ok-into_items.ensures refl
