use Rattle.act1_base.proofs.NumberWords.{capped_more}
use Rattle.act1_base.proofs.words.capped_number.Goals as goal

pub loop-byte-preserved : goal.loop-byte-preserved
loop-byte-preserved c = capped_more c.args.most c.args.bytes.now c.loop-byte.byte-index _ _ c.loop-byte-test.true c.requires c.loop-byte.invariant c.with_digit_capped-value.ensures
