use Rattle.act1_bliftext.specs.Faults.{is_bad_word}
use Rattle.act1_bliftext.proofs.WordLists.{any_found, any_next, any_none, not_not, not_so}
use Rattle.act1_bliftext.proofs.forms.has_bad.Goals as goal

pub returns-then-not-is_fine_word : goal.returns-then-not-is_fine_word
returns-then-not-is_fine_word c = any_found is_bad_word c.args.words.now c.loop-word.word-index _ _ c.loop-word-test.true (not_not _ _ c.is_fine_word.ensures c.if-not-is_fine_word.true) c.loop-word.invariant

pub loop-word-preserved : goal.loop-word-preserved
loop-word-preserved c = any_next is_bad_word c.args.words.now c.loop-word.word-index _ _ c.loop-word-test.true (not_so _ _ c.is_fine_word.ensures c.if-not-is_fine_word.false) c.loop-word.invariant

pub returns : goal.returns
returns c = any_none is_bad_word c.args.words.now c.loop-word.word-index _ c.loop-word-test.false c.loop-word.invariant
