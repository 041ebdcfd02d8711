use Rattle.std.proofs.Common.{arith, sym, ◌∙◌}
use Rattle.act1_bliftext.proofs.WordTurns.{blank_step, other_step, last_word}
use Rattle.act1_bliftext.proofs.words.add_words.Goals as goal
use Rattle.act1_bliftext.proofs.words.add_words.Goals.{then-is_blank+in_ok-add_word, else-is_blank}

pub loop-i-preserved : goal.loop-i-preserved
loop-i-preserved c = elim c.if-is_blank.branch [
  | then-is_blank+in_ok-add_word w ↦ rw (w.words-is, w.start-is) (record {
    words = blank_step c.args.line.now c.loop-i.start c.loop-i.i _ _ _ c.loop-i-test.true (sym c.is_blank.ensures ∙ w.if-is_blank.true) w.in_ok-add_word.ensures c.loop-i.invariant.words;
    order = omega arith;
  })
  | else-is_blank w ↦ rw (w.words-is, w.start-is) (record {
    words = other_step c.args.line.now c.loop-i.start c.loop-i.i _ _ c.loop-i.invariant.order c.loop-i-test.true (sym c.is_blank.ensures ∙ w.if-is_blank.false) c.loop-i.invariant.words;
    order = omega arith;
  })
]

pub returns : goal.returns
returns c = last_word c.args.line.now c.loop-i.start c.loop-i.i _ _ _ c.loop-i.invariant.order c.loop-i-test.false c.in_ok-add_word-2.ensures c.loop-i.invariant.words
