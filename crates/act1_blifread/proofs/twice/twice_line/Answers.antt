use Rattle.std.proofs.Common.{◌≡◌, ◌+◌, ℕ, List, false, take, length, sym, subst, ◌∙◌}
use Rattle.act1_blifread.specs.Parts.{all_of, given_names, output_names}
use Rattle.act1_blifread.specs.Faults.{is_twice}
use Rattle.act1_blifread.specs.NetlistSteps.{AreMarks}
use Rattle.act1_blifread.proofs.StatementLists.{all_of_more}
use Rattle.act1_blifread.proofs.TwiceLines.{marks_at, twice_more, twice_here, free_more}
use Rattle.act1_blifread.proofs.twice.twice_line.Goals as goal

pub returns-then-is_given_again : goal.returns-then-is_given_again
returns-then-is_given_again c =
    let ss = c.args.statements.now in
    let i = c.loop-numbered.numbered-index in
    let x = c.numbered-item.result in
    let known = c.loop-numbered.invariant in
    let given = marks_at c.args.count (length c.loop-numbered.given.items) (all_of given_names (take i ss)) c.loop-numbered.given.items known.given.all known.given in
    let shown = marks_at c.args.count (length c.loop-numbered.given.items) (all_of output_names (take i ss)) c.loop-numbered.shown.items known.given.all known.shown in
    twice_here ss i x c.loop-numbered-test.true c.numbered-item.is
    (twice_more ss i x c.is_given_again.result c.loop-numbered-test.true c.numbered-item.is (c.is_given_again.ensures.again (all_of given_names (take i ss)) (all_of output_names (take i ss)) given shown) ∙ c.if-is_given_again.true)
    known.free

pub loop-numbered-preserved : goal.loop-numbered-preserved
loop-numbered-preserved c =
    let ss = c.args.statements.now in
    let i = c.loop-numbered.numbered-index in
    let x = c.numbered-item.result in
    let known = c.loop-numbered.invariant in
    let n = length c.loop-numbered.given.items in
    let given = marks_at c.args.count n (all_of given_names (take i ss)) c.loop-numbered.given.items known.given.all known.given in
    let shown = marks_at c.args.count n (all_of output_names (take i ss)) c.loop-numbered.shown.items known.given.all known.shown in
    let here : is_twice (take (i + 1) ss) ≡ false = twice_more ss i x c.is_given_again.result c.loop-numbered-test.true c.numbered-item.is (c.is_given_again.ensures.again (all_of given_names (take i ss)) (all_of output_names (take i ss)) given shown) ∙ c.if-is_given_again.false in
    record {
      given =
          subst (λ (names : List ℕ). AreMarks c.args.count names c.is_given_again.new.given.items) (sym (all_of_more given_names ss i x c.loop-numbered-test.true c.numbered-item.is))
          (marks_at n c.args.count _ _ (sym known.given.all) (c.is_given_again.ensures.given (all_of given_names (take i ss)) given c.if-is_given_again.false));
      shown =
          subst (λ (names : List ℕ). AreMarks c.args.count names c.is_given_again.new.shown.items) (sym (all_of_more output_names ss i x c.loop-numbered-test.true c.numbered-item.is))
          (marks_at n c.args.count _ _ (sym known.given.all) (c.is_given_again.ensures.shown (all_of output_names (take i ss)) shown c.if-is_given_again.false));
      free = free_more ss i known.free here;
    }
