use Rattle.std.proofs.Common.{ℕ, ◌+◌, List, ap, subst, sym, ◌∙◌}
use Rattle.std.proofs.lemmas.Result.{err_from_is_err_and}
use Rattle.act1_bliftext.specs.Tables.{AreNumbersOf}
use Rattle.act1_bliftext.proofs.WordLists.{texts}
use Rattle.act1_bliftext.proofs.Numbering.{names_turn, numbers_turn, numbers_err, numbers_end}
use Rattle.act1_bliftext.proofs.names.Names.numbers.Goals as goal

pub returns-in_err-number : goal.returns-in_err-number
returns-in_err-number c =
    let p = err_from_is_err_and c.from_residual-in_err-number.result c.from_residual-in_err-number.ensures.1 in
    rw (p.1, p.2) (numbers_err c.loop-word.self c.number.new.self c.number.new.self c.args.words.now c.loop-word.word-index _ c.args.self.now c.in_err-number.field-0.0 c.loop-word-test.true c.in_err-number.ensures c.loop-word.invariant.names)

pub loop-word-preserved : goal.loop-word-preserved
loop-word-preserved c = record {
  names = names_turn c.loop-word.self c.number.new.self c.args.words.now c.loop-word.word-index _ c.loop-word.numbers.items c.in_ok-number.number _ c.loop-word-test.true c.in_ok-number.ensures.0 c.loop-word.invariant.names;
  numbers = numbers_turn c.loop-word.self c.number.new.self c.args.words.now c.loop-word.word-index _ c.loop-word.numbers.items c.push_reserved.new.self.items c.in_ok-number.number c.loop-word-test.true c.in_ok-number.ensures.0 c.in_ok-number.ensures.1 c.push_reserved.ensures.items c.loop-word.invariant.numbers;
  few = c.in_ok-number.ensures.2;
  taken = c.push_reserved.ensures.len ∙ ap (λ (n : ℕ). n + 1) c.loop-word.invariant.taken;
  room = c.push_reserved.ensures.capacity ∙ c.loop-word.invariant.room;
}

pub returns : goal.returns
returns c =
    let h = numbers_end c.loop-word.self c.args.self.now c.args.words.now c.loop-word.word-index c.loop-word.numbers.items c.loop-word-test.false c.loop-word.invariant.names c.loop-word.invariant.numbers in
    (h.0, subst (λ (ns : List ℕ). AreNumbersOf c.loop-word.self ns (texts c.args.words.now)) (sym c.from_vec.ensures) h.1, c.loop-word.invariant.few)
