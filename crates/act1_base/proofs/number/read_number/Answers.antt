use Rattle.std.proofs.Common.{arith}
use Rattle.std.proofs.lemmas.Bool.Decides.{nat_tests}
use Rattle.act1_base.proofs.Spelling.{not_empty, digit_in, value_le, no_zero, next_read}
use Rattle.act1_base.proofs.number.read_number.Goals as goal

pub returns-then-is_empty : goal.returns-then-is_empty
returns-then-is_empty c = λ n le spelled. grind (arith, nat_tests, not_empty c.args.bytes.now n (omega arith) spelled)

pub returns-then-value-eq0 : goal.returns-then-value-eq0
returns-then-value-eq0 c = λ n le spelled.
    no_zero c.args.bytes.now n (omega arith) spelled c.loop-i.i c.if-i-gt0.true c.loop-i-test.true
    (rw c.if-value-eq0.true at (c.loop-i.invariant.2 c.if-i-gt0.true))

pub returns-in-None : goal.returns-in-None
returns-in-None c = λ n le spelled.
    let digit = digit_in c.args.bytes.now n (omega arith) spelled c.loop-i.i (omega arith) in
    let most = value_le c.args.bytes.now n (omega arith) spelled c.loop-i.i (omega arith) in
    c.in-None.ensures (digit.0, digit.1, omega arith)

pub loop-i-preserved : goal.loop-i-preserved
loop-i-preserved c =
    next_read c.args.bytes.now c.loop-i.i c.loop-i.value c.in-Some.next c.args.most c.loop-i-test.true (omega arith)
    c.loop-i.invariant.1 c.loop-i.invariant.2 c.else-i-gt0.either c.in-Some.ensures
