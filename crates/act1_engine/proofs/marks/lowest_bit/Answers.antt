use Rattle.std.proofs.Common.{◌<◌, arith, w64}
use Rattle.std.proofs.lemmas.Nat.Bits.{bit_at-trailing_zeros}
use Rattle.act1_engine.proofs.marks.lowest_bit.Goals as goal

pub returns-else-word-eq0-clause-some : goal.returns-else-word-eq0-clause-some
returns-else-word-eq0-clause-some c =
    let some : 0 < c.args.word = omega arith in
    let found = bit_at-trailing_zeros w64 c.args.word some c.ranges.word.fits in
    record { within = found.0; there = found.1; lowest = found.2 }
