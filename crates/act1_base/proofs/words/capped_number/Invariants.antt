use Rattle.std.proofs.Common.{◌≡◌, take}
use Rattle.act1_base.specs.Capped.{capped}
use Rattle.act1_base.proofs.words.capped_number.Given as goal

-- the digits so far
abbrev pub invariant-loop-byte : goal.invariant-loop-byte
invariant-loop-byte l = l.value ≡ capped l.most (take l.byte-index l.bytes)
