use Rattle.std.proofs.Common.{◌≡◌, map, take}
use Rattle.act1_logic.specs.OnSets.{mark_of}
use Rattle.act1_extract.proofs.covers.row_of.Given as goal

abbrev pub invariant-loop-bit : goal.invariant-loop-bit
invariant-loop-bit l = l.marks ≡ map mark_of (take l.bit-index l.bits)
