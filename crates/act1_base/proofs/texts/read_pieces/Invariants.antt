use Rattle.std.proofs.Common.{◌≡◌, ◌+◌, ◌≤◌, length}
use Rattle.act1_base.specs.Texts.{read_parts, reading}
use Rattle.act1_base.proofs.TextReads.{parts_of}
use Rattle.act1_base.proofs.texts.read_pieces.Given as goal

-- the text to come decides, and its lines are few
abbrev pub invariant-loop-end : goal.invariant-loop-end
invariant-loop-end g l = record {
  few : l.number + length l.rest ≤ length l.bytes + 1;
  rest : read_parts (g.F.Format.rules l.format) l.state l.number (parts_of l.rest) ≡ reading (g.F.Format.rules l.format) l.bytes;
}

abbrev pub decreases-loop-end : goal.decreases-loop-end
decreases-loop-end g l = length l.rest
