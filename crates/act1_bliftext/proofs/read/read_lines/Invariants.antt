use Rattle.std.proofs.Common.{◌+◌, ◌≤◌, length}
use Rattle.act1_bliftext.specs.Lines.{text_lines}
use Rattle.act1_bliftext.specs.PlaceSteps.{IsPlace, kept_bytes}
use Rattle.act1_bliftext.proofs.Bounds.{weight}
use Rattle.act1_bliftext.proofs.read.read_lines.Given as goal

-- the lines to come decide, and what is kept and what is to come has no more bytes than the text
abbrev pub invariant-loop-line : goal.invariant-loop-line
invariant-loop-line l = record {
  can : (goal.iterator-loop-line).can_next l.line-iterator;
  finite : (goal.iterator-loop-line).is_finite l.line-iterator;
  place : IsPlace (text_lines l.bytes) l.line-iterator l.place;
  kept : kept_bytes l.place + weight l.line-iterator ≤ length l.bytes + 1;
  number : l.place.number + weight l.line-iterator ≤ length l.bytes + 2;
}
