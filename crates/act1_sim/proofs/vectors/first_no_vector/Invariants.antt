use Rattle.std.proofs.Common.{◌+◌, ◌≤◌, length}
use Rattle.std.specs.Str.Lines.{lines}
use Rattle.act1_sim.proofs.LineTexts.{AreBefore}
use Rattle.act1_sim.proofs.vectors.first_no_vector.Given as goal

-- the lines so far were vectors, and those to come decide
abbrev pub invariant-loop-line : goal.invariant-loop-line
invariant-loop-line l = record {
  can : (goal.iterator-loop-line).can_next l.line-iterator;
  finite : (goal.iterator-loop-line).is_finite l.line-iterator;
  few : l.number + length l.line-iterator ≤ length l.bytes + 2;
  before : AreBefore l.width (lines l.bytes) l.number l.line-iterator;
}
