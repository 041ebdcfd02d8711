use Rattle.std.proofs.Common.{◌≤◌, length}
use Rattle.act1_dd.specs.Diagram.{IsFrom, IsRef, Keeps}
use Rattle.act1_dd.proofs.Rows.{AreMarksFrom}
use Rattle.act1_dd.proofs.diagrams.Diagrams.of_marks.Given as goal

-- the diagram is that of the marks from this one on
abbrev pub invariant-loop-var : goal.invariant-loop-var
invariant-loop-var l = record {
  within : l.var ≤ length l.marks;
  keeps : Keeps l.initial.self l.self;
  is_ref : IsRef l.self l.r;
  later : IsFrom l.self l.var l.r;
  value : AreMarksFrom l.self l.marks l.var l.r;
}

abbrev pub decreases-loop-var : goal.decreases-loop-var
decreases-loop-var l = l.var
