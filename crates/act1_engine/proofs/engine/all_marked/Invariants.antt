use Rattle.std.proofs.Common.{ℕ, ◌≡◌, ◌<◌}
use Rattle.act1_engine.specs.Marking.{AreMarksAt, mark}
use Rattle.act1_engine.proofs.engine.all_marked.Given as goal

-- the modules so far are marked
abbrev pub invariant-loop-module : goal.invariant-loop-module
invariant-loop-module l = record {
  marked : AreMarksAt l.modules l.modules l.marks;
  all : (k : ℕ) → k < l.module → mark l.marks.words.items k ≡ 1;
}
