use Rattle.std.proofs.Common.{length}
use Rattle.act1_farm.specs.Story.{asked_for}
use Rattle.act1_farm.specs.Course.{IsCourse}
use Rattle.act1_farm.specs.Steps.{left_to_do}
use Rattle.act1_farm.proofs.asking.ask_all.Given as goal

abbrev pub invariant-loop-course : goal.invariant-loop-course
invariant-loop-course g l = IsCourse l.program (asked_for l.problems) l.budget l.jobs (g.H.Helpers.seen l.initial.helpers) (g.H.Helpers.seen l.helpers) l.course

abbrev pub decreases-loop-course : goal.decreases-loop-course
decreases-loop-course g l = left_to_do (length (asked_for l.problems)) l.course
