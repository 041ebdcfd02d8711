-- What was asked of helpers, by the course of the asking.
use Rattle.std.specs.Prelude.{ℕ, List, count_by, is_some}
use Rattle.act1_channel.specs.declared.problem.Problem.{Problem}
use Rattle.act1_outside.specs.Outside.{Bench}
use Rattle.act1_outside.specs.declared.helpers.Entry.{Entry}
use Rattle.act1_farm.specs.declared.course.Course.{Course}
use Rattle.act1_farm.specs.declared.outcome.Tally.{Tally}
use Rattle.act1_farm.specs.Story.{asked_for}
use Rattle.act1_farm.specs.Course.{AreFound}
use Rattle.act1_farm.specs.Verdicts.{WereAsked}

-- the numbers of an asking
abbrev pub tally_of : Course → Tally
tally_of course = record { asked = course.asked; taken = count_by is_some course.answers; faults = course.faults }

-- helpers were asked, and what was found is in the course
pub record Helped (program : List ℕ) (problems : List Problem) (budget most : ℕ) (before after : Bench) (course : Course) : Type 0 where
  pub s : List Entry
  pub asked : WereAsked program problems budget most before after s (tally_of course)
  pub found : AreFound (asked_for problems) s course.answers
