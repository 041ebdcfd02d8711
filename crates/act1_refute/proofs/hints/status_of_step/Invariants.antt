use Rattle.std.proofs.Common.{false, take}
use Rattle.std.specs.Prelude.{Contains}
use Rattle.act1_channel.specs.Found.{facts_of}
use Rattle.act1_refute.specs.StatusSteps.{IsStatus}
use Rattle.act1_refute.proofs.hints.status_of_step.Given as goal

abbrev pub invariant-loop-choice : goal.invariant-loop-choice
invariant-loop-choice l = IsStatus (facts_of l.trail.entries) Unit false (Contains (take l.choice-index l.choices)) l.status
