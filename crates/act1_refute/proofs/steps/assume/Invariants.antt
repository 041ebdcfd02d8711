use Rattle.std.proofs.Common.{◌≡◌, map, take}
use Rattle.act1_channel.specs.Clauses.{taken}
use Rattle.act1_channel.specs.Found.{facts_of, IsFor}
use Rattle.act1_refute.proofs.steps.assume.Given as goal

abbrev pub invariant-loop-choice : goal.invariant-loop-choice
invariant-loop-choice l = IsFor l.problem l.trail × (facts_of l.trail.entries ≡ map taken (take l.choice-index l.choices))
