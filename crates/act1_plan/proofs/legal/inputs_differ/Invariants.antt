use Rattle.std.proofs.Common.{◌≡◌, drop}
use Rattle.act1_plan.specs.LegalTest.{inputs_differ}
use Rattle.act1_plan.proofs.legal.inputs_differ.Given as goal

-- what is to come decides
abbrev pub invariant-loop-at : goal.invariant-loop-at
invariant-loop-at l = inputs_differ l.starts l.inputs ≡ inputs_differ l.starts (drop l.at l.inputs)
