use Rattle.std.proofs.Common.{◌≡◌, drop}
use Rattle.act1_plan.specs.LegalTest.{outputs_differ}
use Rattle.act1_plan.proofs.legal.outputs_differ.Given as goal

-- what is to come decides
abbrev pub invariant-loop-at : goal.invariant-loop-at
invariant-loop-at l = outputs_differ l.outputs ≡ outputs_differ (drop l.at l.outputs)
