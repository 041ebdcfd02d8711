use Rattle.std.proofs.Common.{◌≡◌, drop}
use Rattle.act1_plan.specs.LegalTest.{starts_differ}
use Rattle.act1_plan.proofs.legal.starts_differ.Given as goal

-- what is to come decides
abbrev pub invariant-loop-at : goal.invariant-loop-at
invariant-loop-at l = starts_differ l.starts ≡ starts_differ (drop l.at l.starts)
