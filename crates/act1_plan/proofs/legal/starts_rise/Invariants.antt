use Rattle.std.proofs.Common.{◌≡◌, None, drop}
use Rattle.act1_plan.specs.LegalTest.{starts_rise}
use Rattle.act1_plan.proofs.legal.starts_rise.Given as goal

-- what is to come decides
abbrev pub invariant-loop-start : goal.invariant-loop-start
invariant-loop-start l = starts_rise None l.starts ≡ starts_rise l.before (drop l.start-index l.starts)
