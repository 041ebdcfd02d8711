use Rattle.std.proofs.Common.{◌≡◌, []}
use Rattle.act1_channel.specs.Found.{IsFor}
use Rattle.act1_refute.specs.Verdict.{AreAcceptedBelow}
use Rattle.act1_refute.proofs.checker.check.Given as goal

-- the steps so far are accepted
abbrev pub invariant-loop-number : goal.invariant-loop-number
invariant-loop-number l = IsFor l.problem l.trail × (l.trail.entries ≡ []) × AreAcceptedBelow l.problem l.steps l.number
