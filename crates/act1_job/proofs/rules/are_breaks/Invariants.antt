use Rattle.std.proofs.Common.{◌≡◌, drop}
use Rattle.act1_job.specs.Jobs.{are_breaks, breaks_rise}
use Rattle.act1_job.proofs.rules.are_breaks.Given as goal

-- what is to come decides
abbrev pub invariant-loop-b : goal.invariant-loop-b
invariant-loop-b l = are_breaks l.columns l.breaks ≡ breaks_rise l.columns l.before (drop l.b-index l.breaks)
