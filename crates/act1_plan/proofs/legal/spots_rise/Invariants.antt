use Rattle.std.proofs.Common.{◌≡◌, None, drop}
use Rattle.act1_plan.specs.LegalTest.{spots_rise}
use Rattle.act1_plan.proofs.legal.spots_rise.Given as goal

-- what is to come decides
abbrev pub invariant-loop-spot : goal.invariant-loop-spot
invariant-loop-spot l = spots_rise None l.spots ≡ spots_rise l.before (drop l.spot-index l.spots)
