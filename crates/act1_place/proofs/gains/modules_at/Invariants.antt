use Rattle.act1_place.proofs.SiteFacts.{AreAtSoFar}
use Rattle.act1_place.proofs.gains.modules_at.Given as goal

-- the modules so far stand at their sites
abbrev pub invariant-loop-module : goal.invariant-loop-module
invariant-loop-module l = AreAtSoFar l.rows l.columns l.spots l.«module» l.at.items
