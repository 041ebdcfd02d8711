use Rattle.act1_place.proofs.EndsSteps.{AreEndsSoFar}
use Rattle.act1_place.proofs.reaches.all_ends.Given as goal

-- the nets so far
abbrev pub invariant-loop-net : goal.invariant-loop-net
invariant-loop-net l = AreEndsSoFar l.nets l.spots l.net-index l.all.items
