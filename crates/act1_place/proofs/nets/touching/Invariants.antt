use Rattle.act1_place.proofs.NetFinds.{IsTouching}
use Rattle.act1_place.proofs.nets.touching.Given as goal

-- the nets so far
abbrev pub invariant-loop-at : goal.invariant-loop-at
invariant-loop-at l = IsTouching l.nets l.«module» l.at l.numbers.items
