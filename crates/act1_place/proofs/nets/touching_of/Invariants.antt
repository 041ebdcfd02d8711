use Rattle.act1_place.specs.Gains.{AreTouching}
use Rattle.act1_place.proofs.nets.touching_of.Given as goal

-- the modules so far
abbrev pub invariant-loop-module : goal.invariant-loop-module
invariant-loop-module l = AreTouching l.«module» l.nets l.found.items
