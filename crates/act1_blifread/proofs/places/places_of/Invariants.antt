use Rattle.std.proofs.Common.{take}
use Rattle.act1_blifread.specs.NetlistSteps.{ArePlaces}
use Rattle.act1_blifread.proofs.places.places_of.Given as goal

-- the places are those of the names so far
abbrev pub invariant-loop-place : goal.invariant-loop-place
invariant-loop-place l = ArePlaces l.count (take l.place l.names) l.places.items
