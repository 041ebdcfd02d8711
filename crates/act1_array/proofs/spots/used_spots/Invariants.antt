use Rattle.std.proofs.Common.{◌≡◌, ◌++◌, drop}
use Rattle.act1_array.proofs.SpotLemmas.{spots_from}
use Rattle.act1_array.proofs.spots.used_spots.Given as goal

-- what is to come decides
abbrev pub invariant-loop-place : goal.invariant-loop-place
invariant-loop-place l = l.spots ++ spots_from l.place (drop l.place l.marks.items) ≡ spots_from 0 l.marks.items
