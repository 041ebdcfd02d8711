use Rattle.std.proofs.Common.{◌≡◌, take}
use Rattle.act1_groute.proofs.problem.copy_of_tracks.Given as goal

-- the tracks so far
abbrev pub invariant-loop-breaks : goal.invariant-loop-breaks
invariant-loop-breaks l = l.copies.items ≡ take l.breaks-index l.tracks
