use Rattle.std.proofs.Common.{◌≡◌, length}
use Rattle.act1_search.specs.Deciding.{AreFirstTrue}
use Rattle.act1_search.proofs.descent.tracks_of.Given as goal

abbrev pub invariant-loop-connection : goal.invariant-loop-connection
invariant-loop-connection l = (length l.tracks ≡ l.connection) × AreFirstTrue l.problem l.watch.steps l.watch.chosen l.tracks
