use Rattle.std.proofs.Common.{◌≡◌, ◌-◌, drop}
use Rattle.act1_base.specs.Rising.{is_rising}
use Rattle.act1_devread.proofs.tracks.is_rising.Given as goal

abbrev pub invariant-loop-i : goal.invariant-loop-i
invariant-loop-i l = is_rising (drop (l.i - 1) l.breaks) ≡ is_rising l.breaks
