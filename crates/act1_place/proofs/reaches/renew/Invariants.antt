use Rattle.std.proofs.Common.{take}
use Rattle.act1_place.specs.Ends.{AreRenewed}
use Rattle.act1_place.proofs.reaches.renew.Given as goal

-- the numbers so far
abbrev pub invariant-loop-number : goal.invariant-loop-number
invariant-loop-number l = AreRenewed l.nets l.spots (take l.number-index l.listed) l.initial.ends l.ends
