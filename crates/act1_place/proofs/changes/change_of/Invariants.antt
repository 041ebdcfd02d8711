use Rattle.std.proofs.Common.{take}
use Rattle.act1_place.specs.Ends.{IsChange}
use Rattle.act1_place.proofs.changes.change_of.Given as goal

-- the numbers so far
abbrev pub invariant-loop-number : goal.invariant-loop-number
invariant-loop-number l = IsChange l.ends (take l.number-index l.listed) l.others l.«module» l.to l.change
