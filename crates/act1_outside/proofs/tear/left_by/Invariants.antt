use Rattle.std.proofs.Common.{◌≡◌, drop}
use Rattle.act1_outside.specs.Tears.{left_after, left_by}
use Rattle.act1_outside.proofs.tear.left_by.Given as goal

-- the tears to come decide
abbrev pub invariant-loop-at : goal.invariant-loop-at
invariant-loop-at l = left_after l.left l.call (drop l.at l.tears) ≡ left_by l.tears l.call
