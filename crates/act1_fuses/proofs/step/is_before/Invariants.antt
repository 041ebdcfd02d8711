use Rattle.std.proofs.Common.{◌≡◌, drop}
use Rattle.act1_base.specs.Rising.{is_before}
use Rattle.act1_fuses.proofs.step.is_before.Given as goal

-- the numbers to come decide
abbrev pub invariant-loop-i : goal.invariant-loop-i
invariant-loop-i l = is_before (drop l.i l.xs) (drop l.i l.ys) ≡ is_before l.xs l.ys
