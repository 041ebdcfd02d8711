use Rattle.std.proofs.Common.{◌≡◌, map, take}
use Rattle.act1_table.specs.Values.{number_up_to}
use Rattle.act1_job.proofs.table.breaks_of.Given as goal

-- the numbers so far
abbrev pub invariant-loop-at : goal.invariant-loop-at
invariant-loop-at l = l.breaks ≡ map (number_up_to 64) (take l.at l.words)
