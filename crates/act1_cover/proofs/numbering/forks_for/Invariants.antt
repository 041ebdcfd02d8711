use Rattle.std.proofs.Common.{◌-◌, length, take}
use Rattle.std.specs.List.{AllZip}
use Rattle.act1_cover.specs.Visiting.{IsForkFor}
use Rattle.act1_cover.proofs.numbering.forks_for.Given as goal

-- a fork for each of the first that were found
abbrev pub invariant-loop-node : goal.invariant-loop-node
invariant-loop-node l = AllZip (IsForkFor l.store l.found.keys) (take (length l.forks) l.found.keys) l.forks

abbrev pub decreases-loop-node : goal.decreases-loop-node
decreases-loop-node l = length l.found.keys - length l.forks
