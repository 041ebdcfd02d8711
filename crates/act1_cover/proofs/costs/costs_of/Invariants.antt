use Rattle.std.proofs.Common.{◌≤◌, length}
use Rattle.act1_cover.specs.Costs.{AreBestFrom}
use Rattle.act1_cover.proofs.costs.costs_of.Given as goal

-- the entries from this fork on
abbrev pub invariant-loop-fork : goal.invariant-loop-fork
invariant-loop-fork l = record { within : l.fork ≤ length l.forest.forks; best : AreBestFrom l.forest l.fork l.table.items }

abbrev pub decreases-loop-fork : goal.decreases-loop-fork
decreases-loop-fork l = l.fork
