use Rattle.std.proofs.Common.{length}
use Rattle.act1_cover.specs.Costs.{AreCounts}
use Rattle.act1_cover.proofs.RootCounts.{references_in}
use Rattle.act1_cover.proofs.roots.references_of.Given as goal

-- the places of the first forks
abbrev pub invariant-loop-fork : goal.invariant-loop-fork
invariant-loop-fork l = AreCounts (length l.forest.forks) (references_in l.forest l.fork-index) l.counts.items
