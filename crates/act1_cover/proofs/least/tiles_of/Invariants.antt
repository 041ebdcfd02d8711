use Rattle.act1_cover.specs.Costs.{IsPass}
use Rattle.act1_cover.proofs.least.tiles_of.Given as goal

-- the tiles of the forks so far
abbrev pub invariant-loop-fork : goal.invariant-loop-fork
invariant-loop-fork l = IsPass l.forest l.table l.fork l.marks.items l.tiles
