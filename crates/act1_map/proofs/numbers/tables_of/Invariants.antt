use Rattle.std.proofs.Common.{take}
use Rattle.act1_map.specs.MapSteps.{AreTables}
use Rattle.act1_map.proofs.numbers.tables_of.Given as goal

-- the first nodes have their tables
abbrev pub invariant-loop-covered : goal.invariant-loop-covered
invariant-loop-covered l = AreTables (take l.covered-index l.covers) l.tables.items
